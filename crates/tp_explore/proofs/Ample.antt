-- A room of 4 is as good as any more: what a call plans to do is the same.
use mathlib.Core.Path.{fun_ext}
use Rattle.std.proofs.Common.{◌≡◌, ℕ, ◌≤◌, Bool, false, cond, nat_le, nat_lt, not, ◌&&◌, ◌||◌, ◌==◌, List, [], ◌∷◌, Option, Some, None, refl, ap, ap₂, ◌∙◌, arith, length}
use Rattle.std.specs.List.{list_all, list_any, range_with_len}
use Rattle.std.specs.Option.{option_map_or}
use Rattle.tp_base.specs.declared.answers.Answer.TheVariants as answer
use Rattle.tp_base.specs.declared.answers.Look.TheVariants as look
use Rattle.tp_base.specs.declared.plans.Change.TheVariants as change
use Rattle.tp_base.specs.declared.plans.WaitEnd.TheVariants.{Exhausted, Stalled}
use Rattle.tp_base.specs.declared.calls.Call.{Call}
use Rattle.tp_base.specs.declared.calls.Call.TheVariants.{CreatePool, End}
use Rattle.tp_base.specs.declared.ids.Who.{Who}
use Rattle.tp_base.specs.declared.ids.Who.TheVariants.{Client, Worker}
use Rattle.tp_base.specs.declared.plans.Plan.{Plan}
use Rattle.tp_base.specs.declared.plans.Plan.TheVariants.{Does, Looked, Refused}
use Rattle.tp_base.specs.declared.rows.CallbackRow.{CallbackRow}
use Rattle.tp_base.specs.declared.rows.WaitTarget.{WaitTarget}
use Rattle.tp_base.specs.declared.rows.WaitTarget.TheVariants.{Object, Group, Kernel}
use Rattle.tp_model.specs.Calls.End.{end_plan, end_refusals, end_unless_stalled}
use Rattle.tp_model.specs.Calls.Waits.{end_for, end_held, end_wait, is_starved}
use Rattle.tp_model.specs.Conditions.{is_finished, runs_callback}
use Rattle.tp_model.specs.Counts.{attached, callback_of, idle, is_pending, maximum, pending, running}
use Rattle.tp_model.specs.Refusing.{first_refusal, unless_refused}
use Rattle.tp_model.specs.Stalled.{is_client_stuck, is_free, is_kept_waiting, is_look, is_pool_stuck, is_stalled, is_worker_stuck, lacks_room_to_run, waits_on}
use Rattle.tp_model.specs.Table.{plan_at}
use Rattle.tp_model.specs.Waits.{held, wait_of}
use Rattle.tp_model.specs.World.{BegunWait, World}
use Rattle.tp_explore.specs.Scenes.{ample}

module _ (w : World) (room : ℕ) (enough : 4 ≤ room) where
  not_below_2 : nat_lt room 2 ≡ false
  not_below_2 = grind (arith, enough)

  not_below_4 : nat_lt room 4 ≡ false
  not_below_4 = grind (arith, enough)

  starved_same : is_starved w room ≡ is_starved w ample
  starved_same = fun_ext (λ (c : CallbackRow). ap₂ (λ a b. is_pending c.status && (a || (b && (attached w c.pool.0 == 0)))) not_below_2 not_below_4)

  lacks_same : (pool : ℕ) → lacks_room_to_run w room pool ≡ lacks_room_to_run w ample pool
  lacks_same pool = ap₂ (λ a b. a || ((idle w pool == 0) && (b || not (list_any (is_free w) w.workers)))) not_below_2 not_below_4

  held_same : (who : Who) (b : BegunWait) (numbers : List ℕ) → end_held w room who b numbers ≡ end_held w ample who b numbers
  held_same who b [] = refl
  held_same who b (number ∷ numbers) =
      ap (λ (test : CallbackRow → Bool). cond (list_any (λ n. option_map_or test (callback_of w n) false) (number ∷ numbers)) (Does answer.Exhausted (change.EndWait who Exhausted)) (Looked (look.NotYet number))) starved_same

  for_same : (who : Who) (b : BegunWait) (target : WaitTarget) → end_for w room who b target ≡ end_for w ample who b target
  for_same who b (Object object) = held_same who b (held w b)
  for_same who b (Group group) = held_same who b (held w b)
  for_same who b (Kernel kernel) = refl

  wait_same : (who : Who) (b : Option BegunWait) → end_wait w room who b ≡ end_wait w ample who b
  wait_same who None = refl
  wait_same who (Some b) = for_same who b b.target

  waits_same : (who : Who) → waits_on w room who ≡ waits_on w ample who
  waits_same who = ap is_look (wait_same who (wait_of w who))

  clients_same : is_client_stuck w room ≡ is_client_stuck w ample
  clients_same = fun_ext (λ number. ap (λ b. is_finished w (Client number) || b) (waits_same (Client number)))

  workers_same : is_worker_stuck w room ≡ is_worker_stuck w ample
  workers_same = fun_ext (λ number. ap (λ b. not (runs_callback w (Worker number)) || b) (waits_same (Worker number)))

  pools_same : is_pool_stuck w room ≡ is_pool_stuck w ample
  pools_same = fun_ext (λ pool. ap (λ b. (pending w pool == 0) || nat_le (maximum w pool) (running w pool) || is_kept_waiting w pool || b) (lacks_same pool))

  stalled_same : is_stalled w room ≡ is_stalled w ample
  stalled_same =
      ap₂ (λ (f g : ℕ → Bool). list_all f (range_with_len 1 (length w.clients)) && list_all g (range_with_len 1 (length w.workers)) && list_all (is_pool_stuck w room) (range_with_len 0 (length w.pools))) clients_same workers_same
      ∙ ap (λ (f : ℕ → Bool). list_all (is_client_stuck w ample) (range_with_len 1 (length w.clients)) && list_all (is_worker_stuck w ample) (range_with_len 1 (length w.workers)) && list_all f (range_with_len 0 (length w.pools))) pools_same

  end_same : (who : Who) → end_plan w room who ≡ end_plan w ample who
  unfolding end_plan
  end_same who = ap (unless_refused (first_refusal (end_refusals w who))) (unless_stalled (end_wait w room who (wait_of w who)) (end_wait w ample who (wait_of w who)) (wait_same who (wait_of w who)))
    where
      of_plan : (q : Plan) → end_unless_stalled w room who q ≡ end_unless_stalled w ample who q
      of_plan (Looked seen) = ap (λ b. cond b (Does answer.Stalled (change.EndWait who Stalled)) (Looked seen)) stalled_same
      of_plan (Refused refusal) = refl
      of_plan (Does told how) = refl

      unless_stalled : (p q : Plan) → p ≡ q → end_unless_stalled w room who p ≡ end_unless_stalled w ample who q
      unless_stalled p q same = ap (end_unless_stalled w room who) same ∙ of_plan q

  pub plan_same : (next_number : ℕ) (who : Who) (call : Call) → plan_at w next_number room who call ≡ plan_at w next_number ample who call
  plan_same next_number who End = end_same who
  plan_same next_number who CreatePool = refl
  plan_same next_number who _ = refl
