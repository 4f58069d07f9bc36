-- A world whose waits cover only what is outstanding has the same plans.
use Rattle.std.proofs.Common.{◌≡◌, ℕ, ◌||◌, ◌&&◌, not, is_none, cond, List, [], ◌∷◌, length, Option, Some, None, option_map, refl, ap, ap₂, ◌∙◌}
use Rattle.std.specs.List.{range_with_len}
use Rattle.tp_base.specs.Actors.{is_same_actor}
use Rattle.tp_base.specs.declared.answers.Answer.TheVariants as answer
use Rattle.tp_base.specs.declared.ids.ObjectId.{ObjectId}
use Rattle.tp_base.specs.declared.ids.Who.{Who}
use Rattle.tp_base.specs.declared.ids.Who.TheVariants.{Client, Worker}
use Rattle.tp_base.specs.declared.plans.Change.TheVariants as change
use Rattle.tp_base.specs.declared.plans.Plan.{Plan}
use Rattle.tp_base.specs.declared.plans.Plan.TheVariants.{Does, Looked, Refused}
use Rattle.tp_base.specs.declared.plans.WaitEnd.TheVariants as how
use Rattle.tp_base.specs.declared.rows.WaitTarget.{WaitTarget}
use Rattle.tp_base.specs.declared.rows.WaitTarget.TheVariants.{Group, Kernel, Object}
use Rattle.tp_model.specs.World.{World, BegunWait}
use Rattle.tp_model.specs.Conditions.{is_finished, is_in_wait, runs_callback}
use Rattle.tp_model.specs.Refusing.{first_refusal, unless_refused}
use Rattle.tp_model.specs.Stalled.{is_client_stuck, is_look, is_pool_stuck, is_stalled, is_worker_stuck, waits_on}
use Rattle.tp_model.specs.Waits.{held, is_held, wait_of}
use Rattle.tp_model.specs.Calls.End.{end_plan, end_refusals, end_unless_stalled}
use Rattle.tp_model.specs.Calls.Waits.{end_for, end_held, end_notices, end_wait}
use Rattle.tp_model.proofs.Lists.{filter_filter}
use Rattle.renamed_worlds.specs.Closed.{settled, settled_wait}
use Rattle.renamed_worlds.proofs.Mapped.{all_agree, any_map, find_map, none_mapped}

module _ (w : World) where
  abbrev v : World
  v = settled w

  pub in_wait_settled : (who : Who) → is_in_wait v who ≡ is_in_wait w who
  in_wait_settled who = any_map (settled_wait w) (λ (b : BegunWait). is_same_actor b.actor who) (λ (b : BegunWait). is_same_actor b.actor who) (λ _. refl) w.waits

  pub wait_settled : (who : Who) → wait_of v who ≡ option_map (settled_wait w) (wait_of w who)
  wait_settled who = find_map (settled_wait w) (λ (b : BegunWait). is_same_actor b.actor who) (λ (b : BegunWait). is_same_actor b.actor who) (λ _. refl) w.waits

  held_settled : (b : BegunWait) → held v (settled_wait w b) ≡ held w b
  held_settled b = filter_filter (is_held w b.target) (is_held w b.target) (λ _ e. e) b.covered

  -- ---- the end of a wait

  end_wait_settled : (room : ℕ) (who : Who) → end_wait v room who (wait_of v who) ≡ end_wait w room who (wait_of w who)
  end_wait_settled room who = ap (end_wait v room who) (wait_settled who) ∙ of_wait (wait_of w who)
    where
      gives : (b : BegunWait) (notices : List ObjectId) → end_notices v who b.cleanup notices ≡ end_notices w who b.cleanup notices
      gives b [] = refl
      gives b (object ∷ objects) = refl

      ends_with : (b : BegunWait) (numbers : List ℕ) → end_held v room who (settled_wait w b) numbers ≡ end_held w room who b numbers
      ends_with b [] = gives b b.notices
      ends_with b (n ∷ ns) = refl

      of_target : (b : BegunWait) (target : WaitTarget) → end_for v room who (settled_wait w b) target ≡ end_for w room who b target
      of_target b (Object object) = ap (end_held v room who (settled_wait w b)) (held_settled b) ∙ ends_with b (held w b)
      of_target b (Group group) = ap (end_held v room who (settled_wait w b)) (held_settled b) ∙ ends_with b (held w b)
      of_target b (Kernel kernel) = refl

      of_wait : (o : Option BegunWait) → end_wait v room who (option_map (settled_wait w) o) ≡ end_wait w room who o
      of_wait None = refl
      of_wait (Some b) = of_target b b.target

  -- ---- whether the machine is stalled

  waits_on_settled : (room : ℕ) (who : Who) → waits_on v room who ≡ waits_on w room who
  waits_on_settled room who = ap is_look (end_wait_settled room who)

  client_settled : (room number : ℕ) → is_client_stuck v room number ≡ is_client_stuck w room number
  client_settled room number = ap (λ b. is_finished w (Client number) || b) (waits_on_settled room (Client number))

  worker_settled : (room number : ℕ) → is_worker_stuck v room number ≡ is_worker_stuck w room number
  worker_settled room number = ap (λ b. not (runs_callback w (Worker number)) || b) (waits_on_settled room (Worker number))

  stalled_settled : (room : ℕ) → is_stalled v room ≡ is_stalled w room
  stalled_settled room =
      ap₂ (λ a b. a && b)
      (ap₂ (λ a b. a && b) (all_agree (is_client_stuck v room) (is_client_stuck w room) (client_settled room) (range_with_len 1 (length w.clients)))
      (all_agree (is_worker_stuck v room) (is_worker_stuck w room) (worker_settled room) (range_with_len 1 (length w.workers))))
      (all_agree (is_pool_stuck v room) (is_pool_stuck w room) (λ _. refl) (range_with_len 0 (length w.pools)))

  pub end_settled : (room : ℕ) (who : Who) → end_plan v room who ≡ end_plan w room who
  unfolding end_plan
  end_settled room who =
      let same : end_refusals v who ≡ end_refusals w who = rw (ap is_none (wait_settled who) ∙ none_mapped (settled_wait w) (wait_of w who)) in
      ap₂ (λ rs p. unless_refused (first_refusal rs) p) same
      (ap (end_unless_stalled v room who) (end_wait_settled room who) ∙ of_plan (end_wait w room who (wait_of w who)))
    where
      of_plan : (p : Plan) → end_unless_stalled v room who p ≡ end_unless_stalled w room who p
      of_plan (Refused refusal) = refl
      of_plan (Does told change) = refl
      of_plan (Looked seen) = ap (λ b. cond b (Does answer.Stalled (change.EndWait who how.Stalled)) (Looked seen)) (stalled_settled room)
