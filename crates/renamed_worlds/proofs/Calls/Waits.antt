-- Calls that begin and end waits, and the stall of a machine, in a renamed world.
use Rattle.std.proofs.Common.{◌≡◌, ℕ, ◌||◌, ◌&&◌, ◌==◌, not, nat_lt, nat_le, Bool, true, false, cond, List, [], ◌∷◌, ◌++◌, length, map, is_none, is_some, Option, Some, None, option_map, refl, ap, ap₂, ◌∙◌}
use Rattle.std.specs.List.{list_all, list_any, range_with_len}
use Rattle.std.specs.Option.{option_map_or}
use Rattle.std.proofs.lemmas.List.{length-map}
use Rattle.tp_base.specs.Kernels.{may_take}
use Rattle.tp_base.specs.declared.answers.Answer.TheVariants as answer
use Rattle.tp_base.specs.declared.answers.Look.TheVariants as look
use Rattle.tp_base.specs.declared.answers.Refusal.TheVariants.{OwnCallback}
use Rattle.tp_base.specs.declared.calls.Kind.{Kind}
use Rattle.tp_base.specs.declared.ids.KernelId.{KernelId}
use Rattle.tp_base.specs.declared.ids.ObjectId.{ObjectId}
use Rattle.tp_base.specs.declared.ids.PoolId.{PoolId}
use Rattle.tp_base.specs.declared.ids.Who.{Who}
use Rattle.tp_base.specs.declared.ids.Who.TheVariants.{Client, Worker}
use Rattle.tp_base.specs.declared.plans.Awaited.TheVariants as awaited
use Rattle.tp_base.specs.declared.plans.Change.TheVariants as change
use Rattle.tp_base.specs.declared.plans.KernelChange.TheVariants.{Take}
use Rattle.tp_base.specs.declared.plans.Plan.{Plan}
use Rattle.tp_base.specs.declared.plans.Plan.TheVariants.{Does, Looked, Refused}
use Rattle.tp_base.specs.declared.plans.WaitEnd.TheVariants as how
use Rattle.tp_base.specs.declared.rows.WaitTarget.{WaitTarget}
use Rattle.tp_base.specs.declared.rows.WaitTarget.TheVariants.{Group, Kernel, Object}
use Rattle.tp_base.specs.declared.rows.WorkerRow.{WorkerRow}
use Rattle.tp_model.specs.World.{World, BegunWait}
use Rattle.tp_model.specs.Conditions.{is_closed_pool, is_finished}
use Rattle.tp_model.specs.Counts.{is_persistent_in, maximum}
use Rattle.tp_model.specs.Kernels.{is_kernel_that}
use Rattle.tp_model.specs.Stalled.{is_client_stuck, is_free, is_kept_waiting, is_look, is_pool_stuck, is_stalled, is_worker_stuck, lacks_room_to_run, waits_on}
use Rattle.tp_model.specs.Waits.{held, wait_of}
use Rattle.tp_model.specs.Calls.End.{end_plan, end_refusals, end_unless_stalled}
use Rattle.tp_model.specs.Calls.Waits.{begin_acquire_plan, begin_acquire_refusals, begin_wait_plan, begin_wait_refusals, end_acquire, end_for, end_held, end_notices, end_wait, holds_starved, try_acquire_plan}
use Rattle.renamed_worlds.specs.Renamed.{renamed, renamed_look, renamed_plan, renamed_wait, renamed_worker, IsNaming}
use Rattle.renamed_worlds.proofs.Mapped.{all_agree, any_map, none_mapped, some_mapped}
use Rattle.renamed_worlds.proofs.Queries.{actor_renamed, idle_staff_renamed, in_wait_renamed, own_renamed, pending_renamed, running_renamed, runs_renamed, takeable_renamed, wait_renamed, without_renamed}
use Rattle.renamed_worlds.proofs.Refusing.{object_refusals_renamed, unless_renamed}
use Rattle.renamed_worlds.proofs.Waiting.{count_cancelled_renamed, count_covered_renamed, held_renamed, starved_renamed}

module _ (name : ℕ → ℕ) (naming : IsNaming name) (w : World) where
  abbrev u : World
  u = renamed name w

  -- ---- BeginWait, BeginAcquire, TryAcquire

  pub begin_wait_renamed : (who : Who) (kind : Kind) (object : ObjectId) (cancel : Bool) → begin_wait_plan u who kind object cancel ≡ renamed_plan name (begin_wait_plan w who kind object cancel)
  unfolding begin_wait_plan
  begin_wait_renamed who kind object cancel =
      unless_renamed name (begin_wait_refusals u who kind object.0) (begin_wait_refusals w who kind object.0) _ _
      (ap₂ (λ rs b. rs ++ (b, OwnCallback) ∷ []) (object_refusals_renamed name naming w who kind object.0) (own_renamed name naming w who object.0))
      (ap₂ (λ m n. Does (answer.Begun m n) (change.BeginWait who (awaited.Object object) cancel)) (count_covered_renamed name naming w (Object object) cancel) (count_cancelled_renamed name naming w (Object object) cancel))

  acquire_refusals_renamed : (who : Who) (kernel : ℕ) → begin_acquire_refusals u who kernel ≡ begin_acquire_refusals w who kernel
  acquire_refusals_renamed who kernel = rw (actor_renamed name naming w who, without_renamed name naming w who, in_wait_renamed name naming w who)

  pub begin_acquire_renamed : (who : Who) (kernel : KernelId) → begin_acquire_plan u who kernel ≡ renamed_plan name (begin_acquire_plan w who kernel)
  unfolding begin_acquire_plan
  begin_acquire_renamed who kernel = unless_renamed name (begin_acquire_refusals u who kernel.0) (begin_acquire_refusals w who kernel.0) _ _ (acquire_refusals_renamed who kernel.0) refl

  pub try_acquire_renamed : (who : Who) (kernel : KernelId) → try_acquire_plan u who kernel ≡ renamed_plan name (try_acquire_plan w who kernel)
  unfolding try_acquire_plan
  try_acquire_renamed who kernel =
      unless_renamed name (begin_acquire_refusals u who kernel.0) (begin_acquire_refusals w who kernel.0) _ _ (acquire_refusals_renamed who kernel.0) (tries (is_kernel_that (may_take who) w kernel.0))
    where
      tries : (b : Bool) → cond b (Does (answer.Flag true) (change.ChangeKernel kernel (Take who))) (Does (answer.Flag false) change.Keep)
          ≡ renamed_plan name (cond b (Does (answer.Flag true) (change.ChangeKernel kernel (Take who))) (Does (answer.Flag false) change.Keep))
      tries true = refl
      tries false = refl

  -- ---- End, but for the machine being stalled

  notices_renamed : (who : Who) (cleanup : ℕ) (notices : List ObjectId) → end_notices u who cleanup notices ≡ renamed_plan name (end_notices w who cleanup notices)
  notices_renamed who cleanup [] = refl
  notices_renamed who cleanup (object ∷ objects) = refl

  end_held_renamed : (room : ℕ) (who : Who) (b : BegunWait) (numbers : List ℕ) → end_held u room who (renamed_wait name b) (map name numbers) ≡ renamed_plan name (end_held w room who b numbers)
  end_held_renamed room who b [] = notices_renamed who b.cleanup b.notices
  end_held_renamed room who b (n ∷ ns) =
      ap (λ t. cond t (Does answer.Exhausted (change.EndWait who how.Exhausted)) (Looked (look.NotYet (name n)))) (starved_renamed name naming w room (n ∷ ns))
      ∙ elim (holds_starved w room (n ∷ ns))
      as (λ t. cond t (Does answer.Exhausted (change.EndWait who how.Exhausted)) (Looked (look.NotYet (name n))) ≡ renamed_plan name (cond t (Does answer.Exhausted (change.EndWait who how.Exhausted)) (Looked (look.NotYet n)))) [ true ↦ refl | false ↦ refl ]

  end_acquire_renamed : (who : Who) (kernel : KernelId) → end_acquire u who kernel ≡ renamed_plan name (end_acquire w who kernel)
  end_acquire_renamed who kernel =
      elim (is_kernel_that (may_take who) w kernel.0)
      as (λ t. cond t (Does answer.Ended (change.EndWait who how.Free)) (Looked (look.NotYetKernel kernel)) ≡ renamed_plan name (cond t (Does answer.Ended (change.EndWait who how.Free)) (Looked (look.NotYetKernel kernel)))) [ true ↦ refl | false ↦ refl ]

  pub end_wait_renamed : (room : ℕ) (who : Who) → end_wait u room who (wait_of u who) ≡ renamed_plan name (end_wait w room who (wait_of w who))
  end_wait_renamed room who = ap (end_wait u room who) (wait_renamed name naming w who) ∙ of_wait (wait_of w who)
    where
      of_target : (b : BegunWait) (target : WaitTarget) → end_for u room who (renamed_wait name b) target ≡ renamed_plan name (end_for w room who b target)
      of_target b (Object object) = ap (end_held u room who (renamed_wait name b)) (held_renamed name naming w b) ∙ end_held_renamed room who b (held w b)
      of_target b (Group group) = ap (end_held u room who (renamed_wait name b)) (held_renamed name naming w b) ∙ end_held_renamed room who b (held w b)
      of_target b (Kernel kernel) = end_acquire_renamed who kernel

      of_wait : (o : Option BegunWait) → end_wait u room who (option_map (renamed_wait name) o) ≡ renamed_plan name (end_wait w room who o)
      of_wait None = refl
      of_wait (Some b) = of_target b b.target

  -- ---- whether the machine is stalled

  look_renamed : (p : Plan) → is_look (renamed_plan name p) ≡ is_look p
  look_renamed (Refused refusal) = refl
  look_renamed (Looked seen) = refl
  look_renamed (Does told change) = refl

  waits_on_renamed : (room : ℕ) (who : Who) → waits_on u room who ≡ waits_on w room who
  waits_on_renamed room who = ap is_look (end_wait_renamed room who) ∙ look_renamed (end_wait w room who (wait_of w who))

  client_renamed : (room number : ℕ) → is_client_stuck u room number ≡ is_client_stuck w room number
  client_renamed room number = ap (λ b. is_finished w (Client number) || b) (waits_on_renamed room (Client number))

  worker_stuck_renamed : (room number : ℕ) → is_worker_stuck u room number ≡ is_worker_stuck w room number
  worker_stuck_renamed room number = ap₂ (λ a b. not a || b) (runs_renamed name naming w (Worker number)) (waits_on_renamed room (Worker number))

  free_renamed : list_any (is_free u) u.workers ≡ list_any (is_free w) w.workers
  free_renamed =
      any_map (renamed_worker name) (is_free u) (is_free w)
      (λ (r : WorkerRow). ap (λ b. b && (not r.persistent || option_map_or (λ (p : PoolId). is_closed_pool w p.0) r.pool true)) (none_mapped name r.callback)) w.workers

  lacks_room_renamed : (room pool : ℕ) → lacks_room_to_run u room pool ≡ lacks_room_to_run w room pool
  lacks_room_renamed room pool = ap₂ (λ (i : ℕ) (b : Bool). nat_lt room 2 || ((i == 0) && (nat_lt room 4 || not b))) (idle_staff_renamed name naming w pool) free_renamed

  kept_waiting_renamed : (pool : ℕ) → is_kept_waiting u pool ≡ is_kept_waiting w pool
  kept_waiting_renamed pool =
      ap₂ (λ (t : ℕ) (b : Bool). (t == 0) && b) (takeable_renamed name naming w pool false)
      (any_map (renamed_worker name) (λ (r : WorkerRow). is_persistent_in pool r && is_some r.callback) (λ (r : WorkerRow). is_persistent_in pool r && is_some r.callback)
      (λ (r : WorkerRow). ap (λ b. is_persistent_in pool r && b) (some_mapped name r.callback)) w.workers)

  pool_stuck_renamed : (room pool : ℕ) → is_pool_stuck u room pool ≡ is_pool_stuck w room pool
  pool_stuck_renamed room pool =
      ap₂ (λ a b. a || b)
      (ap₂ (λ a b. a || b) (ap₂ (λ (p r : ℕ). (p == 0) || nat_le (maximum w pool) r) (pending_renamed name naming w pool) (running_renamed name naming w pool)) (kept_waiting_renamed pool))
      (lacks_room_renamed room pool)

  pub stalled_renamed : (room : ℕ) → is_stalled u room ≡ is_stalled w room
  stalled_renamed room =
      ap₂ (λ a b. a && b)
      (
      ap₂ (λ a b. a && b) (all_agree (is_client_stuck u room) (is_client_stuck w room) (client_renamed room) (range_with_len 1 (length w.clients)))
      (
      ap (λ n. list_all (is_worker_stuck u room) (range_with_len 1 n)) (length-map w.workers (renamed_worker name))
      ∙ all_agree (is_worker_stuck u room) (is_worker_stuck w room) (worker_stuck_renamed room) (range_with_len 1 (length w.workers))
      )
      )
      (all_agree (is_pool_stuck u room) (is_pool_stuck w room) (pool_stuck_renamed room) (range_with_len 0 (length w.pools)))

  -- ---- End

  pub end_renamed : (room : ℕ) (who : Who) → end_plan u room who ≡ renamed_plan name (end_plan w room who)
  unfolding end_plan
  end_renamed room who =
      unless_renamed name (end_refusals u who) (end_refusals w who) _ _
      (rw (actor_renamed name naming w who, without_renamed name naming w who, ap is_none (wait_renamed name naming w who) ∙ none_mapped (renamed_wait name) (wait_of w who)))
      (ap (end_unless_stalled u room who) (end_wait_renamed room who) ∙ of_plan (end_wait w room who (wait_of w who)))
    where
      of_plan : (p : Plan) → end_unless_stalled u room who (renamed_plan name p) ≡ renamed_plan name (end_unless_stalled w room who p)
      of_plan (Refused refusal) = refl
      of_plan (Does told change) = refl
      of_plan (Looked seen) =
          ap (λ b. cond b (Does answer.Stalled (change.EndWait who how.Stalled)) (Looked (renamed_look name seen))) (stalled_renamed room)
          ∙ elim (is_stalled w room)
          as (λ b. cond b (Does answer.Stalled (change.EndWait who how.Stalled)) (Looked (renamed_look name seen)) ≡ renamed_plan name (cond b (Does answer.Stalled (change.EndWait who how.Stalled)) (Looked seen))) [ true ↦ refl | false ↦ refl ]
