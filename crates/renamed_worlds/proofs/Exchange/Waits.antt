-- Calls that begin and end waits, and the stall of a machine, where two workers change places.
use Rattle.std.proofs.Common.{◌≡◌, ℕ, ◌+◌, ◌<◌, suc, arith, ◌||◌, ◌&&◌, ◌==◌, not, nat_lt, nat_le, Bool, true, false, cond, List, [], ◌∷◌, ◌++◌, length, is_none, is_some, Option, Some, None, option_map, refl, ap, ap₂, ◌∙◌}
use Rattle.std.specs.List.{list_all, list_any, range_with_len}
use Rattle.tp_base.specs.Kernels.{may_take}
use Rattle.tp_base.specs.declared.answers.Answer.TheVariants as answer
use Rattle.tp_base.specs.declared.answers.Look.TheVariants as look
use Rattle.tp_base.specs.declared.answers.Refusal.TheVariants.{OwnCallback}
use Rattle.tp_base.specs.declared.calls.Kind.{Kind}
use Rattle.tp_base.specs.declared.ids.KernelId.{KernelId}
use Rattle.tp_base.specs.declared.ids.ObjectId.{ObjectId}
use Rattle.tp_base.specs.declared.ids.Who.{Who}
use Rattle.tp_base.specs.declared.ids.Who.TheVariants.{Client, Worker}
use Rattle.tp_base.specs.declared.plans.Awaited.TheVariants as awaited
use Rattle.tp_base.specs.declared.plans.Change.TheVariants as change
use Rattle.tp_base.specs.declared.plans.KernelChange.TheVariants.{Take}
use Rattle.tp_base.specs.declared.plans.Plan.{Plan}
use Rattle.tp_base.specs.declared.plans.Plan.TheVariants.{Does, Looked, Refused}
use Rattle.tp_base.specs.declared.plans.WaitEnd.TheVariants as how
use Rattle.tp_base.specs.declared.rows.WaitTarget.{WaitTarget}
use Rattle.tp_base.specs.declared.rows.WaitTarget.TheVariants.{Group, Kernel, Object}
use Rattle.tp_base.specs.declared.rows.WorkerRow.{WorkerRow}
use Rattle.tp_model.specs.World.{World, BegunWait}
use Rattle.tp_model.specs.Conditions.{is_finished}
use Rattle.tp_model.specs.Counts.{is_persistent_in, maximum}
use Rattle.tp_model.specs.Kernels.{is_kernel_that}
use Rattle.tp_model.specs.Stalled.{is_client_stuck, is_free, is_kept_waiting, is_look, is_pool_stuck, is_stalled, is_worker_stuck, lacks_room_to_run, waits_on}
use Rattle.tp_model.specs.Waits.{held, wait_of}
use Rattle.tp_model.specs.Calls.End.{end_plan, end_refusals, end_unless_stalled}
use Rattle.tp_model.specs.Calls.Waits.{begin_acquire_plan, begin_acquire_refusals, begin_wait_plan, begin_wait_refusals, end_acquire, end_for, end_held, end_notices, end_wait, holds_starved, try_acquire_plan}
use Rattle.renamed_worlds.specs.Exchanged.{exchanged, exchanged_number, exchanged_place, exchanged_plan, exchanged_wait, exchanged_who}
use Rattle.renamed_worlds.proofs.Exchange.Kernels.{may_take_exchanged, one_exchanged}
use Rattle.renamed_worlds.proofs.Exchange.Rows.{all_exchanged, any_exchanged, length_exchanged}
use Rattle.renamed_worlds.proofs.Mapped.{all_agree, none_mapped}
use Rattle.renamed_worlds.proofs.Exchange.Queries.{actor_exchanged, finished_exchanged, idle_staff_exchanged, in_wait_exchanged, own_exchanged, pending_exchanged, running_exchanged, runs_exchanged, takeable_exchanged, wait_exchanged, without_exchanged}
use Rattle.renamed_worlds.proofs.Exchange.Refusing.{is_kernel_exchanged, object_refusals_exchanged, unless_exchanged}
use Rattle.renamed_worlds.proofs.Exchange.Waiting.{count_cancelled_exchanged, count_covered_exchanged, held_exchanged, starved_exchanged}

module _ (at : ℕ) (w : World) (fits : at + 1 < length w.workers) where
  abbrev u : World
  u = exchanged at w

  -- ---- BeginWait, BeginAcquire, TryAcquire

  pub begin_wait_exchanged : (who : Who) (kind : Kind) (object : ObjectId) (cancel : Bool) → begin_wait_plan u (exchanged_who at who) kind object cancel ≡ exchanged_plan at (begin_wait_plan w who kind object cancel)
  unfolding begin_wait_plan
  begin_wait_exchanged who kind object cancel =
      unless_exchanged at (begin_wait_refusals u (exchanged_who at who) kind object.0) (begin_wait_refusals w who kind object.0) _ _
      (ap₂ (λ rs b. rs ++ (b, OwnCallback) ∷ []) (object_refusals_exchanged at w fits who kind object.0) (own_exchanged at w fits who object.0))
      (ap₂ (λ m n. Does (answer.Begun m n) (change.BeginWait (exchanged_who at who) (awaited.Object object) cancel)) (count_covered_exchanged at w fits (Object object) cancel) (count_cancelled_exchanged at w fits (Object object) cancel))

  acquire_refusals_exchanged : (who : Who) (kernel : ℕ) → begin_acquire_refusals u (exchanged_who at who) kernel ≡ begin_acquire_refusals w who kernel
  acquire_refusals_exchanged who kernel = rw (actor_exchanged at w fits who, finished_exchanged at w fits who, without_exchanged at w fits who, in_wait_exchanged at w fits who, is_kernel_exchanged at w fits who kernel)

  pub begin_acquire_exchanged : (who : Who) (kernel : KernelId) → begin_acquire_plan u (exchanged_who at who) kernel ≡ exchanged_plan at (begin_acquire_plan w who kernel)
  unfolding begin_acquire_plan
  begin_acquire_exchanged who kernel = unless_exchanged at (begin_acquire_refusals u (exchanged_who at who) kernel.0) (begin_acquire_refusals w who kernel.0) _ _ (acquire_refusals_exchanged who kernel.0) refl

  pub try_acquire_exchanged : (who : Who) (kernel : KernelId) → try_acquire_plan u (exchanged_who at who) kernel ≡ exchanged_plan at (try_acquire_plan w who kernel)
  unfolding try_acquire_plan
  try_acquire_exchanged who kernel =
      unless_exchanged at (begin_acquire_refusals u (exchanged_who at who) kernel.0) (begin_acquire_refusals w who kernel.0) _ _ (acquire_refusals_exchanged who kernel.0)
      (ap (λ b. cond b (Does (answer.Flag true) (change.ChangeKernel kernel (Take (exchanged_who at who)))) (Does (answer.Flag false) change.Keep)) (one_exchanged at (may_take (exchanged_who at who)) (may_take who) (may_take_exchanged at who) w.kernels kernel.0) ∙ tries (is_kernel_that (may_take who) w kernel.0))
    where
      tries : (b : Bool) → cond b (Does (answer.Flag true) (change.ChangeKernel kernel (Take (exchanged_who at who)))) (Does (answer.Flag false) change.Keep)
          ≡ exchanged_plan at (cond b (Does (answer.Flag true) (change.ChangeKernel kernel (Take who))) (Does (answer.Flag false) change.Keep))
      tries true = refl
      tries false = refl

  -- ---- End, but for the machine being stalled

  notices_exchanged : (who : Who) (cleanup : ℕ) (notices : List ObjectId) → end_notices u (exchanged_who at who) cleanup notices ≡ exchanged_plan at (end_notices w who cleanup notices)
  notices_exchanged who cleanup [] = refl
  notices_exchanged who cleanup (object ∷ objects) = refl

  end_held_exchanged : (room : ℕ) (who : Who) (b : BegunWait) (numbers : List ℕ) → end_held u room (exchanged_who at who) (exchanged_wait at b) numbers ≡ exchanged_plan at (end_held w room who b numbers)
  end_held_exchanged room who b [] = notices_exchanged who b.cleanup b.notices
  end_held_exchanged room who b (n ∷ ns) =
      ap (λ t. cond t (Does answer.Exhausted (change.EndWait (exchanged_who at who) how.Exhausted)) (Looked (look.NotYet n))) (starved_exchanged at w fits room (n ∷ ns))
      ∙ elim (holds_starved w room (n ∷ ns))
      as (λ t. cond t (Does answer.Exhausted (change.EndWait (exchanged_who at who) how.Exhausted)) (Looked (look.NotYet n)) ≡ exchanged_plan at (cond t (Does answer.Exhausted (change.EndWait who how.Exhausted)) (Looked (look.NotYet n)))) [ true ↦ refl | false ↦ refl ]

  end_acquire_exchanged : (who : Who) (kernel : KernelId) → end_acquire u (exchanged_who at who) kernel ≡ exchanged_plan at (end_acquire w who kernel)
  end_acquire_exchanged who kernel =
      ap (λ t. cond t (Does answer.Ended (change.EndWait (exchanged_who at who) how.Free)) (Looked (look.NotYetKernel kernel))) (one_exchanged at (may_take (exchanged_who at who)) (may_take who) (may_take_exchanged at who) w.kernels kernel.0)
      ∙ elim (is_kernel_that (may_take who) w kernel.0)
      as (λ t. cond t (Does answer.Ended (change.EndWait (exchanged_who at who) how.Free)) (Looked (look.NotYetKernel kernel)) ≡ exchanged_plan at (cond t (Does answer.Ended (change.EndWait who how.Free)) (Looked (look.NotYetKernel kernel)))) [ true ↦ refl | false ↦ refl ]

  pub end_wait_exchanged : (room : ℕ) (who : Who) → end_wait u room (exchanged_who at who) (wait_of u (exchanged_who at who)) ≡ exchanged_plan at (end_wait w room who (wait_of w who))
  end_wait_exchanged room who = ap (end_wait u room (exchanged_who at who)) (wait_exchanged at w fits who) ∙ of_wait (wait_of w who)
    where
      of_target : (b : BegunWait) (target : WaitTarget) → end_for u room (exchanged_who at who) (exchanged_wait at b) target ≡ exchanged_plan at (end_for w room who b target)
      of_target b (Object object) = ap (end_held u room (exchanged_who at who) (exchanged_wait at b)) (held_exchanged at w fits b) ∙ end_held_exchanged room who b (held w b)
      of_target b (Group group) = ap (end_held u room (exchanged_who at who) (exchanged_wait at b)) (held_exchanged at w fits b) ∙ end_held_exchanged room who b (held w b)
      of_target b (Kernel kernel) = end_acquire_exchanged who kernel

      of_wait : (o : Option BegunWait) → end_wait u room (exchanged_who at who) (option_map (exchanged_wait at) o) ≡ exchanged_plan at (end_wait w room who o)
      of_wait None = refl
      of_wait (Some b) = of_target b b.target

  -- ---- whether the machine is stalled

  look_exchanged : (p : Plan) → is_look (exchanged_plan at p) ≡ is_look p
  look_exchanged (Refused refusal) = refl
  look_exchanged (Looked seen) = refl
  look_exchanged (Does told change) = refl

  waits_on_exchanged : (room : ℕ) (who : Who) → waits_on u room (exchanged_who at who) ≡ waits_on w room who
  waits_on_exchanged room who = ap is_look (end_wait_exchanged room who) ∙ look_exchanged (end_wait w room who (wait_of w who))

  client_exchanged : (room number : ℕ) → is_client_stuck u room number ≡ is_client_stuck w room number
  client_exchanged room number = ap (λ b. is_finished w (Client number) || b) (waits_on_exchanged room (Client number))

  worker_stuck_exchanged : (room number : ℕ) → is_worker_stuck u room (exchanged_number at number) ≡ is_worker_stuck w room number
  worker_stuck_exchanged room number = ap₂ (λ a b. not a || b) (runs_exchanged at w fits (Worker number)) (waits_on_exchanged room (Worker number))

  place_stuck : (room place : ℕ) → is_worker_stuck u room (1 + exchanged_place at place) ≡ is_worker_stuck w room (1 + place)
  place_stuck room place =
      let is : 1 + exchanged_place at place ≡ exchanged_number at (suc place) = omega arith in
      let was : suc place ≡ 1 + place = omega arith in
      ap (is_worker_stuck u room) is ∙ worker_stuck_exchanged room (suc place) ∙ ap (is_worker_stuck w room) was

  free_exchanged : list_any (is_free u) u.workers ≡ list_any (is_free w) w.workers
  free_exchanged = any_exchanged (is_free w) at w.workers

  lacks_room_exchanged : (room pool : ℕ) → lacks_room_to_run u room pool ≡ lacks_room_to_run w room pool
  lacks_room_exchanged room pool = ap₂ (λ (i : ℕ) (b : Bool). nat_lt room 2 || ((i == 0) && (nat_lt room 4 || not b))) (idle_staff_exchanged at w fits pool) free_exchanged

  kept_waiting_exchanged : (pool : ℕ) → is_kept_waiting u pool ≡ is_kept_waiting w pool
  kept_waiting_exchanged pool =
      ap₂ (λ (t : ℕ) (b : Bool). (t == 0) && b) (takeable_exchanged at w fits pool false)
      (any_exchanged (λ (r : WorkerRow). is_persistent_in pool r && is_some r.callback) at w.workers)

  pool_stuck_exchanged : (room pool : ℕ) → is_pool_stuck u room pool ≡ is_pool_stuck w room pool
  pool_stuck_exchanged room pool =
      ap₂ (λ a b. a || b)
      (ap₂ (λ a b. a || b) (ap₂ (λ (p r : ℕ). (p == 0) || nat_le (maximum w pool) r) (pending_exchanged at w fits pool) (running_exchanged at w fits pool)) (kept_waiting_exchanged pool))
      (lacks_room_exchanged room pool)

  pub stalled_exchanged : (room : ℕ) → is_stalled u room ≡ is_stalled w room
  stalled_exchanged room =
      ap₂ (λ a b. a && b)
      (
      ap₂ (λ a b. a && b) (all_agree (is_client_stuck u room) (is_client_stuck w room) (client_exchanged room) (range_with_len 1 (length w.clients)))
      (
      ap (λ n. list_all (is_worker_stuck u room) (range_with_len 1 n)) (length_exchanged at w.workers)
      ∙ all_exchanged (is_worker_stuck u room) (is_worker_stuck w room) at 1 (length w.workers) fits (place_stuck room)
      )
      )
      (all_agree (is_pool_stuck u room) (is_pool_stuck w room) (pool_stuck_exchanged room) (range_with_len 0 (length w.pools)))

  -- ---- End

  pub end_exchanged : (room : ℕ) (who : Who) → end_plan u room (exchanged_who at who) ≡ exchanged_plan at (end_plan w room who)
  unfolding end_plan
  end_exchanged room who =
      unless_exchanged at (end_refusals u (exchanged_who at who)) (end_refusals w who) _ _
      (rw (actor_exchanged at w fits who, finished_exchanged at w fits who, without_exchanged at w fits who, ap is_none (wait_exchanged at w fits who) ∙ none_mapped (exchanged_wait at) (wait_of w who)))
      (ap (end_unless_stalled u room (exchanged_who at who)) (end_wait_exchanged room who) ∙ of_plan (end_wait w room who (wait_of w who)))
    where
      of_plan : (p : Plan) → end_unless_stalled u room (exchanged_who at who) (exchanged_plan at p) ≡ exchanged_plan at (end_unless_stalled w room who p)
      of_plan (Refused refusal) = refl
      of_plan (Does told change) = refl
      of_plan (Looked seen) =
          ap (λ b. cond b (Does answer.Stalled (change.EndWait (exchanged_who at who) how.Stalled)) (Looked seen)) (stalled_exchanged room)
          ∙ elim (is_stalled w room)
          as (λ b. cond b (Does answer.Stalled (change.EndWait (exchanged_who at who) how.Stalled)) (Looked seen) ≡ exchanged_plan at (cond b (Does answer.Stalled (change.EndWait who how.Stalled)) (Looked seen))) [ true ↦ refl | false ↦ refl ]
