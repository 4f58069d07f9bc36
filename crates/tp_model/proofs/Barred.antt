-- What an accepted call shows of its actor: but for End and the calls of workers on pools, only a client that plays or a
-- worker in a callback makes one, and only out of a wait.
use Rattle.std.specs.Prelude.{take}
use Rattle.std.proofs.Common.{◌≡◌, ℕ, suc, zero, ◌+◌, Bool, true, false, not, ◌||◌, ◌==◌, List, [], ◌∷◌, length, nat_lt, Option, Some, None, is_none, is_some, refl, sym, subst}
use Rattle.std.specs.Option.{option_map_or}
use Rattle.tp_base.specs.declared.answers.Answer.{Answer}
use Rattle.tp_base.specs.declared.answers.ActionKind.{ActionKind}
use Rattle.tp_base.specs.declared.answers.Refusal.{Refusal}
use Rattle.tp_base.specs.declared.answers.Refusal.TheVariants.{NotOwner, OverMaximum}
use Rattle.tp_base.specs.declared.calls.Call.{Call}
use Rattle.tp_base.specs.declared.calls.Call.TheVariants.{CreatePool, ClosePool, SetMaximum, SetMinimum, CreateGroup, CloseGroup, BeginClose, Create, CloseObject, SubmitSimple, SubmitWork}
use Rattle.tp_base.specs.declared.calls.Call.TheVariants.{SetTimer, SetTimerEx, IsTimerSet, Advance, SetWait, StartIo, IssueIo, CancelIo, CompleteIo, CompleteNext}
use Rattle.tp_base.specs.declared.calls.Call.TheVariants.{BeginWait, BeginAcquire, TryAcquire, End, CreateEvent, CreateSemaphore, CreateLock, SetEvent, ResetEvent, ReleaseSemaphore, ReleaseLock}
use Rattle.tp_base.specs.declared.calls.Call.TheVariants.{Attach, Detach, Take, Return, MayRunLong, Disassociate, OnReturn, Finish}
use Rattle.tp_base.specs.declared.calls.Kind.{Kind}
use Rattle.tp_base.specs.declared.calls.Kind.TheVariants.{Work, Timer, Io}
use Rattle.tp_base.specs.declared.calls.Environ.{Environ}
use Rattle.tp_base.specs.declared.ids.GroupId.{GroupId}
use Rattle.tp_base.specs.declared.ids.KernelId.{KernelId}
use Rattle.tp_base.specs.declared.ids.ObjectId.{ObjectId}
use Rattle.tp_base.specs.declared.ids.Who.{Who}
use Rattle.tp_base.specs.declared.ids.Who.TheVariants.{Client, Worker}
use Rattle.tp_base.specs.declared.plans.Change.{Change}
use Rattle.tp_base.specs.declared.plans.Plan.{Plan}
use Rattle.tp_base.specs.declared.plans.Plan.TheVariants as plans
use Rattle.tp_base.specs.declared.plans.Trigger.TheVariants as trigger
use Rattle.tp_base.specs.declared.rows.KernelState.{KernelState}
use Rattle.tp_base.specs.declared.rows.WorkerRow.{WorkerRow}
use Rattle.tp_base.specs.Kernels.{is_event, is_semaphore, is_lock, owns}
use Rattle.tp_model.specs.Calls.Clients.{finish_plan, finish_refusals}
use Rattle.tp_model.specs.Calls.Groups.{create_group_plan, close_group_plan, close_group_refusals, begin_close_plan, begin_close_refusals}
use Rattle.tp_model.specs.Calls.InCallback.{busy_refusals, may_run_long_plan, disassociate_plan, on_return_plan, on_return_refusals}
use Rattle.tp_model.specs.Calls.Io.{start_io_plan, start_io_refusals, expected_refusals, issue_io_plan, cancel_io_plan, complete_io_plan, complete_io_refusals, complete_next_plan, complete_next_refusals}
use Rattle.tp_model.specs.Calls.Kernels.{create_event_plan, create_semaphore_plan, create_lock_plan, kernel_refusals, set_event_plan, reset_event_plan, release_semaphore_plan, release_semaphore_refusals, release_lock_plan}
use Rattle.tp_model.specs.Calls.Objects.{create_plan, create_refusals, close_object_plan, close_object_refusals}
use Rattle.tp_model.specs.Calls.Pools.{create_pool_plan, pool_refusals, close_pool_plan, set_maximum_plan, set_minimum_plan}
use Rattle.tp_model.specs.Calls.Timers.{set_timer_plan, set_timer_ex_plan, set_timer_refusals, is_timer_set_plan, advance_plan, advance_refusals}
use Rattle.tp_model.specs.Calls.WaitObjects.{set_wait_plan, set_wait_refusals}
use Rattle.tp_model.specs.Calls.Waits.{begin_wait_plan, begin_wait_refusals, begin_acquire_plan, begin_acquire_refusals, try_acquire_plan}
use Rattle.tp_model.specs.Calls.Work.{submit_work_plan, submit_work_refusals, submit_simple_plan, submit_simple_refusals}
use Rattle.tp_model.specs.Calls.Workers.{return_plan, return_refusals}
use Rattle.tp_model.specs.Conditions.{is_actor, is_finished, is_in_wait, is_worker, is_without_callback, is_released, is_pool, is_object, is_no_group_or_group, runs_callback, worker_of}
use Rattle.tp_model.specs.Kernels.{is_kernel, is_kernel_that}
use Rattle.tp_model.specs.Groups.{is_group}
use Rattle.tp_model.specs.Refusing.{first_refusal, unless_refused, actor_refusals, object_refusals, environ_refusals, make_refusals}
use Rattle.tp_model.specs.Table.{plan_at}
use Rattle.tp_model.specs.World.{World}
use Rattle.tp_model.proofs.Refusals.{NoneHolds, false_true, neither, none_holds, not_false}

-- what an accepted plan has behind its refusals
pub passed : (refusals : List (Bool × Refusal)) (p : Plan) (a : Answer) (ch : Change) → unless_refused (first_refusal refusals) p ≡ plans.Does a ch → NoneHolds refusals × (p ≡ plans.Does a ch)
passed refusals p a ch e = known (first_refusal refusals) refl e
  where
    known : (r : Option Refusal) → first_refusal refusals ≡ r → unless_refused r p ≡ plans.Does a ch → NoneHolds refusals × (p ≡ plans.Does a ch)
    known None is h = (none_holds refusals is, h)
    known (Some refusal) is h = absurd cc

front_none : (n : ℕ) (refusals : List (Bool × Refusal)) → NoneHolds refusals → NoneHolds (take n refusals)
front_none zero refusals none = tt
front_none (suc n) [] none = tt
front_none (suc n) (r ∷ rs) none = (none.0, front_none n rs none.1)

-- a worker that runs a callback is not without one
pub runs_not_without : (w : World) (who : Who) → runs_callback w who ≡ true → is_without_callback w who ≡ false
runs_not_without w who e = of_row (worker_of w who) e
  where
    of_callback : (c : Option ℕ) → is_some c ≡ true → is_none c ≡ false
    of_callback None h = absurd (false_true h)
    of_callback (Some n) h = refl

    of_row : (row : Option WorkerRow) → option_map_or (λ (r : WorkerRow). is_some r.callback) row false ≡ true → option_map_or (λ (r : WorkerRow). is_none r.callback) row false ≡ false
    of_row None h = refl
    of_row (Some r) h = of_callback r.callback h

-- an actor that may make the calls of clients and routines
pub record IsFree (w : World) (who : Who) : Type 0 where
  pub actor : is_actor w who ≡ true
  pub finished : is_finished w who ≡ false
  pub without : is_without_callback w who ≡ false
  pub waits : is_in_wait w who ≡ false

-- the other calls: the end of a wait, and those of workers on pools
abbrev pub is_apart : Call → Bool
is_apart End = true
is_apart Attach = true
is_apart Detach = true
is_apart Take = true
is_apart _ = false

is_there : (b c : Bool) → (not b || c) ≡ false → b ≡ true
is_there b c e = not_false b (neither (not b) c e).0

no_worker : (w : World) (who : Who) → is_worker who ≡ false → is_without_callback w who ≡ false
no_worker w (Client number) e = refl
no_worker w (Worker number) e = absurd cc

-- what the refusals of an accepted call leave of its actor, by what they begin with
module _ (w : World) (who : Who) (a : Answer) (ch : Change) where
  -- the refusals begin with these
  abbrev BeginsWith : List (Bool × Refusal) → List (Bool × Refusal) → Type 0
  BeginsWith front refusals = take (length front) refusals ≡ front

  none_of : (front refusals : List (Bool × Refusal)) (p : Plan) → BeginsWith front refusals → unless_refused (first_refusal refusals) p ≡ plans.Does a ch → NoneHolds front
  none_of front refusals p begins is = subst NoneHolds begins (front_none (length front) refusals (passed refusals p a ch is).0)

  of_actor : (refusals : List (Bool × Refusal)) (p : Plan) → BeginsWith (actor_refusals w who) refusals → unless_refused (first_refusal refusals) p ≡ plans.Does a ch → IsFree w who
  of_actor refusals p begins is =
      let none = none_of (actor_refusals w who) refusals p begins is in
      record { actor = not_false (is_actor w who) none.0; finished = none.1.0; without = none.1.1.0; waits = none.1.1.1.0 }

  of_object : (kind : Kind) (object : ℕ) (refusals : List (Bool × Refusal)) (p : Plan) → BeginsWith (object_refusals w who kind object) refusals → unless_refused (first_refusal refusals) p ≡ plans.Does a ch → IsFree w who
  of_object kind object refusals p begins is =
      let none = none_of (object_refusals w who kind object) refusals p begins is in
      record { actor = is_there (is_actor w who) (not (is_object w object)) none.0; finished = (neither (is_finished w who) (is_released w object) none.1.1.0).0; without = none.1.1.1.0; waits = none.1.1.1.1.0 }

  of_environ : (env : Environ) (refusals : List (Bool × Refusal)) (p : Plan) → BeginsWith (environ_refusals w who env) refusals → unless_refused (first_refusal refusals) p ≡ plans.Does a ch → IsFree w who
  of_environ env refusals p begins is =
      let none = none_of (environ_refusals w who env) refusals p begins is in
      let there = (neither (not (is_actor w who) || not (is_pool w env.pool.0)) (not (is_no_group_or_group w env.group.0)) none.0).0 in
      record { actor = is_there (is_actor w who) (not (is_pool w env.pool.0)) there; finished = none.1.0; without = none.1.1.1.1.0; waits = none.1.1.1.1.1.0 }

  of_pool : (pool : ℕ) (p : Plan) → unless_refused (first_refusal (pool_refusals w who pool)) p ≡ plans.Does a ch → IsFree w who
  of_pool pool p is =
      let none = (passed (pool_refusals w who pool) p a ch is).0 in
      record { actor = is_there (is_actor w who) (not (is_pool w pool)) none.0; finished = none.1.0; without = none.1.1.1.1.0; waits = none.1.1.1.1.1.0 }

  of_kernel : (kind : KernelState → Bool) (kernel : ℕ) (refusals : List (Bool × Refusal)) (p : Plan) → BeginsWith (kernel_refusals w who kind kernel []) refusals → unless_refused (first_refusal refusals) p ≡ plans.Does a ch → IsFree w who
  of_kernel kind kernel refusals p begins is =
      let none = none_of (kernel_refusals w who kind kernel []) refusals p begins is in
      record { actor = is_there (is_actor w who) (not (is_kernel w kernel)) none.0; finished = none.1.1.0; without = none.1.1.1.0; waits = none.1.1.1.1.0 }

  accepted_close_group : (group : GroupId) → close_group_plan w who group ≡ plans.Does a ch → IsFree w who
  unfolding close_group_plan
  accepted_close_group group is =
      let none = (passed (close_group_refusals w who group) _ a ch is).0 in
      record { actor = is_there (is_actor w who) (not (is_group w group.0)) none.0; finished = none.1.0; without = none.1.1.1.0; waits = none.1.1.1.1.0 }

  accepted_begin_close : (group : GroupId) (cancel : Bool) (context : ℕ) → begin_close_plan w who group cancel context ≡ plans.Does a ch → IsFree w who
  unfolding begin_close_plan
  accepted_begin_close group cancel context is =
      let none = (passed (begin_close_refusals w who group.0) _ a ch is).0 in
      record { actor = is_there (is_actor w who) (not (is_group w group.0)) none.0; finished = none.1.0; without = none.1.1.1.0; waits = none.1.1.1.1.0 }

  accepted_acquire : (kernel : KernelId) → begin_acquire_plan w who kernel ≡ plans.Does a ch → IsFree w who
  unfolding begin_acquire_plan
  accepted_acquire kernel is =
      let none = (passed (begin_acquire_refusals w who kernel.0) _ a ch is).0 in
      record { actor = is_there (is_actor w who) (not (is_kernel w kernel.0)) none.0; finished = none.1.0; without = none.1.1.0; waits = none.1.1.1.0 }

  accepted_try : (kernel : KernelId) → try_acquire_plan w who kernel ≡ plans.Does a ch → IsFree w who
  unfolding try_acquire_plan
  accepted_try kernel is =
      let none = (passed (begin_acquire_refusals w who kernel.0) _ a ch is).0 in
      record { actor = is_there (is_actor w who) (not (is_kernel w kernel.0)) none.0; finished = none.1.0; without = none.1.1.0; waits = none.1.1.1.0 }

  accepted_next : (object : ObjectId) (error bytes : ℕ) → complete_next_plan w who object error bytes ≡ plans.Does a ch → IsFree w who
  unfolding complete_next_plan
  accepted_next object error bytes is =
      let none = (passed (complete_next_refusals w who object.0) _ a ch is).0 in
      record { actor = is_there (is_actor w who) (not (is_object w object.0)) none.0; finished = none.1.1.0; without = none.1.1.1.0; waits = none.1.1.1.1.0 }

  of_busy : (p : Plan) → unless_refused (first_refusal (busy_refusals w who)) p ≡ plans.Does a ch → IsFree w who
  of_busy p is =
      let none = (passed (busy_refusals w who) p a ch is).0 in
      record { actor = not_false (is_actor w who) none.0; finished = none.1.0; without = runs_not_without w who (not_false (runs_callback w who) none.1.1.0); waits = none.1.1.1.0 }

  accepted_on_return : (kind : ActionKind) (kernel : KernelId) (count : ℕ) → on_return_plan w who kind kernel count ≡ plans.Does a ch → IsFree w who
  unfolding on_return_plan
  accepted_on_return kind kernel count is =
      let none = (passed (on_return_refusals w who kind kernel.0) _ a ch is).0 in
      record { actor = is_there (is_actor w who) (not (is_kernel w kernel.0)) none.0; finished = none.1.1.0; without = runs_not_without w who (not_false (runs_callback w who) none.1.1.1.0); waits = none.1.1.1.1.0 }

  accepted_return : (next_number : ℕ) → return_plan w next_number who ≡ plans.Does a ch → IsFree w who
  unfolding return_plan
  accepted_return next_number is =
      let none = (passed (return_refusals w who) _ a ch is).0 in
      record { actor = not_false (is_actor w who) none.0; finished = none.1.0; without = runs_not_without w who (not_false (runs_callback w who) none.1.1.1.0); waits = none.1.1.1.1.0 }

  accepted_finish : finish_plan w who ≡ plans.Does a ch → IsFree w who
  unfolding finish_plan
  accepted_finish is =
      let none = (passed (finish_refusals w who) _ a ch is).0 in
      record { actor = not_false (is_actor w who) none.0; finished = none.1.1.0; without = no_worker w who none.1.0; waits = none.1.1.1.0 }

  -- who makes an accepted call
  pub accepted_free : (next_number room : ℕ) (made : Call) → is_apart made ≡ false → plan_at w next_number room who made ≡ plans.Does a ch → IsFree w who
  unfolding create_pool_plan close_pool_plan set_maximum_plan set_minimum_plan create_group_plan create_plan close_object_plan submit_simple_plan submit_work_plan set_timer_plan set_timer_ex_plan is_timer_set_plan advance_plan set_wait_plan
      start_io_plan issue_io_plan cancel_io_plan complete_io_plan begin_wait_plan create_event_plan create_semaphore_plan create_lock_plan set_event_plan reset_event_plan release_semaphore_plan release_lock_plan may_run_long_plan disassociate_plan
  accepted_free n room CreatePool other is = of_actor (make_refusals w who [] w.limits.pools (length w.pools)) _ refl is
  accepted_free n room (ClosePool pool) other is = of_pool pool.0 _ is
  accepted_free n room (SetMaximum pool value) other is = of_pool pool.0 _ is
  accepted_free n room (SetMinimum pool value) other is = of_pool pool.0 _ is
  accepted_free n room CreateGroup other is = of_actor (make_refusals w who [] w.limits.groups (length w.groups)) _ refl is
  accepted_free n room (CloseGroup group) other is = accepted_close_group group is
  accepted_free n room (BeginClose group cancel context) other is = accepted_begin_close group cancel context is
  accepted_free n room (Create kind routine context env) other is = of_environ env (create_refusals w who env) _ refl is
  accepted_free n room (CloseObject kind object) other is = of_object kind object.0 (close_object_refusals w who kind object) _ refl is
  accepted_free n room (SubmitSimple routine context env) other is = of_environ env (submit_simple_refusals w who env) _ refl is
  accepted_free n room (SubmitWork object) other is = of_object Work object.0 (submit_work_refusals w who object.0) _ refl is
  accepted_free n room (SetTimer object due period window) other is = of_object Timer object.0 (set_timer_refusals w who object.0 (trigger.SetTimer object due period window)) _ refl is
  accepted_free n room (SetTimerEx object due period window) other is = of_object Timer object.0 (set_timer_refusals w who object.0 (trigger.SetTimer object due period window)) _ refl is
  accepted_free n room (IsTimerSet object) other is = of_object Timer object.0 (object_refusals w who Timer object.0) _ refl is
  accepted_free n room (Advance ticks) other is = of_actor (advance_refusals w who (w.now + ticks)) _ refl is
  accepted_free n room (SetWait object kernel timeout) other is =
      let none = (passed (set_wait_refusals w who object kernel timeout) _ a ch is).0 in
      record { actor = is_there (is_actor w who) (not (is_object w object.0)) none.1.0; finished = (neither (is_finished w who) (is_released w object.0) none.1.1.1.0).0; without = none.1.1.1.1.0; waits = none.1.1.1.1.1.0 }
  accepted_free n room (StartIo object) other is = of_object Io object.0 (start_io_refusals w who object.0) _ refl is
  accepted_free n room (IssueIo object) other is = of_object Io object.0 (expected_refusals w who object.0) _ refl is
  accepted_free n room (CancelIo object) other is = of_object Io object.0 (expected_refusals w who object.0) _ refl is
  accepted_free n room (CompleteIo callback error bytes) other is = of_actor (complete_io_refusals w who callback) _ refl is
  accepted_free n room (CompleteNext object error bytes) other is = accepted_next object error bytes is
  accepted_free n room (BeginWait kind object cancel) other is = of_object kind object.0 (begin_wait_refusals w who kind object.0) _ refl is
  accepted_free n room (BeginAcquire kernel) other is = accepted_acquire kernel is
  accepted_free n room (TryAcquire kernel) other is = accepted_try kernel is
  accepted_free n room (CreateEvent manual signalled) other is = of_actor (make_refusals w who [] w.limits.kernels (length w.kernels)) _ refl is
  accepted_free n room (CreateSemaphore initial most) other is = of_actor (make_refusals w who ((nat_lt most initial || (most == 0), OverMaximum initial) ∷ []) w.limits.kernels (length w.kernels)) _ refl is
  accepted_free n room (CreateLock lock owned) other is = of_actor (make_refusals w who [] w.limits.kernels (length w.kernels)) _ refl is
  accepted_free n room (SetEvent kernel) other is = of_kernel is_event kernel.0 (kernel_refusals w who is_event kernel.0 []) _ refl is
  accepted_free n room (ResetEvent kernel) other is = of_kernel is_event kernel.0 (kernel_refusals w who is_event kernel.0 []) _ refl is
  accepted_free n room (ReleaseSemaphore kernel count) other is = of_kernel is_semaphore kernel.0 (release_semaphore_refusals w who kernel.0 count) _ refl is
  accepted_free n room (ReleaseLock lock kernel) other is = of_kernel (is_lock lock) kernel.0 (kernel_refusals w who (is_lock lock) kernel.0 ((not (is_kernel_that (owns who) w kernel.0), NotOwner) ∷ [])) _ refl is
  accepted_free n room Return other is = accepted_return n is
  accepted_free n room MayRunLong other is = of_busy _ is
  accepted_free n room Disassociate other is = of_busy _ is
  accepted_free n room (OnReturn kind kernel count) other is = accepted_on_return kind kernel count is
  accepted_free n room Finish other is = accepted_finish is
  accepted_free n room _ other is = absurd (false_true (sym other))
