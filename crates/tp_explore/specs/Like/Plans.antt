-- The change that an actor's call comes to is by a worker with a number, if it is by a worker. No soundness is asked for.
use Rattle.std.proofs.Common.{ℕ, ◌+◌, ◌≤◌, ◌==◌, ◌||◌, not, Bool, true, false, cond, length, nat_le, nat_lt, List, [], ◌∷◌, Option, None, Some, option_map}
use Rattle.tp_base.specs.Kernels.{is_event, is_lock, may_take, owns}
use Rattle.tp_base.specs.declared.answers.ActionKind.{ActionKind}
use Rattle.tp_base.specs.declared.answers.Answer.{Answer}
use Rattle.tp_base.specs.declared.answers.Answer.TheVariants as answer
use Rattle.tp_base.specs.declared.answers.Refusal.{Refusal}
use Rattle.tp_base.specs.declared.answers.Refusal.TheVariants.{NotOwner, OverMaximum}
use Rattle.tp_base.specs.declared.calls.Call.{Call}
use Rattle.tp_base.specs.declared.calls.Call.TheVariants.{Advance, Attach, BeginAcquire, BeginClose, BeginWait, CancelIo, CloseGroup, CloseObject, ClosePool, CompleteIo, CompleteNext, Create, CreateEvent, CreateGroup, CreateLock, CreatePool, CreateSemaphore, Detach, Disassociate}
use Rattle.tp_base.specs.declared.calls.Call.TheVariants.{End, Finish, IsTimerSet, IssueIo, MayRunLong, OnReturn, ReleaseLock, ReleaseSemaphore, ResetEvent, Return, SetEvent, SetMaximum, SetMinimum, SetTimer, SetTimerEx, SetWait, StartIo, SubmitSimple, SubmitWork, Take, TryAcquire}
use Rattle.tp_base.specs.declared.calls.Kind.TheVariants.{Timer}
use Rattle.tp_base.specs.declared.ids.KernelId.{KernelId}
use Rattle.tp_base.specs.declared.ids.ObjectId.{ObjectId}
use Rattle.tp_base.specs.declared.ids.PoolId.{PoolId}
use Rattle.tp_base.specs.declared.ids.Who.{Who}
use Rattle.tp_base.specs.declared.ids.Who.TheVariants.{Client, Worker}
use Rattle.tp_base.specs.declared.limits.Limits.{Limits}
use Rattle.tp_base.specs.declared.plans.Busy.{Busy}
use Rattle.tp_base.specs.declared.plans.Idle.{Idle}
use Rattle.tp_base.specs.declared.plans.IoStep.{IoStep}
use Rattle.tp_base.specs.declared.plans.IoStep.TheVariants.{GiveUp, Issue}
use Rattle.tp_base.specs.declared.plans.Plan.{Plan}
use Rattle.tp_base.specs.declared.plans.Plan.TheVariants.{Does, Looked, Refused}
use Rattle.tp_base.specs.declared.plans.Trigger.TheVariants as trigger
use Rattle.tp_base.specs.declared.rows.CallbackRow.{CallbackRow}
use Rattle.tp_base.specs.declared.rows.ObjectRow.{ObjectRow}
use Rattle.tp_base.specs.declared.rows.WaitTarget.{WaitTarget}
use Rattle.tp_base.specs.declared.rows.WaitTarget.TheVariants.{Group, Kernel, Object}
use Rattle.tp_base.specs.declared.rows.WorkerRow.{WorkerRow}
use Rattle.tp_model.specs.Calls.Clients.{finish, finish_plan, finish_refusals}
use Rattle.tp_model.specs.Calls.End.{end_plan, end_refusals, end_unless_stalled}
use Rattle.tp_model.specs.Calls.Groups.{begin_close_plan, begin_close_refusals, close_group_plan, close_group_refusals, create_group_plan}
use Rattle.tp_model.specs.Calls.InCallback.{busy_refusals, disassociate, disassociate_plan, may_run_long, may_run_long_plan, on_return, on_return_plan, on_return_refusals}
use Rattle.tp_model.specs.Calls.Io.{cancel_io_plan, complete_io, complete_io_plan, complete_io_refusals, complete_next_plan, complete_next_refusals, expected_refusals, first_expected, first_issued, issue_io_plan, issued_of, operate, start_io, start_io_plan, start_io_refusals}
use Rattle.tp_model.specs.Calls.Kernels.{create_event_plan, create_lock_plan, create_semaphore_plan, kernel_refusals, release_lock_plan, release_semaphore_plan, release_semaphore_refusals, reset_event_plan, set_event_plan}
use Rattle.tp_model.specs.Calls.Objects.{close_object_plan, close_object_refusals, create_plan, create_refusals}
use Rattle.tp_model.specs.Calls.Pools.{close_pool_plan, create_pool_plan, pool_refusals, set_maximum_plan, set_minimum_plan}
use Rattle.tp_model.specs.Calls.Timers.{advance_plan, advance_refusals, is_timer_set_plan, set_timer_ex_plan, set_timer_plan, set_timer_refusals}
use Rattle.tp_model.specs.Calls.WaitObjects.{set_wait_plan, set_wait_refusals}
use Rattle.tp_model.specs.Calls.Waits.{begin_acquire_plan, begin_acquire_refusals, begin_wait_plan, begin_wait_refusals, end_acquire, end_for, end_held, end_notices, end_wait, holds_starved, try_acquire_plan}
use Rattle.tp_model.specs.Calls.Work.{submit, submit_simple_plan, submit_simple_refusals, submit_work_plan, submit_work_refusals}
use Rattle.tp_model.specs.Calls.Workers.{attach_plan, attach_refusals, attach_to, detach, detach_plan, idle_refusals, may_leave, pool_to_join, return, return_plan, return_refusals, take, take_callback, take_plan}
use Rattle.tp_model.specs.Conditions.{busy_in, busy_of, busy_row, idle_in, idle_of, idle_row}
use Rattle.tp_model.specs.Counts.{callback_of, maximum, next, numbered, running}
use Rattle.tp_model.specs.Kernels.{is_kernel_that}
use Rattle.tp_model.specs.Refusing.{first_refusal, make_refusals, object_refusals, unless_refused}
use Rattle.tp_model.specs.Stages.{IsActor}
use Rattle.tp_model.specs.Stalled.{is_stalled}
use Rattle.tp_model.specs.Table.{plan_at}
use Rattle.tp_model.specs.Waits.{held, wait_of}
use Rattle.tp_model.specs.World.{BegunWait, World}
use Rattle.renamed_worlds.specs.Exchanged.{IsByWorker}

abbrev pub IsPlanByWorker : Plan → Type 0
IsPlanByWorker (Refused refusal) = Unit {0}
IsPlanByWorker (Looked look) = Unit {0}
IsPlanByWorker (Does told how) = IsByWorker how

unless : (refusals : List (Bool × Refusal)) (x : Plan) → IsPlanByWorker x → IsPlanByWorker (unless_refused (first_refusal refusals) x)
unless refusals x is = of_first (first_refusal refusals)
  where
    of_first : (o : Option Refusal) → IsPlanByWorker (unless_refused o x)
    of_first None = is
    of_first (Some refusal) = tt

either : (b : Bool) (x y : Plan) → IsPlanByWorker x → IsPlanByWorker y → IsPlanByWorker (cond b x y)
either true x y is other = is
either false x y is other = other

-- ---- by a worker that has a number

module _ (number : ℕ) (some : 1 ≤ number) where
  of_idle : (f : Option Idle → Plan) → IsPlanByWorker (f None) → ((by : Idle) → 1 ≤ by.worker → IsPlanByWorker (f (Some by))) → (row : Option WorkerRow) → IsPlanByWorker (f (idle_in number row))
  of_idle f none by None = none
  of_idle f none by (Some row) = of_row row.pool row.callback
    where
      of_row : (pool : Option PoolId) (callback : Option ℕ) → IsPlanByWorker (f (idle_row number pool callback row.persistent))
      of_row (Some pool) None = by (record { worker = number; pool = pool; persistent = row.persistent }) some
      of_row (Some pool) (Some callback) = none
      of_row None callback = none

  of_busy : (w : World) (f : Option Busy → Plan) → IsPlanByWorker (f None) → ((by : Busy) → 1 ≤ by.worker → IsPlanByWorker (f (Some by))) → (row : Option WorkerRow) → IsPlanByWorker (f (busy_in w number row))
  of_busy w f none by None = none
  of_busy w f none by (Some row) = of_row row.pool row.callback
    where
      of_callback : (pool : PoolId) (c : Option CallbackRow) → IsPlanByWorker (f (option_map (λ (c : CallbackRow). record { worker = number; pool = pool; callback = c; persistent = row.persistent }) c))
      of_callback pool None = none
      of_callback pool (Some c) = by (record { worker = number; pool = pool; callback = c; persistent = row.persistent }) some

      of_row : (pool : Option PoolId) (callback : Option ℕ) → IsPlanByWorker (f (busy_row w number pool callback row.persistent))
      of_row (Some pool) None = none
      of_row (Some pool) (Some callback) = of_callback pool (callback_of w callback)
      of_row None callback = none

-- ---- plans

module _ (limits : Limits) (w : World) where
  attach_by : (who : Who) → IsActor limits who → (pool : Option ℕ) → IsPlanByWorker (attach_to who pool)
  attach_by (Client number) actor pool = tt
  attach_by (Worker number) actor None = tt
  attach_by (Worker number) actor (Some pool) = actor.0

  detach_by : (who : Who) → IsActor limits who → IsPlanByWorker (detach w (idle_of w who))
  detach_by (Client number) actor = tt
  detach_by (Worker number) actor = of_idle number actor.0 (detach w) tt (λ by some. either (may_leave w by) _ _ some tt) (numbered w.workers number)

  take_by : (who : Who) → IsActor limits who → IsPlanByWorker (take w (idle_of w who))
  take_by (Client number) actor = tt
  take_by (Worker number) actor = of_idle number actor.0 (take w) tt (λ by some. takes by some (next w by.pool.0 by.persistent)) (numbered w.workers number)
    where
      takes : (by : Idle) → 1 ≤ by.worker → (c : Option CallbackRow) → IsPlanByWorker (take_callback w by c)
      takes by some None = tt
      takes by some (Some c) = either (nat_le (maximum w by.pool.0) (running w by.pool.0)) _ _ tt some

  module _ (next_number room : ℕ) (who : Who) where
    return_by : IsActor limits who → IsPlanByWorker (return w next_number who (busy_of w who))
    return_by actor = of_who who actor
      where
        of_who : (by : Who) → IsActor limits by → IsPlanByWorker (return w next_number who (busy_of w by))
        of_who (Client number) acts = tt
        of_who (Worker number) acts = of_busy number acts.0 w (return w next_number who) tt (λ by some. some) (numbered w.workers number)

    long_by : (by : Option Busy) → IsPlanByWorker (may_run_long w by)
    long_by None = tt
    long_by (Some by) = tt

    disassociate_by : (by : Option Busy) → IsPlanByWorker (disassociate by)
    disassociate_by None = tt
    disassociate_by (Some by) = tt

    return_of_by : (kind : ActionKind) (kernel : KernelId) (count : ℕ) (by : Option Busy) → IsPlanByWorker (on_return kind kernel count by)
    return_of_by kind kernel count None = tt
    return_of_by kind kernel count (Some by) = tt

    submit_by : (object : ObjectId) (row : Option ObjectRow) → IsPlanByWorker (submit next_number object row)
    submit_by object None = tt
    submit_by object (Some row) = tt

    start_by : (object : ObjectId) (row : Option ObjectRow) → IsPlanByWorker (start_io next_number object row)
    start_by object None = tt
    start_by object (Some row) = tt

    operate_by : (told : ℕ → Answer) (how : IoStep) (c : Option CallbackRow) → IsPlanByWorker (operate told how c)
    operate_by told how None = tt
    operate_by told how (Some c) = tt

    complete_by : (error bytes : ℕ) (c : Option CallbackRow) → IsPlanByWorker (complete_io error bytes c)
    complete_by error bytes None = tt
    complete_by error bytes (Some c) = tt

    finish_by : (by : Who) → IsPlanByWorker (finish by)
    finish_by (Client number) = tt
    finish_by (Worker number) = tt

    acquire_by : (kernel : KernelId) → IsPlanByWorker (end_acquire w who kernel)
    acquire_by kernel = either (is_kernel_that (may_take who) w kernel.0) _ _ tt tt

    held_by : (b : BegunWait) (numbers : List ℕ) → IsPlanByWorker (end_held w room who b numbers)
    held_by b [] = of_notices b.notices
      where
        of_notices : (notices : List ObjectId) → IsPlanByWorker (end_notices w who b.cleanup notices)
        of_notices [] = tt
        of_notices (object ∷ objects) = tt
    held_by b (number ∷ numbers) = either (holds_starved w room (number ∷ numbers)) _ _ tt tt

    wait_by : (o : Option BegunWait) → IsPlanByWorker (end_wait w room who o)
    wait_by None = tt
    wait_by (Some b) = of_target b.target
      where
        of_target : (target : WaitTarget) → IsPlanByWorker (end_for w room who b target)
        of_target (Object object) = held_by b (held w b)
        of_target (Group group) = held_by b (held w b)
        of_target (Kernel kernel) = acquire_by kernel

    stalled_by : (x : Plan) → IsPlanByWorker x → IsPlanByWorker (end_unless_stalled w room who x)
    stalled_by (Refused refusal) is = tt
    stalled_by (Looked look) is = either (is_stalled w room) _ _ tt tt
    stalled_by (Does told how) is = is

    pub plan_by_worker : IsActor limits who → (call : Call) → IsPlanByWorker (plan_at w next_number room who call)
    unfolding create_pool_plan close_pool_plan set_maximum_plan set_minimum_plan create_group_plan close_group_plan begin_close_plan create_plan close_object_plan submit_simple_plan submit_work_plan set_timer_plan set_timer_ex_plan is_timer_set_plan advance_plan set_wait_plan start_io_plan issue_io_plan cancel_io_plan complete_io_plan complete_next_plan begin_wait_plan begin_acquire_plan try_acquire_plan end_plan create_event_plan create_semaphore_plan create_lock_plan set_event_plan reset_event_plan release_semaphore_plan release_lock_plan attach_plan detach_plan take_plan return_plan may_run_long_plan disassociate_plan on_return_plan finish_plan
    plan_by_worker actor CreatePool = unless (make_refusals w who [] w.limits.pools (length w.pools)) _ tt
    plan_by_worker actor (ClosePool pool) = unless (pool_refusals w who pool.0) _ tt
    plan_by_worker actor (SetMaximum pool value) = unless (pool_refusals w who pool.0) _ tt
    plan_by_worker actor (SetMinimum pool value) = unless (pool_refusals w who pool.0) _ tt
    plan_by_worker actor CreateGroup = unless (make_refusals w who [] w.limits.groups (length w.groups)) _ tt
    plan_by_worker actor (CloseGroup group) = unless (close_group_refusals w who group) _ tt
    plan_by_worker actor (BeginClose group cancel context) = unless (begin_close_refusals w who group.0) _ tt
    plan_by_worker actor (Create kind routine context env) = unless (create_refusals w who env) _ tt
    plan_by_worker actor (CloseObject kind object) = unless (close_object_refusals w who kind object) _ tt
    plan_by_worker actor (SubmitSimple routine context env) = unless (submit_simple_refusals w who env) _ tt
    plan_by_worker actor (SubmitWork object) = unless (submit_work_refusals w who object.0) _ (submit_by object (numbered w.objects object.0))
    plan_by_worker actor (SetTimer object due period window) = unless (set_timer_refusals w who object.0 (trigger.SetTimer object due period window)) _ tt
    plan_by_worker actor (SetTimerEx object due period window) = unless (set_timer_refusals w who object.0 (trigger.SetTimer object due period window)) _ tt
    plan_by_worker actor (IsTimerSet object) = unless (object_refusals w who Timer object.0) _ tt
    plan_by_worker actor (Advance ticks) = unless (advance_refusals w who (w.now + ticks)) _ tt
    plan_by_worker actor (SetWait object kernel timeout) = unless (set_wait_refusals w who object kernel timeout) _ tt
    plan_by_worker actor (StartIo object) = unless (start_io_refusals w who object.0) _ (start_by object (numbered w.objects object.0))
    plan_by_worker actor (IssueIo object) = unless (expected_refusals w who object.0) _ (operate_by answer.Operation Issue (first_expected w object.0))
    plan_by_worker actor (CancelIo object) = unless (expected_refusals w who object.0) _ (operate_by answer.Cancelled GiveUp (first_expected w object.0))
    plan_by_worker actor (CompleteIo callback error bytes) = unless (complete_io_refusals w who callback) _ (complete_by error bytes (issued_of w callback))
    plan_by_worker actor (CompleteNext object error bytes) = unless (complete_next_refusals w who object.0) _ (complete_by error bytes (first_issued w object.0))
    plan_by_worker actor (BeginWait kind object cancel) = unless (begin_wait_refusals w who kind object.0) _ tt
    plan_by_worker actor (BeginAcquire kernel) = unless (begin_acquire_refusals w who kernel.0) _ tt
    plan_by_worker actor (TryAcquire kernel) = unless (begin_acquire_refusals w who kernel.0) _ (either (is_kernel_that (may_take who) w kernel.0) _ _ tt tt)
    plan_by_worker actor End = unless (end_refusals w who) _ (stalled_by (end_wait w room who (wait_of w who)) (wait_by (wait_of w who)))
    plan_by_worker actor (CreateEvent manual signalled) = unless (make_refusals w who [] w.limits.kernels (length w.kernels)) _ tt
    plan_by_worker actor (CreateSemaphore initial most) = unless (make_refusals w who ((nat_lt most initial || (most == 0), OverMaximum initial) ∷ []) w.limits.kernels (length w.kernels)) _ tt
    plan_by_worker actor (CreateLock lock owned) = unless (make_refusals w who [] w.limits.kernels (length w.kernels)) _ tt
    plan_by_worker actor (SetEvent kernel) = unless (kernel_refusals w who is_event kernel.0 []) _ tt
    plan_by_worker actor (ResetEvent kernel) = unless (kernel_refusals w who is_event kernel.0 []) _ tt
    plan_by_worker actor (ReleaseSemaphore kernel count) = unless (release_semaphore_refusals w who kernel.0 count) _ tt
    plan_by_worker actor (ReleaseLock lock kernel) = unless (kernel_refusals w who (is_lock lock) kernel.0 ((not (is_kernel_that (owns who) w kernel.0), NotOwner) ∷ [])) _ tt
    plan_by_worker actor Attach = unless (attach_refusals w who) _ (attach_by who actor (pool_to_join w))
    plan_by_worker actor Detach = unless (idle_refusals w who) _ (detach_by who actor)
    plan_by_worker actor Take = unless (idle_refusals w who) _ (take_by who actor)
    plan_by_worker actor Return = unless (return_refusals w who) _ (return_by actor)
    plan_by_worker actor MayRunLong = unless (busy_refusals w who) _ (long_by (busy_of w who))
    plan_by_worker actor Disassociate = unless (busy_refusals w who) _ (disassociate_by (busy_of w who))
    plan_by_worker actor (OnReturn kind kernel count) = unless (on_return_refusals w who kind kernel.0) _ (return_of_by kind kernel count (busy_of w who))
    plan_by_worker actor Finish = unless (finish_refusals w who) _ (finish_by who)
