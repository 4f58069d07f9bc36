-- The plan of each call, and the step.
use Rattle.std.specs.Prelude.{ℕ, ◌+◌, length}
use Rattle.tp_base.specs.declared.ids.Who.{Who}
use Rattle.tp_base.specs.declared.calls.Call.{Call}
use Rattle.tp_base.specs.declared.calls.Call.TheVariants.{CreatePool, ClosePool, SetMaximum, SetMinimum, CreateGroup, CloseGroup, BeginClose, Create, CloseObject, SubmitSimple, SubmitWork}
use Rattle.tp_base.specs.declared.calls.Call.TheVariants.{SetTimer, SetTimerEx, IsTimerSet, Advance, SetWait, StartIo, IssueIo, CancelIo, CompleteIo, CompleteNext}
use Rattle.tp_base.specs.declared.calls.Call.TheVariants.{BeginWait, BeginAcquire, TryAcquire, End, CreateEvent, CreateSemaphore, CreateLock, SetEvent, ResetEvent, ReleaseSemaphore, ReleaseLock}
use Rattle.tp_base.specs.declared.calls.Call.TheVariants.{Attach, Detach, Take, Return, MayRunLong, Disassociate, OnReturn, Finish}
use Rattle.tp_base.specs.declared.plans.Plan.{Plan}
use Rattle.tp_model.specs.World.{World}
use Rattle.tp_model.specs.Step.{Step, stepped, within}
use Rattle.tp_model.specs.Calls.Pools.{create_pool_plan, close_pool_plan, set_maximum_plan, set_minimum_plan}
use Rattle.tp_model.specs.Calls.Groups.{create_group_plan, close_group_plan, begin_close_plan}
use Rattle.tp_model.specs.Calls.Objects.{create_plan, close_object_plan}
use Rattle.tp_model.specs.Calls.Work.{submit_work_plan, submit_simple_plan}
use Rattle.tp_model.specs.Calls.Workers.{attach_plan, detach_plan, take_plan, return_plan}
use Rattle.tp_model.specs.Calls.InCallback.{may_run_long_plan, disassociate_plan, on_return_plan}
use Rattle.tp_model.specs.Calls.Timers.{set_timer_plan, set_timer_ex_plan, is_timer_set_plan, advance_plan}
use Rattle.tp_model.specs.Calls.WaitObjects.{set_wait_plan}
use Rattle.tp_model.specs.Calls.Io.{start_io_plan, issue_io_plan, cancel_io_plan, complete_io_plan, complete_next_plan}
use Rattle.tp_model.specs.Calls.Waits.{begin_wait_plan, begin_acquire_plan, try_acquire_plan}
use Rattle.tp_model.specs.Calls.End.{end_plan}
use Rattle.tp_model.specs.Calls.Kernels.{create_event_plan, create_semaphore_plan, create_lock_plan, set_event_plan, reset_event_plan, release_semaphore_plan, release_lock_plan}
use Rattle.tp_model.specs.Calls.Clients.{finish_plan}

-- with the number that the next callback gets, and with the room of the history
abbrev pub plan_at : World → ℕ → ℕ → Who → Call → Plan
plan_at w next_number room who CreatePool = create_pool_plan w who
plan_at w next_number room who (ClosePool pool) = close_pool_plan w who pool
plan_at w next_number room who (SetMaximum pool value) = set_maximum_plan w who pool value
plan_at w next_number room who (SetMinimum pool value) = set_minimum_plan w who pool value
plan_at w next_number room who CreateGroup = create_group_plan w who
plan_at w next_number room who (CloseGroup group) = close_group_plan w who group
plan_at w next_number room who (BeginClose group cancel context) = begin_close_plan w who group cancel context
plan_at w next_number room who (Create kind routine context env) = create_plan w who kind routine context env
plan_at w next_number room who (CloseObject kind object) = close_object_plan w who kind object
plan_at w next_number room who (SubmitSimple routine context env) = submit_simple_plan w next_number who routine context env
plan_at w next_number room who (SubmitWork object) = submit_work_plan w next_number who object
plan_at w next_number room who (SetTimer object due period window) = set_timer_plan w next_number who object due period window
plan_at w next_number room who (SetTimerEx object due period window) = set_timer_ex_plan w next_number who object due period window
plan_at w next_number room who (IsTimerSet object) = is_timer_set_plan w who object
plan_at w next_number room who (Advance ticks) = advance_plan w next_number who ticks
plan_at w next_number room who (SetWait object kernel timeout) = set_wait_plan w next_number who object kernel timeout
plan_at w next_number room who (StartIo object) = start_io_plan w next_number who object
plan_at w next_number room who (IssueIo object) = issue_io_plan w who object
plan_at w next_number room who (CancelIo object) = cancel_io_plan w who object
plan_at w next_number room who (CompleteIo callback error bytes) = complete_io_plan w who callback error bytes
plan_at w next_number room who (CompleteNext object error bytes) = complete_next_plan w who object error bytes
plan_at w next_number room who (BeginWait kind object cancel) = begin_wait_plan w who kind object cancel
plan_at w next_number room who (BeginAcquire kernel) = begin_acquire_plan w who kernel
plan_at w next_number room who (TryAcquire kernel) = try_acquire_plan w who kernel
plan_at w next_number room who End = end_plan w room who
plan_at w next_number room who (CreateEvent manual signalled) = create_event_plan w who manual signalled
plan_at w next_number room who (CreateSemaphore initial maximum) = create_semaphore_plan w who initial maximum
plan_at w next_number room who (CreateLock lock owned) = create_lock_plan w who lock owned
plan_at w next_number room who (SetEvent kernel) = set_event_plan w next_number who kernel
plan_at w next_number room who (ResetEvent kernel) = reset_event_plan w who kernel
plan_at w next_number room who (ReleaseSemaphore kernel count) = release_semaphore_plan w next_number who kernel count
plan_at w next_number room who (ReleaseLock lock kernel) = release_lock_plan w who lock kernel
plan_at w next_number room who Attach = attach_plan w who
plan_at w next_number room who Detach = detach_plan w who
plan_at w next_number room who Take = take_plan w who
plan_at w next_number room who Return = return_plan w next_number who
plan_at w next_number room who MayRunLong = may_run_long_plan w who
plan_at w next_number room who Disassociate = disassociate_plan w who
plan_at w next_number room who (OnReturn kind kernel count) = on_return_plan w who kind kernel count
plan_at w next_number room who Finish = finish_plan w who

-- callbacks are numbered from 1 in the order in which they are made
abbrev pub plan : World → ℕ → Who → Call → Plan
plan w room who call = plan_at w (length w.callbacks + 1) room who call

-- what a call comes to in a world whose history has this room, but for what it costs
abbrev pub unpriced : World → ℕ → Who → Call → Step
unpriced w room who call = stepped w (plan w room who call)

-- what a call comes to in a world whose history has this room
abbrev pub step : World → ℕ → Who → Call → Step
step w room who call = within w room (unpriced w room who call)
