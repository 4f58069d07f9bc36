-- What a call comes to in a renamed world is what it comes to in the world, renamed.
use Rattle.std.proofs.Common.{◌≡◌, ℕ}
use Rattle.tp_base.specs.declared.calls.Call.{Call}
use Rattle.tp_base.specs.declared.calls.Call.TheVariants.{Advance, Attach, BeginAcquire, BeginClose, BeginWait, CancelIo, CloseGroup, CloseObject, ClosePool, CompleteIo, CompleteNext, Create, CreateEvent, CreateGroup, CreateLock, CreatePool, CreateSemaphore, Detach, Disassociate}
use Rattle.tp_base.specs.declared.calls.Call.TheVariants.{End, Finish, IsTimerSet, IssueIo, MayRunLong, OnReturn, ReleaseLock, ReleaseSemaphore, ResetEvent, Return, SetEvent, SetMaximum, SetMinimum, SetTimer, SetTimerEx, SetWait, StartIo, SubmitSimple, SubmitWork, Take, TryAcquire}
use Rattle.tp_base.specs.declared.ids.Who.{Who}
use Rattle.tp_model.specs.Table.{plan_at}
use Rattle.tp_model.specs.World.{World}
use Rattle.renamed_worlds.specs.Renamed.{renamed, renamed_call, renamed_plan, IsNaming}
use Rattle.renamed_worlds.proofs.Calls.Making.{advance_renamed, cancel_io_renamed, complete_io_renamed, complete_next_renamed, is_timer_set_renamed, issue_io_renamed, release_semaphore_renamed, set_event_renamed, set_timer_ex_renamed, set_timer_renamed, set_wait_renamed, start_io_renamed, submit_simple_renamed, submit_work_renamed}
use Rattle.renamed_worlds.proofs.Calls.Objects.{close_object_renamed, create_renamed}
use Rattle.renamed_worlds.proofs.Calls.Pools.{begin_close_renamed, close_group_renamed, close_pool_renamed, create_event_renamed, create_group_renamed, create_lock_renamed, create_pool_renamed, create_semaphore_renamed, release_lock_renamed, reset_event_renamed, set_maximum_renamed, set_minimum_renamed}
use Rattle.renamed_worlds.proofs.Calls.Waits.{begin_acquire_renamed, begin_wait_renamed, end_renamed, try_acquire_renamed}
use Rattle.renamed_worlds.proofs.Calls.Workers.{attach_renamed, detach_renamed, disassociate_renamed, finish_renamed, may_run_long_renamed, on_return_renamed, return_renamed, take_renamed}

module _ (name : ℕ → ℕ) (naming : IsNaming name) (w : World) (next_number room : ℕ) (who : Who) where
  pub plan_renamed : (call : Call) → plan_at (renamed name w) (name next_number) room who (renamed_call name call) ≡ renamed_plan name (plan_at w next_number room who call)
  plan_renamed CreatePool = create_pool_renamed name naming w who
  plan_renamed (ClosePool pool) = close_pool_renamed name naming w who pool
  plan_renamed (SetMaximum pool value) = set_maximum_renamed name naming w who pool value
  plan_renamed (SetMinimum pool value) = set_minimum_renamed name naming w who pool value
  plan_renamed CreateGroup = create_group_renamed name naming w who
  plan_renamed (CloseGroup group) = close_group_renamed name naming w who group
  plan_renamed (BeginClose group cancel context) = begin_close_renamed name naming w who group cancel context
  plan_renamed (Create kind routine context env) = create_renamed name naming w who kind routine context env
  plan_renamed (CloseObject kind object) = close_object_renamed name naming w who kind object
  plan_renamed (SubmitSimple routine context env) = submit_simple_renamed name naming w who next_number routine context env
  plan_renamed (SubmitWork object) = submit_work_renamed name naming w who next_number object
  plan_renamed (SetTimer object due period window) = set_timer_renamed name naming w who next_number object due period window
  plan_renamed (SetTimerEx object due period window) = set_timer_ex_renamed name naming w who next_number object due period window
  plan_renamed (IsTimerSet object) = is_timer_set_renamed name naming w who object
  plan_renamed (Advance ticks) = advance_renamed name naming w who next_number ticks
  plan_renamed (SetWait object kernel timeout) = set_wait_renamed name naming w who next_number object kernel timeout
  plan_renamed (StartIo object) = start_io_renamed name naming w who next_number object
  plan_renamed (IssueIo object) = issue_io_renamed name naming w who object
  plan_renamed (CancelIo object) = cancel_io_renamed name naming w who object
  plan_renamed (CompleteIo callback error bytes) = complete_io_renamed name naming w who callback error bytes
  plan_renamed (CompleteNext object error bytes) = complete_next_renamed name naming w who object error bytes
  plan_renamed (BeginWait kind object cancel) = begin_wait_renamed name naming w who kind object cancel
  plan_renamed (BeginAcquire kernel) = begin_acquire_renamed name naming w who kernel
  plan_renamed (TryAcquire kernel) = try_acquire_renamed name naming w who kernel
  plan_renamed End = end_renamed name naming w room who
  plan_renamed (CreateEvent manual signalled) = create_event_renamed name naming w who manual signalled
  plan_renamed (CreateSemaphore initial most) = create_semaphore_renamed name naming w who initial most
  plan_renamed (CreateLock lock owned) = create_lock_renamed name naming w who lock owned
  plan_renamed (SetEvent kernel) = set_event_renamed name naming w who next_number kernel
  plan_renamed (ResetEvent kernel) = reset_event_renamed name naming w who kernel
  plan_renamed (ReleaseSemaphore kernel count) = release_semaphore_renamed name naming w who next_number kernel count
  plan_renamed (ReleaseLock lock kernel) = release_lock_renamed name naming w who lock kernel
  plan_renamed Attach = attach_renamed name naming w who
  plan_renamed Detach = detach_renamed name naming w who
  plan_renamed Take = take_renamed name naming w who
  plan_renamed Return = return_renamed name naming w who next_number
  plan_renamed MayRunLong = may_run_long_renamed name naming w who
  plan_renamed Disassociate = disassociate_renamed name naming w who
  plan_renamed (OnReturn kind kernel count) = on_return_renamed name naming w who kind kernel count
  plan_renamed Finish = finish_renamed name naming w who
