-- What a call comes to in a world where two workers change places is what it comes to in the world, with these in the
-- other's place.
use Rattle.std.proofs.Common.{◌≡◌, ℕ, ◌+◌, ◌<◌, length}
use Rattle.tp_base.specs.declared.calls.Call.{Call}
use Rattle.tp_base.specs.declared.calls.Call.TheVariants.{Advance, Attach, BeginAcquire, BeginClose, BeginWait, CancelIo, CloseGroup, CloseObject, ClosePool, CompleteIo, CompleteNext, Create, CreateEvent, CreateGroup, CreateLock, CreatePool, CreateSemaphore, Detach, Disassociate}
use Rattle.tp_base.specs.declared.calls.Call.TheVariants.{End, Finish, IsTimerSet, IssueIo, MayRunLong, OnReturn, ReleaseLock, ReleaseSemaphore, ResetEvent, Return, SetEvent, SetMaximum, SetMinimum, SetTimer, SetTimerEx, SetWait, StartIo, SubmitSimple, SubmitWork, Take, TryAcquire}
use Rattle.tp_base.specs.declared.ids.Who.{Who}
use Rattle.tp_model.specs.Table.{plan_at}
use Rattle.tp_model.specs.World.{World}
use Rattle.renamed_worlds.specs.Exchanged.{exchanged, exchanged_plan, exchanged_who}
use Rattle.renamed_worlds.proofs.Exchange.Making.{advance_exchanged, cancel_io_exchanged, complete_io_exchanged, complete_next_exchanged, is_timer_set_exchanged, issue_io_exchanged, release_semaphore_exchanged, set_event_exchanged, set_timer_ex_exchanged, set_timer_exchanged, set_wait_exchanged, start_io_exchanged, submit_simple_exchanged, submit_work_exchanged}
use Rattle.renamed_worlds.proofs.Exchange.Objects.{close_object_exchanged, create_exchanged}
use Rattle.renamed_worlds.proofs.Exchange.Pools.{begin_close_exchanged, close_group_exchanged, close_pool_exchanged, create_event_exchanged, create_group_exchanged, create_lock_exchanged, create_pool_exchanged, create_semaphore_exchanged, release_lock_exchanged, reset_event_exchanged, set_maximum_exchanged, set_minimum_exchanged}
use Rattle.renamed_worlds.proofs.Exchange.Waits.{begin_acquire_exchanged, begin_wait_exchanged, end_exchanged, try_acquire_exchanged}
use Rattle.renamed_worlds.proofs.Exchange.Workers.{attach_exchanged, detach_exchanged, disassociate_exchanged, finish_exchanged, may_run_long_exchanged, on_return_exchanged, return_exchanged, take_exchanged}

module _ (at : ℕ) (w : World) (fits : at + 1 < length w.workers) (next_number room : ℕ) (who : Who) where
  pub plan_exchanged : (call : Call) → plan_at (exchanged at w) next_number room (exchanged_who at who) call ≡ exchanged_plan at (plan_at w next_number room who call)
  plan_exchanged CreatePool = create_pool_exchanged at w fits who
  plan_exchanged (ClosePool pool) = close_pool_exchanged at w fits who pool
  plan_exchanged (SetMaximum pool value) = set_maximum_exchanged at w fits who pool value
  plan_exchanged (SetMinimum pool value) = set_minimum_exchanged at w fits who pool value
  plan_exchanged CreateGroup = create_group_exchanged at w fits who
  plan_exchanged (CloseGroup group) = close_group_exchanged at w fits who group
  plan_exchanged (BeginClose group cancel context) = begin_close_exchanged at w fits who group cancel context
  plan_exchanged (Create kind routine context env) = create_exchanged at w fits who kind routine context env
  plan_exchanged (CloseObject kind object) = close_object_exchanged at w fits who kind object
  plan_exchanged (SubmitSimple routine context env) = submit_simple_exchanged at w fits who next_number routine context env
  plan_exchanged (SubmitWork object) = submit_work_exchanged at w fits who next_number object
  plan_exchanged (SetTimer object due period window) = set_timer_exchanged at w fits who next_number object due period window
  plan_exchanged (SetTimerEx object due period window) = set_timer_ex_exchanged at w fits who next_number object due period window
  plan_exchanged (IsTimerSet object) = is_timer_set_exchanged at w fits who object
  plan_exchanged (Advance ticks) = advance_exchanged at w fits who next_number ticks
  plan_exchanged (SetWait object kernel timeout) = set_wait_exchanged at w fits who next_number object kernel timeout
  plan_exchanged (StartIo object) = start_io_exchanged at w fits who next_number object
  plan_exchanged (IssueIo object) = issue_io_exchanged at w fits who object
  plan_exchanged (CancelIo object) = cancel_io_exchanged at w fits who object
  plan_exchanged (CompleteIo callback error bytes) = complete_io_exchanged at w fits who callback error bytes
  plan_exchanged (CompleteNext object error bytes) = complete_next_exchanged at w fits who object error bytes
  plan_exchanged (BeginWait kind object cancel) = begin_wait_exchanged at w fits who kind object cancel
  plan_exchanged (BeginAcquire kernel) = begin_acquire_exchanged at w fits who kernel
  plan_exchanged (TryAcquire kernel) = try_acquire_exchanged at w fits who kernel
  plan_exchanged End = end_exchanged at w fits room who
  plan_exchanged (CreateEvent manual signalled) = create_event_exchanged at w fits who manual signalled
  plan_exchanged (CreateSemaphore initial most) = create_semaphore_exchanged at w fits who initial most
  plan_exchanged (CreateLock lock owned) = create_lock_exchanged at w fits who lock owned
  plan_exchanged (SetEvent kernel) = set_event_exchanged at w fits who next_number kernel
  plan_exchanged (ResetEvent kernel) = reset_event_exchanged at w fits who kernel
  plan_exchanged (ReleaseSemaphore kernel count) = release_semaphore_exchanged at w fits who next_number kernel count
  plan_exchanged (ReleaseLock lock kernel) = release_lock_exchanged at w fits who lock kernel
  plan_exchanged Attach = attach_exchanged at w fits who
  plan_exchanged Detach = detach_exchanged at w fits who
  plan_exchanged Take = take_exchanged at w fits who
  plan_exchanged Return = return_exchanged at w fits who next_number
  plan_exchanged MayRunLong = may_run_long_exchanged at w fits who
  plan_exchanged Disassociate = disassociate_exchanged at w fits who
  plan_exchanged (OnReturn kind kernel count) = on_return_exchanged at w fits who kind kernel count
  plan_exchanged Finish = finish_exchanged at w fits who
