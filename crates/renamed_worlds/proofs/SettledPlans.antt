-- The plan of each call is the same where waits cover only what is outstanding.
use Rattle.std.proofs.Common.{◌≡◌, ℕ, refl}
use Rattle.tp_base.specs.declared.calls.Call.{Call}
use Rattle.tp_base.specs.declared.calls.Call.TheVariants.{Advance, Attach, BeginAcquire, BeginClose, BeginWait, CancelIo, CloseGroup, CloseObject, ClosePool, CompleteIo, CompleteNext, Create, CreateEvent, CreateGroup, CreateLock, CreatePool, CreateSemaphore, Detach, Disassociate}
use Rattle.tp_base.specs.declared.calls.Call.TheVariants.{End, Finish, IsTimerSet, IssueIo, MayRunLong, OnReturn, ReleaseLock, ReleaseSemaphore, ResetEvent, Return, SetEvent, SetMaximum, SetMinimum, SetTimer, SetTimerEx, SetWait, StartIo, SubmitSimple, SubmitWork, Take, TryAcquire}
use Rattle.tp_base.specs.declared.ids.Who.{Who}
use Rattle.tp_model.specs.Calls.Pools.{create_pool_plan, close_pool_plan, set_maximum_plan, set_minimum_plan}
use Rattle.tp_model.specs.Calls.Groups.{create_group_plan, close_group_plan, begin_close_plan}
use Rattle.tp_model.specs.Calls.Objects.{create_plan, close_object_plan}
use Rattle.tp_model.specs.Calls.Work.{submit_work_plan, submit_simple_plan}
use Rattle.tp_model.specs.Calls.Workers.{attach_plan, detach_plan, take_plan, return_plan}
use Rattle.tp_model.specs.Calls.InCallback.{may_run_long_plan, disassociate_plan, on_return_plan}
use Rattle.tp_model.specs.Calls.Timers.{set_timer_plan, set_timer_ex_plan, is_timer_set_plan, advance_plan}
use Rattle.tp_model.specs.Calls.WaitObjects.{set_wait_plan}
use Rattle.tp_model.specs.Calls.Io.{start_io_plan, issue_io_plan, cancel_io_plan, complete_io_plan, complete_next_plan}
use Rattle.tp_model.specs.Calls.Waits.{begin_wait_plan, begin_acquire_plan, try_acquire_plan}
use Rattle.tp_model.specs.Calls.Kernels.{create_event_plan, create_semaphore_plan, create_lock_plan, set_event_plan, reset_event_plan, release_semaphore_plan, release_lock_plan}
use Rattle.tp_model.specs.Calls.Clients.{finish_plan}
use Rattle.tp_model.specs.Table.{plan_at}
use Rattle.tp_model.specs.World.{World}
use Rattle.renamed_worlds.specs.Closed.{settled}
use Rattle.renamed_worlds.proofs.Settled.{end_settled, in_wait_settled}

module _ (w : World) (next_number room : ℕ) (who : Who) where
  pub plan_settled : (call : Call) → plan_at (settled w) next_number room who call ≡ plan_at w next_number room who call
  unfolding create_pool_plan close_pool_plan set_maximum_plan set_minimum_plan create_group_plan close_group_plan begin_close_plan create_plan close_object_plan submit_simple_plan submit_work_plan set_timer_plan set_timer_ex_plan is_timer_set_plan advance_plan set_wait_plan start_io_plan issue_io_plan cancel_io_plan complete_io_plan complete_next_plan begin_wait_plan begin_acquire_plan try_acquire_plan create_event_plan create_semaphore_plan create_lock_plan set_event_plan reset_event_plan release_semaphore_plan release_lock_plan attach_plan detach_plan take_plan return_plan may_run_long_plan disassociate_plan on_return_plan finish_plan
  plan_settled CreatePool = rw (in_wait_settled w who)
  plan_settled (ClosePool pool) = rw (in_wait_settled w who)
  plan_settled (SetMaximum pool value) = rw (in_wait_settled w who)
  plan_settled (SetMinimum pool value) = rw (in_wait_settled w who)
  plan_settled CreateGroup = rw (in_wait_settled w who)
  plan_settled (CloseGroup group) = rw (in_wait_settled w who)
  plan_settled (BeginClose group cancel context) = rw (in_wait_settled w who)
  plan_settled (Create kind routine context env) = rw (in_wait_settled w who)
  plan_settled (CloseObject kind object) = rw (in_wait_settled w who)
  plan_settled (SubmitSimple routine context env) = rw (in_wait_settled w who)
  plan_settled (SubmitWork object) = rw (in_wait_settled w who)
  plan_settled (SetTimer object due period window) = rw (in_wait_settled w who)
  plan_settled (SetTimerEx object due period window) = rw (in_wait_settled w who)
  plan_settled (IsTimerSet object) = rw (in_wait_settled w who)
  plan_settled (Advance ticks) = rw (in_wait_settled w who)
  plan_settled (SetWait object kernel timeout) = rw (in_wait_settled w who)
  plan_settled (StartIo object) = rw (in_wait_settled w who)
  plan_settled (IssueIo object) = rw (in_wait_settled w who)
  plan_settled (CancelIo object) = rw (in_wait_settled w who)
  plan_settled (CompleteIo callback error bytes) = rw (in_wait_settled w who)
  plan_settled (CompleteNext object error bytes) = rw (in_wait_settled w who)
  plan_settled (BeginWait kind object cancel) = rw (in_wait_settled w who)
  plan_settled (BeginAcquire kernel) = rw (in_wait_settled w who)
  plan_settled (TryAcquire kernel) = rw (in_wait_settled w who)
  plan_settled End = end_settled w room who
  plan_settled (CreateEvent manual signalled) = rw (in_wait_settled w who)
  plan_settled (CreateSemaphore initial most) = rw (in_wait_settled w who)
  plan_settled (CreateLock lock owned) = rw (in_wait_settled w who)
  plan_settled (SetEvent kernel) = rw (in_wait_settled w who)
  plan_settled (ResetEvent kernel) = rw (in_wait_settled w who)
  plan_settled (ReleaseSemaphore kernel count) = rw (in_wait_settled w who)
  plan_settled (ReleaseLock lock kernel) = rw (in_wait_settled w who)
  plan_settled Attach = refl
  plan_settled Detach = refl
  plan_settled Take = refl
  plan_settled Return = rw (in_wait_settled w who)
  plan_settled MayRunLong = rw (in_wait_settled w who)
  plan_settled Disassociate = rw (in_wait_settled w who)
  plan_settled (OnReturn kind kernel count) = rw (in_wait_settled w who)
  plan_settled Finish = rw (in_wait_settled w who)
