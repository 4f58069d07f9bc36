-- The facts of every call. Each stands with the others of its call, by what the call acts on, as the plans do.
use Rattle.std.proofs.Common.{◌≡◌, ℕ, ◌+◌, ◌≤◌, ◌^◌, arith}
use Rattle.tp_base.specs.declared.ids.Who.{Who}
use Rattle.tp_base.specs.declared.calls.Call.{Call}
use Rattle.tp_base.specs.declared.calls.Call.TheVariants.{CreatePool, ClosePool, SetMaximum, SetMinimum, CreateGroup, CloseGroup, BeginClose, Create, CloseObject, SubmitSimple, SubmitWork}
use Rattle.tp_base.specs.declared.calls.Call.TheVariants.{SetTimer, SetTimerEx, IsTimerSet, Advance, SetWait, StartIo, IssueIo, CancelIo, CompleteIo, CompleteNext}
use Rattle.tp_base.specs.declared.calls.Call.TheVariants.{BeginWait, BeginAcquire, TryAcquire, End, CreateEvent, CreateSemaphore, CreateLock, SetEvent, ResetEvent, ReleaseSemaphore, ReleaseLock}
use Rattle.tp_base.specs.declared.calls.Call.TheVariants.{Attach, Detach, Take, Return, MayRunLong, Disassociate, OnReturn, Finish}
use Rattle.tp_base.specs.Ranges.{IsCallInRange}
use Rattle.tp_model.specs.World.{World}
use Rattle.tp_model.specs.Table.{plan_at}
use Rattle.tp_model.specs.Support.Sound.{IsSound}
use Rattle.tp_model.specs.Support.Safe.{IsSafe}
use Rattle.tp_model.specs.Support.Remembered.{forget}
use Rattle.tp_model.specs.Support.Ranged.{IsRanged, IsPlanInRange}
pub mod Pools
pub mod Objects
pub mod Groups
pub mod Work
pub mod Timers
pub mod Workers
pub mod InCallback
pub mod Kernels
pub mod WaitObjects
pub mod Io
pub mod Waits
pub mod Clients
use Pools.{create_pool_safe, create_pool_forget, create_pool_ranged, close_pool_safe, close_pool_forget, close_pool_ranged, set_maximum_safe, set_maximum_forget, set_maximum_ranged, set_minimum_safe, set_minimum_forget, set_minimum_ranged}
use Groups.{create_group_safe, create_group_forget, create_group_ranged, close_group_safe, close_group_forget, close_group_ranged, begin_close_safe, begin_close_forget, begin_close_ranged}
use Objects.{create_safe, create_forget, create_ranged, close_object_safe, close_object_forget, close_object_ranged}
use Work.{submit_work_safe, submit_work_forget, submit_work_ranged, submit_simple_safe, submit_simple_forget, submit_simple_ranged}
use Workers.{attach_safe, attach_forget, attach_ranged, detach_safe, detach_forget, detach_ranged, take_safe, take_forget, take_ranged, return_safe, return_forget, return_ranged}
use InCallback.{may_run_long_safe, may_run_long_forget, may_run_long_ranged, disassociate_safe, disassociate_forget, disassociate_ranged, on_return_safe, on_return_forget, on_return_ranged}
use Timers.{set_timer_safe, set_timer_forget, set_timer_ranged, set_timer_ex_safe, set_timer_ex_forget, set_timer_ex_ranged, is_timer_set_safe, is_timer_set_forget, is_timer_set_ranged, advance_safe, advance_forget, advance_ranged}
use Kernels.{create_event_safe, create_event_forget, create_event_ranged, create_semaphore_safe, create_semaphore_forget, create_semaphore_ranged, create_lock_safe, create_lock_forget, create_lock_ranged}
use Kernels.{set_event_safe, set_event_forget, set_event_ranged, reset_event_safe, reset_event_forget, reset_event_ranged, release_semaphore_safe, release_semaphore_forget, release_semaphore_ranged, release_lock_safe, release_lock_forget, release_lock_ranged}
use WaitObjects.{set_wait_safe, set_wait_forget, set_wait_ranged}
use Io.{start_io_safe, start_io_forget, start_io_ranged, issue_io_safe, issue_io_forget, issue_io_ranged, cancel_io_safe, cancel_io_forget, cancel_io_ranged, complete_io_safe, complete_io_forget, complete_io_ranged, complete_next_safe, complete_next_forget, complete_next_ranged}
use Waits.{begin_wait_safe, begin_wait_forget, begin_wait_ranged, begin_acquire_safe, begin_acquire_forget, begin_acquire_ranged, try_acquire_safe, try_acquire_forget, try_acquire_ranged, end_safe, end_forget, end_ranged}
use Clients.{finish_safe, finish_forget, finish_ranged}

-- the plan of each call asks for a change that is allowed, made by the actor
pub plan_safe : (next_number room : ℕ) (w : World) (who : Who) (call : Call) → IsSound next_number w → IsSafe next_number w who call (plan_at w next_number room who call)
plan_safe next_number room w who CreatePool s = create_pool_safe next_number w who
plan_safe next_number room w who (ClosePool pool) s = close_pool_safe next_number w who pool
plan_safe next_number room w who (SetMaximum pool value) s = set_maximum_safe next_number w who pool value
plan_safe next_number room w who (SetMinimum pool value) s = set_minimum_safe next_number w who pool value
plan_safe next_number room w who CreateGroup s = create_group_safe next_number w who
plan_safe next_number room w who (CloseGroup group) s = close_group_safe next_number w who group
plan_safe next_number room w who (BeginClose group cancel context) s = begin_close_safe next_number w who group cancel context
plan_safe next_number room w who (Create kind routine context env) s = create_safe next_number w who kind routine context env
plan_safe next_number room w who (CloseObject kind object) s = close_object_safe next_number w who kind object
plan_safe next_number room w who (SubmitSimple routine context env) s = submit_simple_safe next_number w who routine context env
plan_safe next_number room w who (SubmitWork object) s = submit_work_safe next_number w who object s
plan_safe next_number room w who (SetTimer object due period window) s = set_timer_safe next_number w who object due period window
plan_safe next_number room w who (SetTimerEx object due period window) s = set_timer_ex_safe next_number w who object due period window
plan_safe next_number room w who (IsTimerSet object) s = is_timer_set_safe next_number w who object
plan_safe next_number room w who (Advance ticks) s = advance_safe next_number w who ticks s
plan_safe next_number room w who (SetWait object kernel timeout) s = set_wait_safe next_number w who object kernel timeout
plan_safe next_number room w who (StartIo object) s = start_io_safe next_number w who object s
plan_safe next_number room w who (IssueIo object) s = issue_io_safe w who object next_number s
plan_safe next_number room w who (CancelIo object) s = cancel_io_safe w who object next_number s
plan_safe next_number room w who (CompleteIo callback error bytes) s = complete_io_safe w who callback error bytes next_number
plan_safe next_number room w who (CompleteNext object error bytes) s = complete_next_safe w who object error bytes next_number s
plan_safe next_number room w who (BeginWait kind object cancel) s = begin_wait_safe next_number w who kind object cancel
plan_safe next_number room w who End s = end_safe next_number room w who s
plan_safe next_number room w who (BeginAcquire kernel) s = begin_acquire_safe next_number w who kernel
plan_safe next_number room w who (TryAcquire kernel) s = try_acquire_safe next_number w who kernel
plan_safe next_number room w who (CreateEvent manual signalled) s = create_event_safe next_number w who manual signalled
plan_safe next_number room w who (CreateSemaphore initial most) s = create_semaphore_safe next_number w who initial most
plan_safe next_number room w who (CreateLock lock owned) s = create_lock_safe next_number w who lock owned
plan_safe next_number room w who (SetEvent kernel) s = set_event_safe next_number w who kernel
plan_safe next_number room w who (ResetEvent kernel) s = reset_event_safe next_number w who kernel
plan_safe next_number room w who (ReleaseSemaphore kernel count) s = release_semaphore_safe next_number w who kernel count
plan_safe next_number room w who (ReleaseLock lock kernel) s = release_lock_safe next_number w who lock kernel
plan_safe next_number room w who Attach s = attach_safe next_number w who
plan_safe next_number room w who Detach s = detach_safe next_number w who
plan_safe next_number room w who Take s = take_safe next_number w who s
plan_safe next_number room w who Return s = return_safe next_number w who s
plan_safe next_number room w who MayRunLong s = may_run_long_safe next_number w who s
plan_safe next_number room w who Disassociate s = disassociate_safe next_number w who s
plan_safe next_number room w who (OnReturn kind kernel count) s = on_return_safe next_number w who kind kernel count s
plan_safe next_number room w who Finish s = finish_safe next_number w who

-- a world without the callbacks that are over has the same plan
pub plan_forget : (next_number room : ℕ) (w : World) (who : Who) (call : Call) → IsSound next_number w → plan_at (forget w) next_number room who call ≡ plan_at w next_number room who call
plan_forget next_number room w who CreatePool s = create_pool_forget w who
plan_forget next_number room w who (ClosePool pool) s = close_pool_forget w who pool
plan_forget next_number room w who (SetMaximum pool value) s = set_maximum_forget w who pool value
plan_forget next_number room w who (SetMinimum pool value) s = set_minimum_forget w who pool value
plan_forget next_number room w who CreateGroup s = create_group_forget w who
plan_forget next_number room w who (CloseGroup group) s = close_group_forget w who group
plan_forget next_number room w who (BeginClose group cancel context) s = begin_close_forget next_number w who group cancel context s
plan_forget next_number room w who (Create kind routine context env) s = create_forget w who kind routine context env
plan_forget next_number room w who (CloseObject kind object) s = close_object_forget w who kind object
plan_forget next_number room w who (SubmitSimple routine context env) s = submit_simple_forget next_number w who routine context env
plan_forget next_number room w who (SubmitWork object) s = submit_work_forget next_number w who object
plan_forget next_number room w who (SetTimer object due period window) s = set_timer_forget next_number w who object due period window
plan_forget next_number room w who (SetTimerEx object due period window) s = set_timer_ex_forget next_number w who object due period window
plan_forget next_number room w who (IsTimerSet object) s = is_timer_set_forget next_number w who object
plan_forget next_number room w who (Advance ticks) s = advance_forget next_number w who ticks
plan_forget next_number room w who (SetWait object kernel timeout) s = set_wait_forget next_number w who object kernel timeout
plan_forget next_number room w who (StartIo object) s = start_io_forget next_number w who object
plan_forget next_number room w who (IssueIo object) s = issue_io_forget w who object
plan_forget next_number room w who (CancelIo object) s = cancel_io_forget w who object
plan_forget next_number room w who (CompleteIo callback error bytes) s = complete_io_forget w who callback error bytes next_number s
plan_forget next_number room w who (CompleteNext object error bytes) s = complete_next_forget w who object error bytes
plan_forget next_number room w who (BeginWait kind object cancel) s = begin_wait_forget next_number w who kind object cancel s
plan_forget next_number room w who End s = end_forget next_number room w who s
plan_forget next_number room w who (BeginAcquire kernel) s = begin_acquire_forget w who kernel
plan_forget next_number room w who (TryAcquire kernel) s = try_acquire_forget w who kernel
plan_forget next_number room w who (CreateEvent manual signalled) s = create_event_forget w who manual signalled
plan_forget next_number room w who (CreateSemaphore initial most) s = create_semaphore_forget w who initial most
plan_forget next_number room w who (CreateLock lock owned) s = create_lock_forget w who lock owned
plan_forget next_number room w who (SetEvent kernel) s = set_event_forget next_number w who kernel
plan_forget next_number room w who (ResetEvent kernel) s = reset_event_forget w who kernel
plan_forget next_number room w who (ReleaseSemaphore kernel count) s = release_semaphore_forget next_number w who kernel count
plan_forget next_number room w who (ReleaseLock lock kernel) s = release_lock_forget w who lock kernel
plan_forget next_number room w who Attach s = attach_forget w who
plan_forget next_number room w who Detach s = detach_forget w who
plan_forget next_number room w who Take s = take_forget w who
plan_forget next_number room w who Return s = return_forget next_number w who s
plan_forget next_number room w who MayRunLong s = may_run_long_forget next_number w who s
plan_forget next_number room w who Disassociate s = disassociate_forget next_number w who s
plan_forget next_number room w who (OnReturn kind kernel count) s = on_return_forget next_number w who kind kernel count s
plan_forget next_number room w who Finish s = finish_forget w who

-- the numbers of the plan are in range
module _ (next_number : ℕ) (w : World) (few : next_number + 65536 ≤ 2 ^ 64) (s : IsSound next_number w) (g : IsRanged w) where
  pub plan_ranged : (room : ℕ) (who : Who) (call : Call) → IsCallInRange call → IsPlanInRange (plan_at w next_number room who call)
  plan_ranged room who CreatePool c = create_pool_ranged w who g
  plan_ranged room who (ClosePool pool) c = close_pool_ranged w who pool
  plan_ranged room who (SetMaximum pool value) c = set_maximum_ranged w who pool value
  plan_ranged room who (SetMinimum pool value) c = set_minimum_ranged w who pool value
  plan_ranged room who CreateGroup c = create_group_ranged w who g
  plan_ranged room who (CloseGroup group) c = close_group_ranged w who group g
  plan_ranged room who (BeginClose group cancel context) c = begin_close_ranged w who group cancel context g c
  plan_ranged room who (Create kind routine context env) c = create_ranged w who kind routine context env g c
  plan_ranged room who (CloseObject kind object) c = close_object_ranged w who kind object c
  plan_ranged room who (SubmitSimple routine context env) c = submit_simple_ranged next_number w who routine context env (omega (arith, few)) c
  plan_ranged room who (SubmitWork object) c = submit_work_ranged next_number w who object (omega (arith, few)) g c
  plan_ranged room who (SetTimer object due period window) c = set_timer_ranged next_number w who object due period window few g c
  plan_ranged room who (SetTimerEx object due period window) c = set_timer_ex_ranged next_number w who object due period window few g c
  plan_ranged room who (IsTimerSet object) c = is_timer_set_ranged next_number w who object
  plan_ranged room who (Advance ticks) c = advance_ranged next_number w who ticks few s g
  plan_ranged room who (SetWait object kernel timeout) c = set_wait_ranged next_number w who object kernel timeout few g c
  plan_ranged room who (StartIo object) c = start_io_ranged next_number w who object (omega (arith, few)) g c
  plan_ranged room who (IssueIo object) c = issue_io_ranged w who object g
  plan_ranged room who (CancelIo object) c = cancel_io_ranged w who object g
  plan_ranged room who (CompleteIo callback error bytes) c = complete_io_ranged w who callback error bytes g c
  plan_ranged room who (CompleteNext object error bytes) c = complete_next_ranged w who object error bytes g c
  plan_ranged room who (BeginWait kind object cancel) c = begin_wait_ranged w who kind object cancel g
  plan_ranged room who End c = end_ranged next_number room w who s g
  plan_ranged room who (BeginAcquire kernel) c = begin_acquire_ranged w who kernel c
  plan_ranged room who (TryAcquire kernel) c = try_acquire_ranged w who kernel c
  plan_ranged room who (CreateEvent manual signalled) c = create_event_ranged w who manual signalled g
  plan_ranged room who (CreateSemaphore initial most) c = create_semaphore_ranged w who initial most g c
  plan_ranged room who (CreateLock lock owned) c = create_lock_ranged w who lock owned g
  plan_ranged room who (SetEvent kernel) c = set_event_ranged next_number w who kernel few g
  plan_ranged room who (ResetEvent kernel) c = reset_event_ranged w who kernel
  plan_ranged room who (ReleaseSemaphore kernel count) c = release_semaphore_ranged next_number w who kernel count few g
  plan_ranged room who (ReleaseLock lock kernel) c = release_lock_ranged w who lock kernel
  plan_ranged room who Attach c = attach_ranged w who g
  plan_ranged room who Detach c = detach_ranged w who
  plan_ranged room who Take c = take_ranged next_number w who s g
  plan_ranged room who Return c = return_ranged next_number w who few g
  plan_ranged room who MayRunLong c = may_run_long_ranged w who
  plan_ranged room who Disassociate c = disassociate_ranged w who
  plan_ranged room who (OnReturn kind kernel count) c = on_return_ranged w who kind kernel count
  plan_ranged room who Finish c = finish_ranged w who
