-- Which calls some answers are of: a return of a Return alone, and the end of a close of a group of a BeginClose.
use Rattle.std.proofs.Common.{◌≡◌, ℕ, ◌+◌, Bool, true, false, cond, not, ◌||◌, ◌==◌, nat_le, nat_lt, List, [], ◌∷◌, length, Option, Some, None, refl}
use Rattle.tp_base.specs.Kernels.{is_event, is_lock, owns}
use Rattle.tp_base.specs.declared.answers.ActionKind.{ActionKind}
use Rattle.tp_base.specs.declared.answers.Answer.{Answer}
use Rattle.tp_base.specs.declared.answers.Answer.TheVariants as answer
use Rattle.tp_base.specs.declared.answers.Look.TheVariants as look
use Rattle.tp_base.specs.declared.answers.Refusal.{Refusal}
use Rattle.tp_base.specs.declared.answers.Refusal.TheVariants.{NotOwner, OverMaximum}
use Rattle.tp_base.specs.declared.calls.Call.{Call}
use Rattle.tp_base.specs.declared.calls.Call.TheVariants.{CreatePool, ClosePool, SetMaximum, SetMinimum, CreateGroup, CloseGroup, BeginClose, Create, CloseObject, SubmitSimple, SubmitWork}
use Rattle.tp_base.specs.declared.calls.Call.TheVariants.{SetTimer, SetTimerEx, IsTimerSet, Advance, SetWait, StartIo, IssueIo, CancelIo, CompleteIo, CompleteNext}
use Rattle.tp_base.specs.declared.calls.Call.TheVariants.{BeginWait, BeginAcquire, TryAcquire, End, CreateEvent, CreateSemaphore, CreateLock, SetEvent, ResetEvent, ReleaseSemaphore, ReleaseLock}
use Rattle.tp_base.specs.declared.calls.Call.TheVariants.{Attach, Detach, Take, Return, MayRunLong, Disassociate, OnReturn, Finish}
use Rattle.tp_base.specs.declared.calls.Kind.TheVariants.{Timer}
use Rattle.tp_base.specs.declared.ids.KernelId.{KernelId}
use Rattle.tp_base.specs.declared.ids.ObjectId.{ObjectId}
use Rattle.tp_base.specs.declared.ids.Who.{Who}
use Rattle.tp_base.specs.declared.ids.Who.TheVariants.{Client, Worker}
use Rattle.tp_base.specs.declared.plans.Busy.{Busy}
use Rattle.tp_base.specs.declared.plans.Change.{Change}
use Rattle.tp_base.specs.declared.plans.Change.TheVariants as change
use Rattle.tp_base.specs.declared.plans.Idle.{Idle}
use Rattle.tp_base.specs.declared.plans.IoStep.{IoStep}
use Rattle.tp_base.specs.declared.plans.IoStep.TheVariants.{Issue, GiveUp}
use Rattle.tp_base.specs.declared.plans.KernelChange.TheVariants as kernel
use Rattle.tp_base.specs.declared.plans.Plan.{Plan}
use Rattle.tp_base.specs.declared.plans.Plan.TheVariants as plans
use Rattle.tp_base.specs.declared.plans.Trigger.TheVariants as trigger
use Rattle.tp_base.specs.declared.rows.CallbackRow.{CallbackRow}
use Rattle.tp_base.specs.declared.rows.ObjectRow.{ObjectRow}
use Rattle.tp_model.specs.Calls.Clients.{finish, finish_plan, finish_refusals}
use Rattle.tp_model.specs.Calls.Groups.{create_group_plan, close_group_plan, close_group_refusals, begin_close_plan, begin_close_refusals}
use Rattle.tp_model.specs.Calls.InCallback.{busy_refusals, disassociate, disassociate_plan, may_run_long, may_run_long_plan, on_return, on_return_plan, on_return_refusals}
use Rattle.tp_model.specs.Calls.Io.{start_io, start_io_plan, start_io_refusals, expected_refusals, operate, issue_io_plan, cancel_io_plan, complete_io, complete_io_plan, complete_io_refusals, complete_next_plan, complete_next_refusals}
use Rattle.tp_model.specs.Calls.Kernels.{create_event_plan, create_semaphore_plan, create_lock_plan, kernel_refusals, set_event_plan, reset_event_plan, release_semaphore_plan, release_semaphore_refusals, release_lock_plan}
use Rattle.tp_model.specs.Calls.Objects.{create_plan, create_refusals, close_object_plan, close_object_refusals}
use Rattle.tp_model.specs.Calls.Pools.{create_pool_plan, pool_refusals, close_pool_plan, set_maximum_plan, set_minimum_plan}
use Rattle.tp_model.specs.Calls.Timers.{set_timer_plan, set_timer_ex_plan, set_timer_refusals, is_timer_set_plan, advance_plan, advance_refusals}
use Rattle.tp_model.specs.Calls.WaitObjects.{set_wait_plan, set_wait_refusals}
use Rattle.tp_model.specs.Calls.Waits.{begin_wait_plan, begin_wait_refusals, begin_acquire_plan, begin_acquire_refusals, try_acquire_plan}
use Rattle.tp_model.specs.Calls.Work.{submit, submit_work_plan, submit_work_refusals, submit_simple_plan, submit_simple_refusals}
use Rattle.tp_model.specs.Calls.Workers.{attach_plan, attach_refusals, idle_refusals, return_refusals, attach_to, detach, detach_plan, may_leave, return, return_plan, take as take_next, take_callback, take_plan}
use Rattle.tp_model.specs.Counts.{maximum, next, numbered, running}
use Rattle.tp_model.specs.History.{wait_end}
use Rattle.tp_model.specs.Kernels.{is_kernel_that}
use Rattle.tp_model.specs.Refusing.{first_refusal, make_refusals, object_refusals, unless_refused}
use Rattle.tp_model.specs.Table.{plan}
use Rattle.tp_model.specs.World.{World}
use Rattle.tp_model.proofs.Entries.{next_number_in, told_change}

abbrev pub is_return : Call → Bool
is_return Return = true
is_return call = false

abbrev pub is_close : Call → Bool
is_close (BeginClose group cancel context) = true
is_close call = false

abbrev pub IsOf : Call → Answer → Type 0
IsOf call (answer.Returned section mutex semaphore event first count) = is_return call ≡ true
IsOf call (answer.Closing covered cancelled notices) = is_close call ≡ true
IsOf call a = Unit {0}

-- the answer of a plan is one of the call
abbrev pub Matches : Call → Plan → Type 0
Matches call (plans.Does a ch) = IsOf call a
Matches call (plans.Refused refusal) = Unit {0}
Matches call (plans.Looked seen) = Unit {0}

unless : (call : Call) (refusals : List (Bool × Refusal)) (p : Plan) → Matches call p → Matches call (unless_refused (first_refusal refusals) p)
unless call refusals p fits = of_first (first_refusal refusals)
  where
    of_first : (refusal : Option Refusal) → Matches call (unless_refused refusal p)
    of_first (Some refusal) = tt
    of_first None = fits

end_stays : (who : Who) (a : Answer) (ch : Change) → wait_end who a ≡ Some ch → IsOf End a
end_stays who (answer.Returned section mutex semaphore event first count) ch is = absurd cc
end_stays who (answer.Closing covered cancelled notices) ch is = absurd cc
end_stays who a ch is = tt

-- what is planned behind the refusals
end_fits : (who : Who) (p : Plan) → ((a : Answer) (ch : Change) → p ≡ plans.Does a ch → wait_end who a ≡ Some ch) → Matches End p
end_fits who (plans.Does a ch) ends = end_stays who a ch (ends a ch refl)
end_fits who (plans.Refused refusal) ends = tt
end_fits who (plans.Looked seen) ends = tt

start_fits : (who : Who) (next_number : ℕ) (object : ObjectId) (row : Option ObjectRow) → Matches (StartIo object) (start_io next_number object row)
start_fits who next_number object None = tt
start_fits who next_number object (Some row) = tt

submit_fits : (who : Who) (next_number : ℕ) (objects : List ObjectRow) (object : ObjectId) (row : Option ObjectRow) → numbered objects object.0 ≡ row → Matches (SubmitWork object) (submit next_number object row)
submit_fits who next_number objects object None is = tt
submit_fits who next_number objects object (Some row) is = tt

operate_fits : (call : Call) (told : ℕ → Answer) (how : IoStep) (c : Option CallbackRow) → ((number : ℕ) → IsOf call (told number)) → Matches call (operate told how c)
operate_fits call told how None fits = tt
operate_fits call told how (Some c) fits = fits c.number

complete_fits : (who : Who) (callback error bytes : ℕ) (c : Option CallbackRow) → Matches (CompleteIo callback error bytes) (complete_io error bytes c)
complete_fits who callback error bytes None = tt
complete_fits who callback error bytes (Some c) = tt

next_fits : (object : ObjectId) (error bytes : ℕ) (c : Option CallbackRow) → Matches (CompleteNext object error bytes) (complete_io error bytes c)
next_fits object error bytes None = tt
next_fits object error bytes (Some c) = tt

try_fits : (who : Who) (object : KernelId) (may : Bool) → Matches (TryAcquire object) (cond may (plans.Does (answer.Flag true) (change.ChangeKernel object (kernel.Take who))) (plans.Does (answer.Flag false) change.Keep))
try_fits who object true = tt
try_fits who object false = tt

attach_fits : (who : Who) (pool : Option ℕ) → Matches Attach (attach_to who pool)
attach_fits (Worker number) (Some pool) = tt
attach_fits (Worker number) None = tt
attach_fits (Client number) pool = tt

detach_fits : (who : Who) (w : World) (by : Option Idle) → Matches Detach (detach w by)
detach_fits who w None = tt
detach_fits who w (Some by) = elim (may_leave w by) as (λ b. Matches Detach (cond b (plans.Does answer.Done (change.Detach by)) (plans.Looked look.Stay))) [ true ↦ tt | false ↦ tt ]

taken_fits : (who : Who) (w : World) (by : Idle) (c : Option CallbackRow) → Matches Take (take_callback w by c)
taken_fits who w by None = tt
taken_fits who w by (Some c) =
    elim (nat_le (maximum w by.pool.0) (running w by.pool.0))
    as (λ b. Matches Take (cond b (plans.Looked (look.AtMaximum (running w by.pool.0))) (plans.Does (answer.Taken c.number c.object c.routine c.context c.result) (change.Take by c)))) [
      | true ↦ tt
      | false ↦ tt
    ]

take_fits : (who : Who) (w : World) (by : Option Idle) → Matches Take (take_next w by)
take_fits who w None = tt
take_fits who w (Some by) = taken_fits who w by (next w by.pool.0 by.persistent)

return_fits : (w : World) (next_number : ℕ) (who : Who) (by : Option Busy) → Matches Return (return w next_number who by)
return_fits w next_number who None = tt
return_fits w next_number who (Some by) = refl

long_fits : (who : Who) (w : World) (by : Option Busy) → Matches MayRunLong (may_run_long w by)
long_fits who w None = tt
long_fits who w (Some by) = tt

loose_fits : (who : Who) (by : Option Busy) → Matches Disassociate (disassociate by)
loose_fits who None = tt
loose_fits who (Some by) = tt

asked_fits : (who : Who) (kind : ActionKind) (kernel : KernelId) (count : ℕ) (by : Option Busy) → Matches (OnReturn kind kernel count) (on_return kind kernel count by)
asked_fits who kind kernel count None = tt
asked_fits who kind kernel count (Some by) = tt

finish_fits : (who : Who) → Matches Finish (finish who)
finish_fits (Client number) = tt
finish_fits (Worker number) = tt

-- of every call
pub plan_matches : (w : World) (left : ℕ) (who : Who) (call : Call) → Matches call (plan w left who call)
unfolding create_pool_plan close_pool_plan set_maximum_plan set_minimum_plan create_group_plan close_group_plan begin_close_plan create_plan close_object_plan submit_simple_plan submit_work_plan set_timer_plan set_timer_ex_plan is_timer_set_plan
    advance_plan set_wait_plan start_io_plan issue_io_plan cancel_io_plan complete_io_plan complete_next_plan begin_wait_plan begin_acquire_plan try_acquire_plan create_event_plan create_semaphore_plan create_lock_plan set_event_plan reset_event_plan release_semaphore_plan
    release_lock_plan attach_plan detach_plan take_plan return_plan may_run_long_plan disassociate_plan on_return_plan finish_plan
plan_matches w left who CreatePool = unless CreatePool (make_refusals w who [] w.limits.pools (length w.pools)) _ tt
plan_matches w left who (ClosePool pool) = unless (ClosePool pool) (pool_refusals w who pool.0) _ tt
plan_matches w left who (SetMaximum pool value) = unless (SetMaximum pool value) (pool_refusals w who pool.0) _ tt
plan_matches w left who (SetMinimum pool value) = unless (SetMinimum pool value) (pool_refusals w who pool.0) _ tt
plan_matches w left who CreateGroup = unless CreateGroup (make_refusals w who [] w.limits.groups (length w.groups)) _ tt
plan_matches w left who (CloseGroup group) = unless (CloseGroup group) (close_group_refusals w who group) _ tt
plan_matches w left who (BeginClose group cancel context) = unless (BeginClose group cancel context) (begin_close_refusals w who group.0) _ refl
plan_matches w left who (Create kind routine context env) = unless (Create kind routine context env) (create_refusals w who env) _ tt
plan_matches w left who (CloseObject kind object) = unless (CloseObject kind object) (close_object_refusals w who kind object) _ tt
plan_matches w left who (SubmitSimple routine context env) = unless (SubmitSimple routine context env) (submit_simple_refusals w who env) _ tt
plan_matches w left who (SubmitWork object) = unless (SubmitWork object) (submit_work_refusals w who object.0) _ (submit_fits who (next_number_in w) w.objects object (numbered w.objects object.0) refl)
plan_matches w left who (SetTimer object due period window) = unless (SetTimer object due period window) (set_timer_refusals w who object.0 (trigger.SetTimer object due period window)) _ tt
plan_matches w left who (SetTimerEx object due period window) = unless (SetTimerEx object due period window) (set_timer_refusals w who object.0 (trigger.SetTimer object due period window)) _ tt
plan_matches w left who (IsTimerSet object) = unless (IsTimerSet object) (object_refusals w who Timer object.0) _ tt
plan_matches w left who (Advance ticks) = unless (Advance ticks) (advance_refusals w who (w.now + ticks)) _ tt
plan_matches w left who (SetWait object kernel timeout) = unless (SetWait object kernel timeout) (set_wait_refusals w who object kernel timeout) _ tt
plan_matches w left who (StartIo object) = unless (StartIo object) (start_io_refusals w who object.0) _ (start_fits who (next_number_in w) object _)
plan_matches w left who (IssueIo object) = unless (IssueIo object) (expected_refusals w who object.0) _ (operate_fits (IssueIo object) answer.Operation Issue _ (λ number. tt))
plan_matches w left who (CancelIo object) = unless (CancelIo object) (expected_refusals w who object.0) _ (operate_fits (CancelIo object) answer.Cancelled GiveUp _ (λ number. tt))
plan_matches w left who (CompleteIo callback error bytes) = unless (CompleteIo callback error bytes) (complete_io_refusals w who callback) _ (complete_fits who callback error bytes _)
plan_matches w left who (CompleteNext object error bytes) = unless (CompleteNext object error bytes) (complete_next_refusals w who object.0) _ (next_fits object error bytes _)
plan_matches w left who (BeginWait kind object cancel) = unless (BeginWait kind object cancel) (begin_wait_refusals w who kind object.0) _ tt
plan_matches w left who (BeginAcquire kernel) = unless (BeginAcquire kernel) (begin_acquire_refusals w who kernel.0) _ tt
plan_matches w left who (TryAcquire kernel) = unless (TryAcquire kernel) (begin_acquire_refusals w who kernel.0) _ (try_fits who kernel _)
plan_matches w left who End = end_fits who (plan w left who End) (told_change w left who End)
plan_matches w left who (CreateEvent manual signalled) = unless (CreateEvent manual signalled) (make_refusals w who [] w.limits.kernels (length w.kernels)) _ tt
plan_matches w left who (CreateSemaphore initial most) = unless (CreateSemaphore initial most) (make_refusals w who ((nat_lt most initial || (most == 0), OverMaximum initial) ∷ []) w.limits.kernels (length w.kernels)) _ tt
plan_matches w left who (CreateLock lock owned) = unless (CreateLock lock owned) (make_refusals w who [] w.limits.kernels (length w.kernels)) _ tt
plan_matches w left who (SetEvent kernel) = unless (SetEvent kernel) (kernel_refusals w who is_event kernel.0 []) _ tt
plan_matches w left who (ResetEvent kernel) = unless (ResetEvent kernel) (kernel_refusals w who is_event kernel.0 []) _ tt
plan_matches w left who (ReleaseSemaphore kernel count) = unless (ReleaseSemaphore kernel count) (release_semaphore_refusals w who kernel.0 count) _ tt
plan_matches w left who (ReleaseLock lock kernel) = unless (ReleaseLock lock kernel) (kernel_refusals w who (is_lock lock) kernel.0 ((not (is_kernel_that (owns who) w kernel.0), NotOwner) ∷ [])) _ tt
plan_matches w left who Attach = unless Attach (attach_refusals w who) _ (attach_fits who _)
plan_matches w left who Detach = unless Detach (idle_refusals w who) _ (detach_fits who w _)
plan_matches w left who Take = unless Take (idle_refusals w who) _ (take_fits who w _)
plan_matches w left who Return = unless Return (return_refusals w who) _ (return_fits w (next_number_in w) who _)
plan_matches w left who MayRunLong = unless MayRunLong (busy_refusals w who) _ (long_fits who w _)
plan_matches w left who Disassociate = unless Disassociate (busy_refusals w who) _ (loose_fits who _)
plan_matches w left who (OnReturn kind kernel count) = unless (OnReturn kind kernel count) (on_return_refusals w who kind kernel.0) _ (asked_fits who kind kernel count _)
plan_matches w left who Finish = unless Finish (finish_refusals w who) _ (finish_fits who)
