-- What a call's answer tells of its change, beside the callbacks that are taken or return.
use Rattle.std.proofs.Common.{◌≡◌, ℕ, ◌+◌, Bool, true, false, cond, not, ◌||◌, ◌==◌, nat_le, nat_lt, List, [], ◌∷◌, length, Option, Some, None, refl, sym, ap, arith, eqb-true, ne_eqb}
use Rattle.tp_base.specs.Kernels.{is_event, is_lock, owns}
use Rattle.tp_base.specs.declared.answers.ActionKind.{ActionKind}
use Rattle.tp_base.specs.declared.answers.Answer.{Answer}
use Rattle.tp_base.specs.declared.answers.Answer.TheVariants as answer
use Rattle.tp_base.specs.declared.answers.Look.TheVariants as look
use Rattle.tp_base.specs.declared.answers.Refusal.{Refusal}
use Rattle.tp_base.specs.declared.answers.Refusal.TheVariants.{NotOwner, OverMaximum}
use Rattle.tp_base.specs.declared.calls.Call.{Call}
use Rattle.tp_base.specs.declared.calls.Call.TheVariants.{CreatePool, ClosePool, SetMaximum, SetMinimum, CreateGroup, CloseGroup, BeginClose, Create, CloseObject, SubmitSimple, SubmitWork}
use Rattle.tp_base.specs.declared.calls.Call.TheVariants.{SetTimer, SetTimerEx, IsTimerSet, Advance, SetWait, StartIo, IssueIo, CancelIo, CompleteIo, CompleteNext}
use Rattle.tp_base.specs.declared.calls.Call.TheVariants.{BeginWait, BeginAcquire, TryAcquire, End, CreateEvent, CreateSemaphore, CreateLock, SetEvent, ResetEvent, ReleaseSemaphore, ReleaseLock}
use Rattle.tp_base.specs.declared.calls.Call.TheVariants.{Attach, Detach, Take, Return, MayRunLong, Disassociate, OnReturn, Finish}
use Rattle.tp_base.specs.declared.calls.Kind.TheVariants.{Timer}
use Rattle.tp_base.specs.declared.ids.KernelId.{KernelId}
use Rattle.tp_base.specs.declared.ids.ObjectId.{ObjectId}
use Rattle.tp_base.specs.declared.ids.Who.{Who}
use Rattle.tp_base.specs.declared.ids.Who.TheVariants.{Client, Worker}
use Rattle.tp_base.specs.declared.plans.Busy.{Busy}
use Rattle.tp_base.specs.declared.plans.Change.{Change}
use Rattle.tp_base.specs.declared.plans.Change.TheVariants as change
use Rattle.tp_base.specs.declared.plans.Idle.{Idle}
use Rattle.tp_base.specs.declared.plans.IoStep.{IoStep}
use Rattle.tp_base.specs.declared.plans.IoStep.TheVariants.{Issue, GiveUp}
use Rattle.tp_base.specs.declared.plans.KernelChange.TheVariants as kernel
use Rattle.tp_base.specs.declared.plans.Plan.{Plan}
use Rattle.tp_base.specs.declared.plans.Plan.TheVariants as plans
use Rattle.tp_base.specs.declared.plans.Trigger.TheVariants as trigger
use Rattle.tp_base.specs.declared.rows.CallbackRow.{CallbackRow}
use Rattle.tp_base.specs.declared.rows.ObjectRow.{ObjectRow}
use Rattle.tp_model.specs.Calls.Clients.{finish, finish_plan, finish_refusals}
use Rattle.tp_model.specs.Calls.Groups.{create_group_plan, close_group_plan, close_group_refusals, begin_close_plan, begin_close_refusals}
use Rattle.tp_model.specs.Calls.InCallback.{busy_refusals, disassociate, disassociate_plan, may_run_long, may_run_long_plan, on_return, on_return_plan, on_return_refusals}
use Rattle.tp_model.specs.Calls.Io.{first_expected, is_expected_of, start_io, start_io_plan, start_io_refusals, expected_refusals, operate, issue_io_plan, cancel_io_plan, complete_io, complete_io_plan, complete_io_refusals, complete_next_plan, complete_next_refusals}
use Rattle.tp_model.specs.Calls.Kernels.{create_event_plan, create_semaphore_plan, create_lock_plan, kernel_refusals, set_event_plan, reset_event_plan, release_semaphore_plan, release_semaphore_refusals, release_lock_plan}
use Rattle.tp_model.specs.Calls.Objects.{create_plan, create_refusals, close_object_plan, close_object_refusals}
use Rattle.tp_model.specs.Calls.Pools.{create_pool_plan, pool_refusals, close_pool_plan, set_maximum_plan, set_minimum_plan}
use Rattle.tp_model.specs.Calls.Timers.{set_timer_plan, set_timer_ex_plan, set_timer_refusals, is_timer_set_plan, advance_plan, advance_refusals}
use Rattle.tp_model.specs.Calls.WaitObjects.{set_wait_plan, set_wait_refusals}
use Rattle.tp_model.specs.Calls.Waits.{begin_wait_plan, begin_wait_refusals, begin_acquire_plan, begin_acquire_refusals, try_acquire_plan}
use Rattle.tp_model.specs.Calls.Work.{submit, submit_work_plan, submit_work_refusals, submit_simple_plan, submit_simple_refusals}
use Rattle.tp_model.specs.Calls.Workers.{attach_plan, attach_refusals, idle_refusals, return_refusals, attach_to, detach, detach_plan, may_leave, return, return_plan, take as take_next, take_callback, take_plan}
use Rattle.tp_model.specs.Counts.{is_expected, maximum, next, numbered, running}
use Rattle.tp_model.specs.History.{wait_end}
use Rattle.tp_model.specs.Kernels.{is_kernel_that}
use Rattle.tp_model.specs.Refusing.{first_refusal, make_refusals, object_refusals, unless_refused}
use Rattle.tp_model.specs.Table.{plan}
use Rattle.tp_model.specs.World.{World}
use Rattle.tp_model.proofs.Entries.{next_number_in, told_change}
use Rattle.tp_base.specs.declared.plans.Awaited.TheVariants as awaited
use Rattle.tp_model.proofs.Lists.{find_passes}
use Rattle.tp_model.proofs.Refusals.{both, numbered_some}
use Rattle.tp_library.specs.Counted.{finished_by, on_objects, Closes, Keeps, Makes, OnObjects, Releases}

-- ---- effects

-- what becomes of the objects; the client that finishes; the object whose operation is given up; the object whose callbacks
-- are waited for, and whether those that are pending are cancelled; whether a callback is made that has no object
pub record Effect : Type 0 where
  pub objects : OnObjects
  pub finished : Option ℕ
  pub given_up : Option ℕ
  pub awaited : Option (ObjectId × Bool)
  pub simple : Bool

abbrev pub none : Effect
none = record { objects = Keeps; finished = None; given_up = None; awaited = None; simple = false }

abbrev pub effect_of : Change → Effect
effect_of (change.CreateObject row) = record none { objects = Makes row }
effect_of (change.ReleaseObject object) = record none { objects = Closes object }
effect_of (change.BeginClose who group cancel context notices) = record none { objects = Releases group }
effect_of (change.Finish client) = record none { finished = Some client }
effect_of (change.Operate c GiveUp) = record none { given_up = Some c.object.0 }
effect_of (change.BeginWait who (awaited.Object object) cancel) = record none { awaited = Some (object, cancel) }
effect_of (change.QueueCallback c) = record none { simple = c.object.0 == 0 }
effect_of _ = none

abbrev pub cancel_call : Call → Option ℕ
cancel_call (CancelIo object) = Some object.0
cancel_call _ = None

abbrev pub given_up_by : Call → Answer → Option ℕ
given_up_by call (answer.Cancelled callback) = cancel_call call
given_up_by call _ = None

abbrev pub wait_call : Call → Option (ObjectId × Bool)
wait_call (BeginWait kind object cancel) = Some (object, cancel)
wait_call _ = None

abbrev pub awaited_by : Call → Answer → Option (ObjectId × Bool)
awaited_by call (answer.Begun covered cancelled) = wait_call call
awaited_by call _ = None

abbrev pub is_simple_call : Call → Bool
is_simple_call (SubmitSimple routine context env) = true
is_simple_call _ = false

abbrev pub is_simple : Call → Answer → Bool
is_simple call (answer.Queued first count) = is_simple_call call
is_simple call _ = false

abbrev pub effect_told : Who → Call → Answer → Effect
effect_told who call a = record { objects = on_objects call a; finished = finished_by who call a; given_up = given_up_by call a; awaited = awaited_by call a; simple = is_simple call a }

-- ---- calls

-- the answer of a plan tells the effect of its change
abbrev pub Tells : Who → Call → Plan → Type 0
Tells who call (plans.Does a ch) = effect_told who call a ≡ effect_of ch
Tells who call (plans.Refused refusal) = Unit {0}
Tells who call (plans.Looked seen) = Unit {0}

unless : (who : Who) (call : Call) (refusals : List (Bool × Refusal)) (p : Plan) → Tells who call p → Tells who call (unless_refused (first_refusal refusals) p)
unless who call refusals p tells = of_first (first_refusal refusals)
  where
    of_first : (refusal : Option Refusal) → Tells who call (unless_refused refusal p)
    of_first (Some refusal) = tt
    of_first None = tells

-- the end of a wait has none
end_stays : (who : Who) (a : Answer) (ch : Change) → wait_end who a ≡ Some ch → effect_told who End a ≡ effect_of ch
end_stays who answer.Ended ch is = cc
end_stays who answer.Exhausted ch is = cc
end_stays who answer.Stalled ch is = cc
end_stays who (answer.Notice object routine context cleanup) ch is = cc
end_stays who _ ch is = absurd cc

-- what is planned behind the refusals
end_tells : (who : Who) (p : Plan) → ((a : Answer) (ch : Change) → p ≡ plans.Does a ch → wait_end who a ≡ Some ch) → Tells who End p
end_tells who (plans.Does a ch) ends = end_stays who a ch (ends a ch refl)
end_tells who (plans.Refused refusal) ends = tt
end_tells who (plans.Looked seen) ends = tt

start_tells : (who : Who) (next_number : ℕ) (object : ObjectId) (row : Option ObjectRow) → Tells who (StartIo object) (start_io next_number object row)
start_tells who next_number object None = tt
start_tells who next_number object (Some row) = refl

-- an object that stands has a number above 0
unsimple : (objects : List ObjectRow) (n : ℕ) (row : ObjectRow) → numbered objects n ≡ Some row → (n == 0) ≡ false
unsimple objects n row stands = ne_eqb n 0 (λ e. omega (arith, e, (numbered_some objects n row stands).1))

submit_tells : (who : Who) (next_number : ℕ) (objects : List ObjectRow) (object : ObjectId) (row : Option ObjectRow) → numbered objects object.0 ≡ row → Tells who (SubmitWork object) (submit next_number object row)
submit_tells who next_number objects object None is = tt
submit_tells who next_number objects object (Some row) is = ap (λ b. record none { simple = b }) (sym (unsimple objects object.0 row is))

operate_tells : (who : Who) (call : Call) (told : ℕ → Answer) (how : IoStep) (c : Option CallbackRow) → ((row : CallbackRow) → c ≡ Some row → effect_told who call (told row.number) ≡ effect_of (change.Operate row how)) → Tells who call (operate told how c)
operate_tells who call told how None tells = tt
operate_tells who call told how (Some c) tells = tells c refl

-- the operation that is given up is one of the object
given_up : (w : World) (object : ObjectId) (row : CallbackRow) → first_expected w object.0 ≡ Some row → ◌≡◌ {A = Effect} (record none { given_up = Some object.0 }) (record none { given_up = Some row.object.0 })
given_up w object row is =
    let passes = both (is_expected row.status) (row.object.0 == object.0) (find_passes (is_expected_of object.0) row w.callbacks is) in
    ap (λ n. record none { given_up = Some n }) (sym (eqb-true row.object.0 object.0 passes.1))

complete_tells : (who : Who) (callback error bytes : ℕ) (c : Option CallbackRow) → Tells who (CompleteIo callback error bytes) (complete_io error bytes c)
complete_tells who callback error bytes None = tt
complete_tells who callback error bytes (Some c) = refl

next_tells : (who : Who) (object : ObjectId) (error bytes : ℕ) (c : Option CallbackRow) → Tells who (CompleteNext object error bytes) (complete_io error bytes c)
next_tells who object error bytes None = tt
next_tells who object error bytes (Some c) = refl

try_tells : (who : Who) (object : KernelId) (may : Bool) → Tells who (TryAcquire object) (cond may (plans.Does (answer.Flag true) (change.ChangeKernel object (kernel.Take who))) (plans.Does (answer.Flag false) change.Keep))
try_tells who object true = refl
try_tells who object false = refl

attach_tells : (who : Who) (pool : Option ℕ) → Tells who Attach (attach_to who pool)
attach_tells (Worker number) (Some pool) = refl
attach_tells (Worker number) None = tt
attach_tells (Client number) pool = tt

detach_tells : (who : Who) (w : World) (by : Option Idle) → Tells who Detach (detach w by)
detach_tells who w None = tt
detach_tells who w (Some by) = elim (may_leave w by) as (λ b. Tells who Detach (cond b (plans.Does answer.Done (change.Detach by)) (plans.Looked look.Stay))) [ true ↦ refl | false ↦ tt ]

taken_tells : (who : Who) (w : World) (by : Idle) (c : Option CallbackRow) → Tells who Take (take_callback w by c)
taken_tells who w by None = tt
taken_tells who w by (Some c) =
    elim (nat_le (maximum w by.pool.0) (running w by.pool.0))
    as (λ b. Tells who Take (cond b (plans.Looked (look.AtMaximum (running w by.pool.0))) (plans.Does (answer.Taken c.number c.object c.routine c.context c.result) (change.Take by c)))) [
      | true ↦ tt
      | false ↦ refl
    ]

take_tells : (who : Who) (w : World) (by : Option Idle) → Tells who Take (take_next w by)
take_tells who w None = tt
take_tells who w (Some by) = taken_tells who w by (next w by.pool.0 by.persistent)

return_tells : (w : World) (next_number : ℕ) (who : Who) (by : Option Busy) → Tells who Return (return w next_number who by)
return_tells w next_number who None = tt
return_tells w next_number who (Some by) = refl

long_tells : (who : Who) (w : World) (by : Option Busy) → Tells who MayRunLong (may_run_long w by)
long_tells who w None = tt
long_tells who w (Some by) = refl

loose_tells : (who : Who) (by : Option Busy) → Tells who Disassociate (disassociate by)
loose_tells who None = tt
loose_tells who (Some by) = refl

asked_tells : (who : Who) (kind : ActionKind) (kernel : KernelId) (count : ℕ) (by : Option Busy) → Tells who (OnReturn kind kernel count) (on_return kind kernel count by)
asked_tells who kind kernel count None = tt
asked_tells who kind kernel count (Some by) = refl

finish_tells : (who : Who) → Tells who Finish (finish who)
finish_tells (Client number) = refl
finish_tells (Worker number) = tt

-- of every call
pub plan_tells : (w : World) (left : ℕ) (who : Who) (call : Call) → Tells who call (plan w left who call)
unfolding create_pool_plan close_pool_plan set_maximum_plan set_minimum_plan create_group_plan close_group_plan begin_close_plan create_plan close_object_plan submit_simple_plan submit_work_plan set_timer_plan set_timer_ex_plan is_timer_set_plan
    advance_plan set_wait_plan start_io_plan issue_io_plan cancel_io_plan complete_io_plan complete_next_plan begin_wait_plan begin_acquire_plan try_acquire_plan create_event_plan create_semaphore_plan create_lock_plan set_event_plan reset_event_plan release_semaphore_plan
    release_lock_plan attach_plan detach_plan take_plan return_plan may_run_long_plan disassociate_plan on_return_plan finish_plan
plan_tells w left who CreatePool = unless who CreatePool (make_refusals w who [] w.limits.pools (length w.pools)) _ refl
plan_tells w left who (ClosePool pool) = unless who (ClosePool pool) (pool_refusals w who pool.0) _ refl
plan_tells w left who (SetMaximum pool value) = unless who (SetMaximum pool value) (pool_refusals w who pool.0) _ refl
plan_tells w left who (SetMinimum pool value) = unless who (SetMinimum pool value) (pool_refusals w who pool.0) _ refl
plan_tells w left who CreateGroup = unless who CreateGroup (make_refusals w who [] w.limits.groups (length w.groups)) _ refl
plan_tells w left who (CloseGroup group) = unless who (CloseGroup group) (close_group_refusals w who group) _ refl
plan_tells w left who (BeginClose group cancel context) = unless who (BeginClose group cancel context) (begin_close_refusals w who group.0) _ refl
plan_tells w left who (Create kind routine context env) = unless who (Create kind routine context env) (create_refusals w who env) _ refl
plan_tells w left who (CloseObject kind object) = unless who (CloseObject kind object) (close_object_refusals w who kind object) _ refl
plan_tells w left who (SubmitSimple routine context env) = unless who (SubmitSimple routine context env) (submit_simple_refusals w who env) _ refl
plan_tells w left who (SubmitWork object) = unless who (SubmitWork object) (submit_work_refusals w who object.0) _ (submit_tells who (next_number_in w) w.objects object (numbered w.objects object.0) refl)
plan_tells w left who (SetTimer object due period window) = unless who (SetTimer object due period window) (set_timer_refusals w who object.0 (trigger.SetTimer object due period window)) _ refl
plan_tells w left who (SetTimerEx object due period window) = unless who (SetTimerEx object due period window) (set_timer_refusals w who object.0 (trigger.SetTimer object due period window)) _ refl
plan_tells w left who (IsTimerSet object) = unless who (IsTimerSet object) (object_refusals w who Timer object.0) _ refl
plan_tells w left who (Advance ticks) = unless who (Advance ticks) (advance_refusals w who (w.now + ticks)) _ refl
plan_tells w left who (SetWait object kernel timeout) = unless who (SetWait object kernel timeout) (set_wait_refusals w who object kernel timeout) _ refl
plan_tells w left who (StartIo object) = unless who (StartIo object) (start_io_refusals w who object.0) _ (start_tells who (next_number_in w) object _)
plan_tells w left who (IssueIo object) = unless who (IssueIo object) (expected_refusals w who object.0) _ (operate_tells who (IssueIo object) answer.Operation Issue _ (λ row is. refl))
plan_tells w left who (CancelIo object) = unless who (CancelIo object) (expected_refusals w who object.0) _ (operate_tells who (CancelIo object) answer.Cancelled GiveUp (first_expected w object.0) (λ row is. given_up w object row is))
plan_tells w left who (CompleteIo callback error bytes) = unless who (CompleteIo callback error bytes) (complete_io_refusals w who callback) _ (complete_tells who callback error bytes _)
plan_tells w left who (CompleteNext object error bytes) = unless who (CompleteNext object error bytes) (complete_next_refusals w who object.0) _ (next_tells who object error bytes _)
plan_tells w left who (BeginWait kind object cancel) = unless who (BeginWait kind object cancel) (begin_wait_refusals w who kind object.0) _ refl
plan_tells w left who (BeginAcquire kernel) = unless who (BeginAcquire kernel) (begin_acquire_refusals w who kernel.0) _ refl
plan_tells w left who (TryAcquire kernel) = unless who (TryAcquire kernel) (begin_acquire_refusals w who kernel.0) _ (try_tells who kernel _)
plan_tells w left who End = end_tells who (plan w left who End) (told_change w left who End)
plan_tells w left who (CreateEvent manual signalled) = unless who (CreateEvent manual signalled) (make_refusals w who [] w.limits.kernels (length w.kernels)) _ refl
plan_tells w left who (CreateSemaphore initial most) = unless who (CreateSemaphore initial most) (make_refusals w who ((nat_lt most initial || (most == 0), OverMaximum initial) ∷ []) w.limits.kernels (length w.kernels)) _ refl
plan_tells w left who (CreateLock lock owned) = unless who (CreateLock lock owned) (make_refusals w who [] w.limits.kernels (length w.kernels)) _ refl
plan_tells w left who (SetEvent kernel) = unless who (SetEvent kernel) (kernel_refusals w who is_event kernel.0 []) _ refl
plan_tells w left who (ResetEvent kernel) = unless who (ResetEvent kernel) (kernel_refusals w who is_event kernel.0 []) _ refl
plan_tells w left who (ReleaseSemaphore kernel count) = unless who (ReleaseSemaphore kernel count) (release_semaphore_refusals w who kernel.0 count) _ refl
plan_tells w left who (ReleaseLock lock kernel) = unless who (ReleaseLock lock kernel) (kernel_refusals w who (is_lock lock) kernel.0 ((not (is_kernel_that (owns who) w kernel.0), NotOwner) ∷ [])) _ refl
plan_tells w left who Attach = unless who Attach (attach_refusals w who) _ (attach_tells who _)
plan_tells w left who Detach = unless who Detach (idle_refusals w who) _ (detach_tells who w _)
plan_tells w left who Take = unless who Take (idle_refusals w who) _ (take_tells who w _)
plan_tells w left who Return = unless who Return (return_refusals w who) _ (return_tells w (next_number_in w) who _)
plan_tells w left who MayRunLong = unless who MayRunLong (busy_refusals w who) _ (long_tells who w _)
plan_tells w left who Disassociate = unless who Disassociate (busy_refusals w who) _ (loose_tells who _)
plan_tells w left who (OnReturn kind kernel count) = unless who (OnReturn kind kernel count) (on_return_refusals w who kind kernel.0) _ (asked_tells who kind kernel count _)
plan_tells w left who Finish = unless who Finish (finish_refusals w who) _ (finish_tells who)
