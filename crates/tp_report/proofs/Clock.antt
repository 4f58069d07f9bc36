-- The moments of a legal history are the machine's clock: an advance alone moves it, and its answer tells where to.
use Rattle.std.proofs.Common.{◌≡◌, ℕ, zero, suc, ◌+◌, Bool, true, false, cond, not, ◌||◌, ◌==◌, nat_le, nat_lt, List, [], ◌∷◌, map, length, Option, Some, None, refl, sym, ap, ap₂, ◌∙◌, subst, arith, slice_get}
use Rattle.std.specs.Prelude.{ℤ, fold, take, Result, Ok, Err}
use Rattle.std.specs.Option.{unwrap_or}
use Rattle.std.specs.List.{range_with_len}
use Rattle.tp_base.specs.Kernels.{is_event, is_lock, is_signalled, owns, taken}
use Rattle.tp_base.specs.Timers.{expires_at_once}
use Rattle.tp_base.specs.declared.answers.ActionKind.{ActionKind}
use Rattle.tp_base.specs.declared.answers.Answer.{Answer}
use Rattle.tp_base.specs.declared.answers.Answer.TheVariants as answer
use Rattle.tp_base.specs.declared.answers.Entry.{Entry}
use Rattle.tp_base.specs.declared.answers.Look.TheVariants as look
use Rattle.tp_base.specs.declared.answers.Outcome.TheVariants as outcome
use Rattle.tp_base.specs.declared.answers.Refusal.{Refusal}
use Rattle.tp_base.specs.declared.answers.Refusal.TheVariants.{NotOwner, OverMaximum}
use Rattle.tp_base.specs.declared.answers.TakeResult.TheVariants.{WaitObject0, WaitTimeout}
use Rattle.tp_base.specs.declared.calls.Call.{Call}
use Rattle.tp_base.specs.declared.calls.Call.TheVariants.{CreatePool, ClosePool, SetMaximum, SetMinimum, CreateGroup, CloseGroup, BeginClose, Create, CloseObject, SubmitSimple, SubmitWork}
use Rattle.tp_base.specs.declared.calls.Call.TheVariants.{SetTimer, SetTimerEx, IsTimerSet, Advance, SetWait, StartIo, IssueIo, CancelIo, CompleteIo, CompleteNext}
use Rattle.tp_base.specs.declared.calls.Call.TheVariants.{BeginWait, BeginAcquire, TryAcquire, End, CreateEvent, CreateSemaphore, CreateLock, SetEvent, ResetEvent, ReleaseSemaphore, ReleaseLock}
use Rattle.tp_base.specs.declared.calls.Call.TheVariants.{Attach, Detach, Take, Return, MayRunLong, Disassociate, OnReturn, Finish}
use Rattle.tp_base.specs.declared.calls.Kind.TheVariants.{Timer}
use Rattle.tp_base.specs.declared.ids.KernelId.{KernelId}
use Rattle.tp_base.specs.declared.ids.ObjectId.{ObjectId}
use Rattle.tp_base.specs.declared.ids.Who.{Who}
use Rattle.tp_base.specs.declared.ids.Who.TheVariants.{Client, Worker}
use Rattle.tp_base.specs.declared.limits.Limits.{Limits}
use Rattle.tp_base.specs.declared.plans.Busy.{Busy}
use Rattle.tp_base.specs.declared.plans.Change.{Change}
use Rattle.tp_base.specs.declared.plans.Change.TheVariants as change
use Rattle.tp_base.specs.declared.plans.Idle.{Idle}
use Rattle.tp_base.specs.declared.plans.IoStep.{IoStep}
use Rattle.tp_base.specs.declared.plans.IoStep.TheVariants.{Issue, GiveUp}
use Rattle.tp_base.specs.declared.plans.KernelChange.TheVariants.{Set, Raise}
use Rattle.tp_base.specs.declared.plans.KernelChange.TheVariants as kernel
use Rattle.tp_base.specs.declared.plans.Plan.{Plan}
use Rattle.tp_base.specs.declared.plans.Plan.TheVariants as plans
use Rattle.tp_base.specs.declared.plans.Trigger.TheVariants as trigger
use Rattle.tp_base.specs.declared.rows.CallbackRow.{CallbackRow}
use Rattle.tp_base.specs.declared.rows.ObjectRow.{ObjectRow}
use Rattle.tp_base.specs.declared.rows.PoolRow.{PoolRow}
use Rattle.tp_model.specs.Actions.{slots_of}
use Rattle.tp_model.specs.Calls.Clients.{finish, finish_plan, finish_refusals}
use Rattle.tp_model.specs.Calls.Groups.{create_group_plan, close_group_plan, close_group_refusals, begin_close_plan, begin_close_refusals}
use Rattle.tp_model.specs.Calls.InCallback.{busy_refusals, disassociate, disassociate_plan, may_run_long, may_run_long_plan, on_return, on_return_plan, on_return_refusals}
use Rattle.tp_model.specs.Calls.Io.{start_io, start_io_plan, start_io_refusals, expected_refusals, operate, issue_io_plan, cancel_io_plan, complete_io, complete_io_plan, complete_io_refusals, complete_next_plan, complete_next_refusals}
use Rattle.tp_model.specs.Calls.Kernels.{create_event_plan, create_semaphore_plan, create_lock_plan, kernel_refusals, set_event_plan, reset_event_plan, release_semaphore_plan, release_semaphore_refusals, release_lock_plan}
use Rattle.tp_model.specs.Calls.Objects.{create_plan, create_refusals, close_object_plan, close_object_refusals}
use Rattle.tp_model.specs.Calls.Pools.{create_pool_plan, pool_refusals, close_pool_plan, set_maximum_plan, set_minimum_plan}
use Rattle.tp_model.specs.Calls.Timers.{set_timer_plan, set_timer_ex_plan, set_timer_refusals, is_timer_set_plan, advance_plan, advance_refusals}
use Rattle.tp_model.specs.Calls.WaitObjects.{set_wait_plan, set_wait_refusals}
use Rattle.tp_model.specs.Calls.Waits.{begin_wait_plan, begin_wait_refusals, begin_acquire_plan, begin_acquire_refusals, try_acquire_plan}
use Rattle.tp_model.specs.Calls.Work.{submit, submit_work_plan, submit_work_refusals, submit_simple_plan, submit_simple_refusals}
use Rattle.tp_model.specs.Calls.Workers.{attach_plan, attach_refusals, idle_refusals, return_refusals, attach_to, detach, detach_plan, may_leave, return, return_plan, take as take_next, take_callback, take_plan}
use Rattle.tp_model.specs.Changes.{change_pool, changed, release_object}
use Rattle.tp_model.specs.Counts.{maximum, next, numbered, running}
use Rattle.tp_model.specs.History.{IsLegal, IsLegalFrom, after, after_from, led_to, room, wait_end}
use Rattle.tp_model.specs.Kernels.{is_kernel_that, is_one_that}
use Rattle.tp_model.specs.Refusing.{first_refusal, make_refusals, object_refusals, unless_refused}
use Rattle.tp_model.specs.Sources.{Sources, arm, disarmed, job, jobless, sources_of, with_state}
use Rattle.tp_model.specs.Step.{outcome_of}
use Rattle.tp_model.specs.Support.Sound.{IsSound}
use Rattle.tp_model.specs.Table.{plan, step}
use Rattle.tp_model.specs.World.{World, opening}
use Rattle.tp_model.proofs.Entries.{Accepts, Entered, Refuses, entered, entry_leads, next_number_in, told_change}
use Rattle.tp_model.proofs.Firing.{signal_now, with_arming}
use Rattle.tp_model.proofs.Performing.{returning_now}
use Rattle.tp_model.proofs.Sound.{opening_sound}
use Rattle.line_grammar.specs.Faults.{IsOrNoMemory}
use Rattle.tp_report.specs.Histories.{entries_of}
use Rattle.tp_report.specs.Moments.{clock_by, clocks, moment_after, moment_of, moments, moments_from}
use Rattle.tp_report.specs.Verdicts.{IfLegal, IsVerdict}
use Rattle.line_grammar.specs.declared.faults.TextFault.{TextFault}
use Rattle.tp_report.specs.declared.lines.Line.{Line}
use Rattle.tp_report.specs.declared.verdict.Verdict.{Verdict}
use Rattle.tp_report.specs.declared.verdict.Verdict.TheVariants.{Legal, NotLegal, WrongMoment}

-- ---- changes

-- the time to which a change moves the clock
abbrev time_of : Change → Option ℕ
time_of (change.Fire (trigger.Advance now) first count) = Some now
time_of _ = None

arm_stays : (object : ObjectId) (kernel : KernelId) (timeout : Option ℤ) (s : Sources) → (arm object kernel timeout s).sources.now ≡ s.now
arm_stays object kernel timeout s =
    elim (is_one_that is_signalled s.kernels kernel.0) as (λ b. (cond b (record { sources = with_state taken kernel.0 s; jobs = job object WaitObject0 ∷ [] })
    (cond (expires_at_once s.now timeout) (record { sources = s; jobs = job object WaitTimeout ∷ [] }) (jobless (with_arming object kernel timeout s)))).sources.now ≡ s.now) [
      | true ↦ refl
      | false ↦ elim (expires_at_once s.now timeout) as (λ b. (cond b (record { sources = s; jobs = job object WaitTimeout ∷ [] }) (jobless (with_arming object kernel timeout s))).sources.now ≡ s.now) [ true ↦ refl | false ↦ refl ]
    ]

-- no other change moves it
changed_clock : (w : World) (ch : Change) → (changed w ch).now ≡ unwrap_or (time_of ch) w.now
changed_clock w (change.ChangePool pool how) = of_row (slice_get w.pools pool.0)
  where
    of_row : (row : Option PoolRow) → (change_pool w pool.0 how row).now ≡ w.now
    of_row None = refl
    of_row (Some row) = refl
changed_clock w (change.ReleaseObject object) = of_row (numbered w.objects object.0)
  where
    of_row : (row : Option ObjectRow) → (release_object w object row).now ≡ w.now
    of_row None = refl
    of_row (Some row) = refl
changed_clock w (change.Fire (trigger.SetTimer object due period window) first count) = refl
changed_clock w (change.Fire (trigger.Advance now) first count) = refl
changed_clock w (change.Fire (trigger.SetWait object None timeout) first count) = refl
changed_clock w (change.Fire (trigger.SetWait object (Some kernel) timeout) first count) = arm_stays object kernel timeout (disarmed object (sources_of w))
changed_clock w (change.Fire (trigger.SetEvent kernel) first count) = signal_now Set kernel.0 (jobless (sources_of w))
changed_clock w (change.Fire (trigger.ReleaseSemaphore kernel count) first more) = signal_now (Raise count) kernel.0 (jobless (sources_of w))
changed_clock w (change.Return by words first count) = returning_now w words (slots_of by.callback.status)
changed_clock w _ = refl

-- ---- calls

-- the answer of a plan tells the time to which its change moves the clock
abbrev TellsTime : Call → Plan → Type 0
TellsTime call (plans.Does a ch) = clock_by call a ≡ time_of ch
TellsTime call (plans.Refused refusal) = Unit {0}
TellsTime call (plans.Looked seen) = Unit {0}

unless : (call : Call) (refusals : List (Bool × Refusal)) (p : Plan) → TellsTime call p → TellsTime call (unless_refused (first_refusal refusals) p)
unless call refusals p tells = of_first (first_refusal refusals)
  where
    of_first : (refusal : Option Refusal) → TellsTime call (unless_refused refusal p)
    of_first (Some refusal) = tt
    of_first None = tells

-- the end of a wait moves no clock
end_stays : (who : Who) (a : Answer) (ch : Change) → wait_end who a ≡ Some ch → None ≡ time_of ch
end_stays who answer.Ended ch is = cc
end_stays who answer.Exhausted ch is = cc
end_stays who answer.Stalled ch is = cc
end_stays who (answer.Notice object routine context cleanup) ch is = cc
end_stays who _ ch is = absurd cc

-- what is planned behind the refusals
end_tells : (who : Who) (p : Plan) → ((a : Answer) (ch : Change) → p ≡ plans.Does a ch → wait_end who a ≡ Some ch) → TellsTime End p
end_tells who (plans.Does a ch) ends = end_stays who a ch (ends a ch refl)
end_tells who (plans.Refused refusal) ends = tt
end_tells who (plans.Looked seen) ends = tt

start_tells : (next_number : ℕ) (object : ObjectId) (row : Option ObjectRow) → TellsTime (StartIo object) (start_io next_number object row)
start_tells next_number object None = tt
start_tells next_number object (Some row) = refl

submit_tells : (next_number : ℕ) (object : ObjectId) (row : Option ObjectRow) → TellsTime (SubmitWork object) (submit next_number object row)
submit_tells next_number object None = tt
submit_tells next_number object (Some row) = refl

operate_tells : (call : Call) (told : ℕ → Answer) (how : IoStep) (c : Option CallbackRow) → ((number : ℕ) → clock_by call (told number) ≡ None) → TellsTime call (operate told how c)
operate_tells call told how None tells = tt
operate_tells call told how (Some c) tells = tells c.number

complete_tells : (callback error bytes : ℕ) (c : Option CallbackRow) → TellsTime (CompleteIo callback error bytes) (complete_io error bytes c)
complete_tells callback error bytes None = tt
complete_tells callback error bytes (Some c) = refl

next_tells : (object : ObjectId) (error bytes : ℕ) (c : Option CallbackRow) → TellsTime (CompleteNext object error bytes) (complete_io error bytes c)
next_tells object error bytes None = tt
next_tells object error bytes (Some c) = refl

try_tells : (who : Who) (object : KernelId) (may : Bool) → TellsTime (TryAcquire object) (cond may (plans.Does (answer.Flag true) (change.ChangeKernel object (kernel.Take who))) (plans.Does (answer.Flag false) change.Keep))
try_tells who object true = refl
try_tells who object false = refl

attach_tells : (actor : Who) (pool : Option ℕ) → TellsTime Attach (attach_to actor pool)
attach_tells (Worker number) (Some pool) = refl
attach_tells (Worker number) None = tt
attach_tells (Client number) pool = tt

detach_tells : (w : World) (by : Option Idle) → TellsTime Detach (detach w by)
detach_tells w None = tt
detach_tells w (Some by) = elim (may_leave w by) as (λ b. TellsTime Detach (cond b (plans.Does answer.Done (change.Detach by)) (plans.Looked look.Stay))) [ true ↦ refl | false ↦ tt ]

taken_tells : (w : World) (by : Idle) (c : Option CallbackRow) → TellsTime Take (take_callback w by c)
taken_tells w by None = tt
taken_tells w by (Some c) =
    elim (nat_le (maximum w by.pool.0) (running w by.pool.0))
    as (λ b. TellsTime Take (cond b (plans.Looked (look.AtMaximum (running w by.pool.0))) (plans.Does (answer.Taken c.number c.object c.routine c.context c.result) (change.Take by c)))) [
      | true ↦ tt
      | false ↦ refl
    ]

take_tells : (w : World) (by : Option Idle) → TellsTime Take (take_next w by)
take_tells w None = tt
take_tells w (Some by) = taken_tells w by (next w by.pool.0 by.persistent)

return_tells : (w : World) (next_number : ℕ) (who : Who) (by : Option Busy) → TellsTime Return (return w next_number who by)
return_tells w next_number who None = tt
return_tells w next_number who (Some by) = refl

long_tells : (w : World) (by : Option Busy) → TellsTime MayRunLong (may_run_long w by)
long_tells w None = tt
long_tells w (Some by) = refl

loose_tells : (by : Option Busy) → TellsTime Disassociate (disassociate by)
loose_tells None = tt
loose_tells (Some by) = refl

asked_tells : (kind : ActionKind) (kernel : KernelId) (count : ℕ) (by : Option Busy) → TellsTime (OnReturn kind kernel count) (on_return kind kernel count by)
asked_tells kind kernel count None = tt
asked_tells kind kernel count (Some by) = refl

finish_tells : (actor : Who) → TellsTime Finish (finish actor)
finish_tells (Client number) = refl
finish_tells (Worker number) = tt

-- of every call
plan_tells : (w : World) (left : ℕ) (who : Who) (call : Call) → TellsTime call (plan w left who call)
unfolding create_pool_plan close_pool_plan set_maximum_plan set_minimum_plan create_group_plan close_group_plan begin_close_plan create_plan close_object_plan submit_simple_plan submit_work_plan set_timer_plan set_timer_ex_plan is_timer_set_plan
    advance_plan set_wait_plan start_io_plan issue_io_plan cancel_io_plan complete_io_plan complete_next_plan begin_wait_plan begin_acquire_plan try_acquire_plan create_event_plan create_semaphore_plan create_lock_plan set_event_plan reset_event_plan release_semaphore_plan
    release_lock_plan attach_plan detach_plan take_plan return_plan may_run_long_plan disassociate_plan on_return_plan finish_plan
plan_tells w left who CreatePool = unless CreatePool (make_refusals w who [] w.limits.pools (length w.pools)) _ refl
plan_tells w left who (ClosePool pool) = unless (ClosePool pool) (pool_refusals w who pool.0) _ refl
plan_tells w left who (SetMaximum pool value) = unless (SetMaximum pool value) (pool_refusals w who pool.0) _ refl
plan_tells w left who (SetMinimum pool value) = unless (SetMinimum pool value) (pool_refusals w who pool.0) _ refl
plan_tells w left who CreateGroup = unless CreateGroup (make_refusals w who [] w.limits.groups (length w.groups)) _ refl
plan_tells w left who (CloseGroup group) = unless (CloseGroup group) (close_group_refusals w who group) _ refl
plan_tells w left who (BeginClose group cancel context) = unless (BeginClose group cancel context) (begin_close_refusals w who group.0) _ refl
plan_tells w left who (Create kind routine context env) = unless (Create kind routine context env) (create_refusals w who env) _ refl
plan_tells w left who (CloseObject kind object) = unless (CloseObject kind object) (close_object_refusals w who kind object) _ refl
plan_tells w left who (SubmitSimple routine context env) = unless (SubmitSimple routine context env) (submit_simple_refusals w who env) _ refl
plan_tells w left who (SubmitWork object) = unless (SubmitWork object) (submit_work_refusals w who object.0) _ (submit_tells (next_number_in w) object _)
plan_tells w left who (SetTimer object due period window) = unless (SetTimer object due period window) (set_timer_refusals w who object.0 (trigger.SetTimer object due period window)) _ refl
plan_tells w left who (SetTimerEx object due period window) = unless (SetTimerEx object due period window) (set_timer_refusals w who object.0 (trigger.SetTimer object due period window)) _ refl
plan_tells w left who (IsTimerSet object) = unless (IsTimerSet object) (object_refusals w who Timer object.0) _ refl
plan_tells w left who (Advance ticks) = unless (Advance ticks) (advance_refusals w who (w.now + ticks)) _ refl
plan_tells w left who (SetWait object kernel timeout) = unless (SetWait object kernel timeout) (set_wait_refusals w who object kernel timeout) _ refl
plan_tells w left who (StartIo object) = unless (StartIo object) (start_io_refusals w who object.0) _ (start_tells (next_number_in w) object _)
plan_tells w left who (IssueIo object) = unless (IssueIo object) (expected_refusals w who object.0) _ (operate_tells (IssueIo object) answer.Operation Issue _ (λ number. refl))
plan_tells w left who (CancelIo object) = unless (CancelIo object) (expected_refusals w who object.0) _ (operate_tells (CancelIo object) answer.Cancelled GiveUp _ (λ number. refl))
plan_tells w left who (CompleteIo callback error bytes) = unless (CompleteIo callback error bytes) (complete_io_refusals w who callback) _ (complete_tells callback error bytes _)
plan_tells w left who (CompleteNext object error bytes) = unless (CompleteNext object error bytes) (complete_next_refusals w who object.0) _ (next_tells object error bytes _)
plan_tells w left who (BeginWait kind object cancel) = unless (BeginWait kind object cancel) (begin_wait_refusals w who kind object.0) _ refl
plan_tells w left who (BeginAcquire kernel) = unless (BeginAcquire kernel) (begin_acquire_refusals w who kernel.0) _ refl
plan_tells w left who (TryAcquire kernel) = unless (TryAcquire kernel) (begin_acquire_refusals w who kernel.0) _ (try_tells who kernel _)
plan_tells w left who End = end_tells who (plan w left who End) (told_change w left who End)
plan_tells w left who (CreateEvent manual signalled) = unless (CreateEvent manual signalled) (make_refusals w who [] w.limits.kernels (length w.kernels)) _ refl
plan_tells w left who (CreateSemaphore initial most) = unless (CreateSemaphore initial most) (make_refusals w who ((nat_lt most initial || (most == 0), OverMaximum initial) ∷ []) w.limits.kernels (length w.kernels)) _ refl
plan_tells w left who (CreateLock lock owned) = unless (CreateLock lock owned) (make_refusals w who [] w.limits.kernels (length w.kernels)) _ refl
plan_tells w left who (SetEvent kernel) = unless (SetEvent kernel) (kernel_refusals w who is_event kernel.0 []) _ refl
plan_tells w left who (ResetEvent kernel) = unless (ResetEvent kernel) (kernel_refusals w who is_event kernel.0 []) _ refl
plan_tells w left who (ReleaseSemaphore kernel count) = unless (ReleaseSemaphore kernel count) (release_semaphore_refusals w who kernel.0 count) _ refl
plan_tells w left who (ReleaseLock lock kernel) = unless (ReleaseLock lock kernel) (kernel_refusals w who (is_lock lock) kernel.0 ((not (is_kernel_that (owns who) w kernel.0), NotOwner) ∷ [])) _ refl
plan_tells w left who Attach = unless Attach (attach_refusals w who) _ (attach_tells who _)
plan_tells w left who Detach = unless Detach (idle_refusals w who) _ (detach_tells w _)
plan_tells w left who Take = unless Take (idle_refusals w who) _ (take_tells w _)
plan_tells w left who Return = unless Return (return_refusals w who) _ (return_tells w (next_number_in w) who _)
plan_tells w left who MayRunLong = unless MayRunLong (busy_refusals w who) _ (long_tells w _)
plan_tells w left who Disassociate = unless Disassociate (busy_refusals w who) _ (loose_tells _)
plan_tells w left who (OnReturn kind kernel count) = unless (OnReturn kind kernel count) (on_return_refusals w who kind kernel.0) _ (asked_tells kind kernel count _)
plan_tells w left who Finish = unless Finish (finish_refusals w who) _ (finish_tells who)

-- ---- histories

-- an entry of a legal history moves the clock to where it tells
entry_clock : (w : World) (left : ℕ) (entry : Entry) → IsSound (next_number_in w) w → outcome_of (step w left entry.who entry.call) ≡ outcome.Done entry.answer → (led_to w entry).now ≡ moment_after w.now entry
entry_clock w left entry sound answers = of_entry (entered w left entry sound answers)
  where
    no_time : (call : Call) (refusal : Refusal) → clock_by call (answer.Refused refusal) ≡ None
    no_time (Advance ticks) refusal = refl
    no_time _ refusal = refl

    of_entry : Entered w left entry → (led_to w entry).now ≡ moment_after w.now entry
    of_entry (Accepts e) =
        let tells : clock_by entry.call entry.answer ≡ time_of e.change = subst (TellsTime entry.call) e.plan_is (plan_tells w left entry.who entry.call) in
        ap (λ (v : World). v.now) e.leads ∙ changed_clock w e.change ∙ ap (λ t. unwrap_or t w.now) (sym tells)
    of_entry (Refuses refusal same stays) =
        ap (λ (v : World). v.now) stays ∙ ap (λ t. unwrap_or t w.now) (sym (ap (clock_by entry.call) same ∙ no_time entry.call refusal))

-- behind entries
clock_from : (w : World) (capacity entries : ℕ) (history : List Entry) → IsSound (next_number_in w) w → IsLegalFrom w capacity entries history → fold moment_after w.now history ≡ (after_from w history).now
clock_from w capacity entries [] sound legal = refl
clock_from w capacity entries (entry ∷ rest) sound legal =
    let left : ℕ = room capacity w entries in
    ap (λ now. fold moment_after now rest) (sym (entry_clock w left entry sound legal.0))
    ∙ clock_from (led_to w entry) capacity (entries + 1) rest (entry_leads w left entry sound legal.0).sound legal.1

-- the moment behind a legal history is the time of the machine's clock
pub clock_told : (limits : Limits) (capacity : ℕ) (history : List Entry) → IsLegal limits capacity history → moment_of history ≡ (after limits history).now
clock_told limits capacity history legal = clock_from (opening limits) capacity 0 history (opening_sound limits) legal

-- ---- behind each entry

shifted : (f g : ℕ → ℕ) → ((n : ℕ) → f (n + 1) ≡ g n) → (first count : ℕ) → map f (range_with_len (first + 1) count) ≡ map g (range_with_len first count)
shifted f g same first zero = refl
shifted f g same first (suc count) = ap₂ (λ n ns. n ∷ ns) (same first) (shifted f g same (first + 1) count)

moments_are : (w : World) (capacity entries : ℕ) (history : List Entry) → IsSound (next_number_in w) w → IsLegalFrom w capacity entries history
    → moments_from w.now history ≡ map (λ n. (after_from w (take n history)).now) (range_with_len 1 (length history))
moments_are w capacity entries [] sound legal = refl
moments_are w capacity entries (entry ∷ rest) sound legal =
    let left : ℕ = room capacity w entries in
    let here : moment_after w.now entry ≡ (led_to w entry).now = sym (entry_clock w left entry sound legal.0) in
    ap₂ (λ now later. now ∷ later) here
    (ap (λ now. moments_from now rest) here
    ∙ moments_are (led_to w entry) capacity (entries + 1) rest (entry_leads w left entry sound legal.0).sound legal.1
    ∙ sym (shifted (λ n. (after_from w (take n (entry ∷ rest))).now) (λ n. (after_from (led_to w entry) (take n rest)).now) (λ n. ap (λ m. (after_from w (take m (entry ∷ rest))).now) (one_more n)) 1 (length rest)))
  where
    one_more : (n : ℕ) → n + 1 ≡ suc n
    one_more n = omega arith

-- the moments of a legal history are the times of the machine's clock
moments_told : (limits : Limits) (capacity : ℕ) (history : List Entry) → IsLegal limits capacity history → moments history ≡ clocks limits history
moments_told limits capacity history legal = moments_are (opening limits) capacity 0 history (opening_sound limits) legal

-- and so are those of a history that is called legal
pub legal_clocks : (limits : Limits) (capacity : ℕ) (lines : List Line) (result : Result Verdict TextFault) → IsOrNoMemory (IsVerdict limits capacity lines) result
    → IfLegal result (moments (entries_of lines) ≡ clocks limits (entries_of lines))
legal_clocks limits capacity lines (Ok (Legal len)) verdict = moments_told limits capacity (entries_of lines) verdict.0
legal_clocks limits capacity lines (Ok (NotLegal position outcome)) verdict = tt
legal_clocks limits capacity lines (Ok (WrongMoment position now)) verdict = tt
legal_clocks limits capacity lines (Err fault) verdict = tt
