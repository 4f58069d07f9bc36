-- A client that has no wait begun: a call that begins none comes to no look, and its answer neither begins a wait nor takes
-- a callback.
use Rattle.std.proofs.Common.{◌≡◌, ℕ, ◌+◌, ◌==◌, length, Bool, true, false, ◌||◌, cond, not, nat_lt, List, [], ◌∷◌, Option, None, Some, find, refl}
use Rattle.std.specs.List.{list_any}
use Rattle.tp_base.specs.Actors.{is_same_actor}
use Rattle.tp_base.specs.declared.answers.Answer.{Answer}
use Rattle.tp_base.specs.declared.answers.Answer.TheVariants as answer
use Rattle.tp_base.specs.declared.answers.Outcome.{Outcome}
use Rattle.tp_base.specs.declared.answers.Outcome.TheVariants as outcome
use Rattle.tp_base.specs.declared.answers.Refusal.{Refusal}
use Rattle.tp_base.specs.declared.answers.Refusal.TheVariants.{AlreadyAttached, NoSuch, NotAttached, NotOwner, NotWorker, OverMaximum, Released, StillRunning}
use Rattle.tp_base.specs.Kernels.{is_event, is_lock, may_take, owns}
use Rattle.tp_base.specs.declared.calls.Call.{Call}
use Rattle.tp_base.specs.declared.calls.Kind.TheVariants as kind
use Rattle.tp_base.specs.declared.plans.Trigger.TheVariants as trigger
use Rattle.tp_model.specs.Kernels.{is_kernel_that}
use Rattle.tp_base.specs.declared.calls.Call.TheVariants.{CreatePool, ClosePool, SetMaximum, SetMinimum, CreateGroup, CloseGroup, BeginClose, Create, CloseObject, SubmitSimple, SubmitWork}
use Rattle.tp_base.specs.declared.calls.Call.TheVariants.{SetTimer, SetTimerEx, IsTimerSet, Advance, SetWait, StartIo, IssueIo, CancelIo, CompleteIo, CompleteNext}
use Rattle.tp_base.specs.declared.calls.Call.TheVariants.{BeginWait, BeginAcquire, TryAcquire, End, CreateEvent, CreateSemaphore, CreateLock, SetEvent, ResetEvent, ReleaseSemaphore, ReleaseLock}
use Rattle.tp_base.specs.declared.calls.Call.TheVariants.{Attach, Detach, Take, Return, MayRunLong, Disassociate, OnReturn, Finish}
use Rattle.tp_base.specs.declared.ids.ObjectId.{ObjectId}
use Rattle.tp_base.specs.declared.ids.Who.{Who}
use Rattle.tp_base.specs.declared.ids.Who.TheVariants.{Client, Worker}
use Rattle.tp_base.specs.declared.answers.ActionKind.{ActionKind}
use Rattle.tp_base.specs.declared.ids.KernelId.{KernelId}
use Rattle.tp_base.specs.declared.plans.Busy.{Busy}
use Rattle.tp_base.specs.declared.plans.Change.{Change}
use Rattle.tp_base.specs.declared.plans.IoStep.{IoStep}
use Rattle.tp_base.specs.declared.plans.Plan.{Plan}
use Rattle.tp_base.specs.declared.plans.Plan.TheVariants as plans
use Rattle.tp_base.specs.declared.rows.CallbackRow.{CallbackRow}
use Rattle.tp_base.specs.declared.rows.ObjectRow.{ObjectRow}
use Rattle.tp_model.specs.Calls.Clients.{finish, finish_plan, finish_refusals}
use Rattle.tp_model.specs.Calls.Groups.{create_group_plan, close_group_plan, close_group_refusals}
use Rattle.tp_model.specs.Calls.InCallback.{disassociate, may_run_long, may_run_long_plan, disassociate_plan, on_return, on_return_plan, on_return_refusals, busy_refusals}
use Rattle.tp_model.specs.Calls.Io.{start_io, start_io_plan, start_io_refusals, issue_io_plan, cancel_io_plan, complete_io, complete_io_plan, complete_io_refusals, complete_next_plan, complete_next_refusals, expected_refusals, first_expected, first_issued, issued_of, operate}
use Rattle.tp_model.specs.Calls.Kernels.{kernel_refusals, release_semaphore_refusals, create_event_plan, create_semaphore_plan, create_lock_plan, set_event_plan, reset_event_plan, release_semaphore_plan, release_lock_plan}
use Rattle.tp_model.specs.Calls.Objects.{create_refusals, close_object_refusals, create_plan, close_object_plan}
use Rattle.tp_model.specs.Calls.Pools.{pool_refusals, create_pool_plan, close_pool_plan, set_maximum_plan, set_minimum_plan}
use Rattle.tp_model.specs.Calls.Timers.{set_timer_refusals, advance_refusals, set_timer_plan, set_timer_ex_plan, is_timer_set_plan, advance_plan}
use Rattle.tp_model.specs.Calls.WaitObjects.{set_wait_refusals, set_wait_plan}
use Rattle.tp_model.specs.Calls.Waits.{begin_acquire_refusals, end_wait, try_acquire_plan}
use Rattle.tp_model.specs.Calls.End.{end_plan, end_refusals, end_unless_stalled}
use Rattle.tp_model.specs.Calls.Work.{submit_work_refusals, submit_simple_refusals, submit, submit_work_plan, submit_simple_plan}
use Rattle.tp_model.specs.Calls.Workers.{attach_to, pool_to_join, return, return_refusals, attach_plan, detach_plan, take_plan, return_plan}
use Rattle.tp_model.specs.Changes.{changed}
use Rattle.tp_model.specs.Conditions.{busy_of, is_actor, is_attached, is_finished, is_in_wait, is_worker, runs_callback}
use Rattle.tp_model.specs.Counts.{numbered}
use Rattle.tp_model.specs.Refusing.{first_refusal, make_refusals, object_refusals, unless_refused}
use Rattle.tp_model.specs.Stages.{waits_after}
use Rattle.tp_model.specs.Step.{Accepted, Full, Refused, cost, outcome_of, stepped, within}
use Rattle.tp_model.specs.Table.{plan, step}
use Rattle.tp_model.specs.Waits.{wait_of}
use Rattle.tp_model.specs.World.{BegunWait, World}
use Rattle.worker_gate.specs.Rounds.{begins_wait}

-- the answer neither begins a wait nor takes a callback
abbrev pub is_quiet : Answer → Bool
is_quiet (answer.Begun covered cancelled) = false
is_quiet (answer.Closing covered cancelled notices) = false
is_quiet (answer.Taken callback object routine context result) = false
is_quiet _ = true

abbrev pub IsQuiet : Outcome → Type 0
IsQuiet (outcome.Done told) = is_quiet told ≡ true
IsQuiet (outcome.Look look) = ⊥
IsQuiet (outcome.Full room cost) = Unit {0}

abbrev IsQuietPlan : Plan → Type 0
IsQuietPlan (plans.Refused refusal) = Unit {0}
IsQuietPlan (plans.Looked look) = ⊥
IsQuietPlan (plans.Does a ch) = is_quiet a ≡ true

-- ---- plans

quiet_by : (refusal : Option Refusal) (p : Plan) → IsQuietPlan p → IsQuietPlan (unless_refused refusal p)
quiet_by None p quiet = quiet
quiet_by (Some refusal) p quiet = tt

quiet_unless : (rs : List (Bool × Refusal)) (p : Plan) → IsQuietPlan p → IsQuietPlan (unless_refused (first_refusal rs) p)
quiet_unless rs p quiet = quiet_by (first_refusal rs) p quiet

-- whose calls aren't those of a worker that runs nothing: a client, and a worker in a callback
abbrev pub is_held : World → Who → Bool
is_held w who = not (is_worker who) || runs_callback w who

-- one of the first four refusals is answered
quiet_fourth : (a b c d : Bool) (x y z u : Refusal) (rs : List (Bool × Refusal)) (p : Plan) → (c || d) ≡ true → IsQuietPlan (unless_refused (first_refusal ((a, x) ∷ (b, y) ∷ (c, z) ∷ (d, u) ∷ rs)) p)
quiet_fourth true b c d x y z u rs p some = tt
quiet_fourth false true c d x y z u rs p some = tt
quiet_fourth false false true d x y z u rs p some = tt
quiet_fourth false false false true x y z u rs p some = tt
quiet_fourth false false false false x y z u rs p some = absurd (cc)

held_quiet : (w : World) (who : Who) (rs : List (Bool × Refusal)) (p : Plan) → is_held w who ≡ true
    → IsQuietPlan (unless_refused (first_refusal ((not (is_actor w who), NoSuch) ∷ (is_finished w who, Released) ∷ (not (is_worker who), NotWorker) ∷ (runs_callback w who, StillRunning) ∷ rs)) p)
held_quiet w who rs p held = quiet_fourth (not (is_actor w who)) (is_finished w who) (not (is_worker who)) (runs_callback w who) NoSuch Released NotWorker StillRunning rs p held

attach_quiet : (w : World) (who : Who) → is_held w who ≡ true → IsQuietPlan (attach_plan w who)
unfolding attach_plan
attach_quiet w who held = held_quiet w who ((is_attached w who, AlreadyAttached) ∷ []) (attach_to who (pool_to_join w)) held

submit_quiet : (next_number : ℕ) (object : ObjectId) (row : Option ObjectRow) → IsQuietPlan (submit next_number object row)
submit_quiet next_number object None = tt
submit_quiet next_number object (Some row) = refl

start_io_quiet : (next_number : ℕ) (object : ObjectId) (row : Option ObjectRow) → IsQuietPlan (start_io next_number object row)
start_io_quiet next_number object None = tt
start_io_quiet next_number object (Some row) = refl

operate_quiet : (told : ℕ → Answer) (how : IoStep) (row : Option CallbackRow) → ((n : ℕ) → is_quiet (told n) ≡ true) → IsQuietPlan (operate told how row)
operate_quiet told how None quiet = tt
operate_quiet told how (Some c) quiet = quiet c.number

complete_io_quiet : (error bytes : ℕ) (row : Option CallbackRow) → IsQuietPlan (complete_io error bytes row)
complete_io_quiet error bytes None = tt
complete_io_quiet error bytes (Some c) = refl

poll_quiet : (takes : Bool) (taken kept : Change) → IsQuietPlan (cond takes (plans.Does (answer.Flag true) taken) (plans.Does (answer.Flag false) kept))
poll_quiet true taken kept = refl
poll_quiet false taken kept = refl

none_found : {X : Type 0} (test : X → Bool) (xs : List X) → list_any test xs ≡ false → find test xs ≡ None
none_found test [] none = refl
none_found test (x ∷ xs) none =
    elim (test x) as (λ b. (b || list_any test xs) ≡ false → cond b (Some x) (find test xs) ≡ None) [ true ↦ λ e. absurd cc | false ↦ λ e. none_found test xs e ] none

no_wait : (w : World) (who : Who) → is_in_wait w who ≡ false → wait_of w who ≡ None
no_wait w who free = none_found (λ (b : BegunWait). is_same_actor b.actor who) w.waits free

end_quiet : (w : World) (left : ℕ) (who : Who) (wait : Option BegunWait) → wait ≡ None → IsQuietPlan (end_unless_stalled w left who (end_wait w left who wait))
end_quiet w left who None is = tt
end_quiet w left who (Some b) is = absurd cc

-- of a callback that the actor runs
return_quiet : (w : World) (next_number : ℕ) (who : Who) (o : Option Busy) → IsQuietPlan (return w next_number who o)
return_quiet w next_number who None = tt
return_quiet w next_number who (Some by) = refl

may_run_long_quiet : (w : World) (o : Option Busy) → IsQuietPlan (may_run_long w o)
may_run_long_quiet w None = tt
may_run_long_quiet w (Some by) = refl

disassociate_quiet : (o : Option Busy) → IsQuietPlan (disassociate o)
disassociate_quiet None = tt
disassociate_quiet (Some by) = refl

on_return_quiet : (kind : ActionKind) (kernel : KernelId) (count : ℕ) (o : Option Busy) → IsQuietPlan (on_return kind kernel count o)
on_return_quiet kind kernel count None = tt
on_return_quiet kind kernel count (Some by) = refl

finish_quiet : (who : Who) → IsQuietPlan (finish who)
finish_quiet (Client number) = refl
finish_quiet (Worker number) = tt

plan_quiet : (w : World) (left : ℕ) (who : Who) (made : Call) → begins_wait made ≡ false → is_in_wait w who ≡ false → is_held w who ≡ true → IsQuietPlan (plan w left who made)
unfolding create_pool_plan close_pool_plan set_maximum_plan set_minimum_plan create_group_plan close_group_plan create_plan close_object_plan submit_work_plan submit_simple_plan
    set_timer_plan set_timer_ex_plan is_timer_set_plan advance_plan set_wait_plan start_io_plan issue_io_plan cancel_io_plan complete_io_plan complete_next_plan
    try_acquire_plan end_plan create_event_plan create_semaphore_plan create_lock_plan set_event_plan reset_event_plan release_semaphore_plan release_lock_plan
    detach_plan take_plan return_plan may_run_long_plan disassociate_plan on_return_plan finish_plan
plan_quiet w left who (BeginWait kind object cancel) calm free held = absurd cc
plan_quiet w left who (BeginAcquire kernel) calm free held = absurd cc
plan_quiet w left who (BeginClose group cancel context) calm free held = absurd cc
plan_quiet w left who End calm free held = quiet_unless (end_refusals w who) _ (end_quiet w left who (wait_of w who) (no_wait w who free))
plan_quiet w left who Attach calm free held = attach_quiet w who held
plan_quiet w left who Detach calm free held = held_quiet w who ((not (is_attached w who), NotAttached) ∷ []) _ held
plan_quiet w left who Take calm free held = held_quiet w who ((not (is_attached w who), NotAttached) ∷ []) _ held
plan_quiet w left who Return calm free held = quiet_unless (return_refusals w who) _ (return_quiet w (length w.callbacks + 1) who (busy_of w who))
plan_quiet w left who MayRunLong calm free held = quiet_unless (busy_refusals w who) _ (may_run_long_quiet w (busy_of w who))
plan_quiet w left who Disassociate calm free held = quiet_unless (busy_refusals w who) _ (disassociate_quiet (busy_of w who))
plan_quiet w left who (OnReturn kind kernel count) calm free held = quiet_unless (on_return_refusals w who kind kernel.0) _ (on_return_quiet kind kernel count (busy_of w who))
plan_quiet w left who (SubmitWork object) calm free held = quiet_unless (submit_work_refusals w who object.0) _ (submit_quiet _ object (numbered w.objects object.0))
plan_quiet w left who (StartIo object) calm free held = quiet_unless (start_io_refusals w who object.0) _ (start_io_quiet _ object (numbered w.objects object.0))
plan_quiet w left who (IssueIo object) calm free held = quiet_unless (expected_refusals w who object.0) _ (operate_quiet answer.Operation _ (first_expected w object.0) (λ n. refl))
plan_quiet w left who (CancelIo object) calm free held = quiet_unless (expected_refusals w who object.0) _ (operate_quiet answer.Cancelled _ (first_expected w object.0) (λ n. refl))
plan_quiet w left who (CompleteIo callback error bytes) calm free held = quiet_unless (complete_io_refusals w who callback) _ (complete_io_quiet error bytes (issued_of w callback))
plan_quiet w left who (CompleteNext object error bytes) calm free held = quiet_unless (complete_next_refusals w who object.0) _ (complete_io_quiet error bytes (first_issued w object.0))
plan_quiet w left who (TryAcquire kernel) calm free held = quiet_unless (begin_acquire_refusals w who kernel.0) _ (poll_quiet (is_kernel_that (may_take who) w kernel.0) _ _)
plan_quiet w left who CreatePool calm free held = quiet_unless (make_refusals w who [] w.limits.pools (length w.pools)) _ refl
plan_quiet w left who (ClosePool pool) calm free held = quiet_unless (pool_refusals w who pool.0) _ refl
plan_quiet w left who (SetMaximum pool value) calm free held = quiet_unless (pool_refusals w who pool.0) _ refl
plan_quiet w left who (SetMinimum pool value) calm free held = quiet_unless (pool_refusals w who pool.0) _ refl
plan_quiet w left who CreateGroup calm free held = quiet_unless (make_refusals w who [] w.limits.groups (length w.groups)) _ refl
plan_quiet w left who (CloseGroup group) calm free held = quiet_unless (close_group_refusals w who group) _ refl
plan_quiet w left who (Create kind routine context env) calm free held = quiet_unless (create_refusals w who env) _ refl
plan_quiet w left who (CloseObject kind object) calm free held = quiet_unless (close_object_refusals w who kind object) _ refl
plan_quiet w left who (SubmitSimple routine context env) calm free held = quiet_unless (submit_simple_refusals w who env) _ refl
plan_quiet w left who (SetTimer object due period window) calm free held = quiet_unless (set_timer_refusals w who object.0 (trigger.SetTimer object due period window)) _ refl
plan_quiet w left who (SetTimerEx object due period window) calm free held = quiet_unless (set_timer_refusals w who object.0 (trigger.SetTimer object due period window)) _ refl
plan_quiet w left who (IsTimerSet object) calm free held = quiet_unless (object_refusals w who kind.Timer object.0) _ refl
plan_quiet w left who (Advance ticks) calm free held = quiet_unless (advance_refusals w who (w.now + ticks)) _ refl
plan_quiet w left who (SetWait object kernel timeout) calm free held = quiet_unless (set_wait_refusals w who object kernel timeout) _ refl
plan_quiet w left who (CreateEvent manual signalled) calm free held = quiet_unless (make_refusals w who [] w.limits.kernels (length w.kernels)) _ refl
plan_quiet w left who (CreateSemaphore initial maximum) calm free held = quiet_unless (make_refusals w who ((nat_lt maximum initial || (maximum == 0), OverMaximum initial) ∷ []) w.limits.kernels (length w.kernels)) _ refl
plan_quiet w left who (CreateLock lock owned) calm free held = quiet_unless (make_refusals w who [] w.limits.kernels (length w.kernels)) _ refl
plan_quiet w left who (SetEvent kernel) calm free held = quiet_unless (kernel_refusals w who is_event kernel.0 []) _ refl
plan_quiet w left who (ResetEvent kernel) calm free held = quiet_unless (kernel_refusals w who is_event kernel.0 []) _ refl
plan_quiet w left who (ReleaseSemaphore kernel count) calm free held = quiet_unless (release_semaphore_refusals w who kernel.0 count) _ refl
plan_quiet w left who (ReleaseLock lock kernel) calm free held = quiet_unless (kernel_refusals w who (is_lock lock) kernel.0 ((not (is_kernel_that (owns who) w kernel.0), NotOwner) ∷ [])) _ refl
plan_quiet w left who Finish calm free held = quiet_unless (finish_refusals w who) _ (finish_quiet who)

-- ---- outcomes

outcome_quiet : (w : World) (left : ℕ) (p : Plan) → IsQuietPlan p → IsQuiet (outcome_of (within w left (stepped w p)))
outcome_quiet w left (plans.Refused refusal) quiet =
    elim (nat_lt left 1) as (λ b. IsQuiet (outcome_of (cond b (Full left 1) (Refused refusal)))) [ true ↦ tt | false ↦ refl ]
outcome_quiet w left (plans.Looked look) quiet = absurd quiet
outcome_quiet w left (plans.Does a ch) quiet =
    elim (nat_lt left (cost w (changed w ch))) as (λ b. IsQuiet (outcome_of (cond b (Full left (cost w (changed w ch))) (Accepted a (changed w ch))))) [ true ↦ tt | false ↦ quiet ]

pub step_quiet : (w : World) (left : ℕ) (who : Who) (made : Call) → begins_wait made ≡ false → is_in_wait w who ≡ false → is_held w who ≡ true → IsQuiet (outcome_of (step w left who made))
step_quiet w left who made calm free held = outcome_quiet w left (plan w left who made) (plan_quiet w left who made calm free held)

-- the wait stays as it is
pub waits_quiet : (told : Answer) (made : Call) → is_quiet told ≡ true → begins_wait made ≡ false → waits_after false made told ≡ false
waits_quiet (answer.Begun covered cancelled) made quiet calm = absurd cc
waits_quiet (answer.Closing covered cancelled notices) made quiet calm = absurd cc
waits_quiet answer.Done (BeginAcquire kernel) quiet calm = absurd cc
waits_quiet answer.Done _ quiet calm = refl
waits_quiet _ made quiet calm = refl
