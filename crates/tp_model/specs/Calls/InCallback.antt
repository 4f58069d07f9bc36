-- Calls of a running callback on itself: CallbackMayRunLong, DisassociateCurrentThreadFromCallback, and the four functions
-- that leave something to its return.
use Rattle.std.specs.Prelude.{ℕ, Bool, false, not, ◌||◌, nat_lt, is_some, List, [], ◌∷◌, Option, None, Some}
use Rattle.std.specs.Option.{option_map_or}
use Rattle.tp_base.specs.declared.ids.Who.{Who}
use Rattle.tp_base.specs.declared.answers.Refusal.{Refusal}
use Rattle.tp_base.specs.declared.answers.Refusal.TheVariants.{NoSuch, WrongKind, Released, NotRunning, InWait, SlotTaken}
use Rattle.tp_base.specs.declared.answers.Answer.TheVariants as answer
use Rattle.tp_base.specs.declared.plans.Busy.{Busy}
use Rattle.tp_base.specs.declared.plans.Mark.TheVariants.{Long, Loose, Asks}
use Rattle.tp_base.specs.declared.ids.KernelId.{KernelId}
use Rattle.tp_base.specs.declared.answers.ActionKind.{ActionKind}
use Rattle.tp_base.specs.Actions.{slot, is_for}
use Rattle.tp_model.specs.Actions.{slots_of}
use Rattle.tp_model.specs.Kernels.{is_kernel, is_kernel_that}
use Rattle.tp_base.specs.declared.plans.Plan.{Plan}
use Rattle.tp_base.specs.declared.plans.Plan.TheVariants.{Refused, Does}
use Rattle.tp_base.specs.declared.plans.Change.TheVariants as change
use Rattle.tp_model.specs.World.{World}
use Rattle.tp_model.specs.Counts.{attached, idle, maximum}
use Rattle.tp_model.specs.Conditions.{is_actor, is_finished, is_in_wait, runs_callback, busy_of}
use Rattle.tp_model.specs.Refusing.{first_refusal, unless_refused}

-- of an actor that must run a callback
abbrev pub busy_refusals : World → Who → List (Bool × Refusal)
busy_refusals w who =
    (not (is_actor w who), NoSuch)
    ∷ (is_finished w who, Released)
    ∷ (not (runs_callback w who), NotRunning)
    ∷ (is_in_wait w who, InWait)
    ∷ []

-- ---- MayRunLong: CallbackMayRunLong

-- the pool has an idle worker, or may have another
abbrev pub has_spare : World → ℕ → Bool
has_spare w pool = nat_lt 0 (idle w pool) || nat_lt (attached w pool) (maximum w pool)

abbrev pub may_run_long : World → Option Busy → Plan
may_run_long w None = Refused NotRunning
may_run_long w (Some by) = Does (answer.Flag (has_spare w by.callback.pool.0)) (change.Mark by Long)

unfoldable pub may_run_long_plan : World → Who → Plan
may_run_long_plan w who = unless_refused (first_refusal (busy_refusals w who)) (may_run_long w (busy_of w who))

-- ---- Disassociate: DisassociateCurrentThreadFromCallback

abbrev pub disassociate : Option Busy → Plan
disassociate None = Refused NotRunning
disassociate (Some by) = Does answer.Done (change.Mark by Loose)

unfoldable pub disassociate_plan : World → Who → Plan
disassociate_plan w who = unless_refused (first_refusal (busy_refusals w who)) (disassociate (busy_of w who))

-- ---- OnReturn: LeaveCriticalSectionWhenCallbackReturns, ReleaseMutexWhenCallbackReturns,
-- ReleaseSemaphoreWhenCallbackReturns, SetEventWhenCallbackReturns

-- the callback that the actor runs has asked for an action of this kind
abbrev pub has_asked : World → Who → ActionKind → Bool
has_asked w who kind = option_map_or (λ (by : Busy). is_some (slot kind (slots_of by.callback.status))) (busy_of w who) false

abbrev pub on_return_refusals : World → Who → ActionKind → ℕ → List (Bool × Refusal)
on_return_refusals w who kind kernel =
    (not (is_actor w who) || not (is_kernel w kernel), NoSuch)
    ∷ (not (is_kernel_that (is_for kind) w kernel), WrongKind)
    ∷ (is_finished w who, Released)
    ∷ (not (runs_callback w who), NotRunning)
    ∷ (is_in_wait w who, InWait)
    ∷ (has_asked w who kind, SlotTaken kind)
    ∷ []

abbrev pub on_return : ActionKind → KernelId → ℕ → Option Busy → Plan
on_return kind kernel count None = Refused NotRunning
on_return kind kernel count (Some by) = Does answer.Done (change.Mark by (Asks kind (record { kernel = kernel; count = count })))

unfoldable pub on_return_plan : World → Who → ActionKind → KernelId → ℕ → Plan
on_return_plan w who kind kernel count = unless_refused (first_refusal (on_return_refusals w who kind kernel.0)) (on_return kind kernel count (busy_of w who))
