-- The facts of calls of a running callback on itself.
use Rattle.std.proofs.Common.{◌≡◌, ℕ, Bool, false, not, ◌||◌, List, [], ◌∷◌, Option, Some, None, is_some, refl, sym, ap, ◌∙◌}
use Rattle.std.specs.Option.{option_map_or}
use Rattle.tp_base.specs.declared.ids.KernelId.{KernelId}
use Rattle.tp_base.specs.declared.answers.ActionKind.{ActionKind}
use Rattle.tp_base.specs.declared.answers.Refusal.{Refusal}
use Rattle.tp_base.specs.declared.answers.Refusal.TheVariants.{NoSuch, WrongKind, Released, NotRunning, InWait, SlotTaken}
use Rattle.tp_base.specs.declared.plans.Busy.{Busy}
use Rattle.tp_base.specs.declared.plans.Plan.{Plan}
use Rattle.tp_base.specs.declared.rows.Action.{Action}
use Rattle.tp_base.specs.Actions.{slot, is_for}
use Rattle.tp_model.specs.Actions.{slots_of}
use Rattle.tp_model.specs.Kernels.{is_kernel, is_kernel_that}
use Rattle.tp_model.specs.Conditions.{is_actor, is_finished, is_in_wait, runs_callback, busy_of}
use Rattle.tp_model.specs.Refusing.{first_refusal, unless_refused}
use Rattle.tp_model.proofs.Actors.{IsBusy, busy_stands}
use Rattle.tp_model.proofs.Refusals.{false_true}
use Rattle.tp_base.specs.declared.ids.Who.{Who}
use Rattle.tp_base.specs.declared.calls.Call.TheVariants.{MayRunLong, Disassociate, OnReturn}
use Rattle.tp_model.specs.World.{World}
use Rattle.tp_model.specs.Calls.InCallback.{busy_refusals, may_run_long, may_run_long_plan, disassociate, disassociate_plan, has_asked, on_return_refusals, on_return, on_return_plan}
use Rattle.tp_model.specs.Support.Sound.{IsSound}
use Rattle.tp_model.specs.Support.Safe.{IsSafe}
use Rattle.tp_model.specs.Support.Remembered.{forget}
use Rattle.tp_model.specs.Support.Ranged.{IsPlanInRange}
use Rattle.tp_model.proofs.Forgetting.{in_callback_forget, busy_forget}
use Rattle.tp_model.proofs.Allowed.{in_callback_safe, safe_unless}
use Rattle.tp_model.proofs.Ranged.{in_callback_ranged}

-- ---- MayRunLong

pub may_run_long_safe : (next_number : ℕ) (w : World) (who : Who) → IsSound next_number w → IsSafe next_number w who MayRunLong (may_run_long_plan w who)
unfolding may_run_long_plan
may_run_long_safe next_number w who s = in_callback_safe next_number w who MayRunLong (busy_refusals w who) (may_run_long w) s tt (λ _ b. record { allowed = record { runs = b.runs; unasked = tt }; made_by = b.actor; accepted = refl; tells = refl })

pub may_run_long_forget : (next_number : ℕ) (w : World) (who : Who) → IsSound next_number w → may_run_long_plan (forget w) who ≡ may_run_long_plan w who
unfolding may_run_long_plan
may_run_long_forget next_number w who s = in_callback_forget next_number w who (busy_refusals w who) (may_run_long w) s

pub may_run_long_ranged : (w : World) (who : Who) → IsPlanInRange (may_run_long_plan w who)
unfolding may_run_long_plan
may_run_long_ranged w who = in_callback_ranged w who (busy_refusals w who) (may_run_long w) _ tt (λ _. (tt, tt))

-- ---- Disassociate

pub disassociate_safe : (next_number : ℕ) (w : World) (who : Who) → IsSound next_number w → IsSafe next_number w who Disassociate (disassociate_plan w who)
unfolding disassociate_plan
disassociate_safe next_number w who s = in_callback_safe next_number w who Disassociate (busy_refusals w who) disassociate s tt (λ _ b. record { allowed = record { runs = b.runs; unasked = tt }; made_by = b.actor; accepted = refl; tells = refl })

pub disassociate_forget : (next_number : ℕ) (w : World) (who : Who) → IsSound next_number w → disassociate_plan (forget w) who ≡ disassociate_plan w who
unfolding disassociate_plan
disassociate_forget next_number w who s = in_callback_forget next_number w who (busy_refusals w who) disassociate s

pub disassociate_ranged : (w : World) (who : Who) → IsPlanInRange (disassociate_plan w who)
unfolding disassociate_plan
disassociate_ranged w who = in_callback_ranged w who (busy_refusals w who) disassociate _ tt (λ _. (tt, tt))

-- ---- OnReturn

-- the slot of a running callback
asked_slot : (w : World) (who : Who) (kind : ActionKind) (by : Busy) (b : IsBusy w who by) → busy_of w who ≡ Some by → has_asked w who kind ≡ false → slot kind b.runs.slots ≡ None
asked_slot w who kind by b is unasked =
    none_of (slot kind b.runs.slots)
    (ap (λ s. is_some (slot kind (slots_of s))) (sym b.runs.running) ∙ ap (λ (o : Option Busy). option_map_or (λ (x : Busy). is_some (slot kind (slots_of x.callback.status))) o false) (sym is) ∙ unasked)
  where
    none_of : (o : Option Action) → is_some o ≡ false → o ≡ None
    none_of None e = refl
    none_of (Some a) e = absurd (false_true (sym e))

pub on_return_safe : (next_number : ℕ) (w : World) (who : Who) (kind : ActionKind) (kernel : KernelId) (count : ℕ) → IsSound next_number w → IsSafe next_number w who (OnReturn kind kernel count) (on_return_plan w who kind kernel count)
unfolding on_return_plan
on_return_safe next_number w who kind kernel count s =
    safe_unless next_number w who (OnReturn kind kernel count) (on_return_refusals w who kind kernel.0) _ (λ none. of_busy none.1.1.1.1.1.0 (busy_of w who) refl)
  where
    of_busy : has_asked w who kind ≡ false → (by : Option Busy) → busy_of w who ≡ by → IsSafe next_number w who (OnReturn kind kernel count) (on_return kind kernel count by)
    of_busy unasked None is = tt
    of_busy unasked (Some by) is =
        let b : IsBusy w who by = busy_stands next_number w who by s is in
        record { allowed = record { runs = b.runs; unasked = asked_slot w who kind by b is unasked }; made_by = b.actor; accepted = refl; tells = refl }

pub on_return_forget : (next_number : ℕ) (w : World) (who : Who) (kind : ActionKind) (kernel : KernelId) (count : ℕ) → IsSound next_number w → on_return_plan (forget w) who kind kernel count ≡ on_return_plan w who kind kernel count
unfolding on_return_plan
on_return_forget next_number w who kind kernel count s = ap by_callback (busy_forget next_number w who s)
  where
    with_asked : Bool → List (Bool × Refusal)
    with_asked asked =
        (not (is_actor w who) || not (is_kernel w kernel.0), NoSuch)
        ∷ (not (is_kernel_that (is_for kind) w kernel.0), WrongKind)
        ∷ (is_finished w who, Released)
        ∷ (not (runs_callback w who), NotRunning)
        ∷ (is_in_wait w who, InWait)
        ∷ (asked, SlotTaken kind)
        ∷ []

    by_callback : Option Busy → Plan
    by_callback by = unless_refused (first_refusal (with_asked (option_map_or (λ (x : Busy). is_some (slot kind (slots_of x.callback.status))) by false))) (on_return kind kernel count by)

pub on_return_ranged : (w : World) (who : Who) (kind : ActionKind) (kernel : KernelId) (count : ℕ) → IsPlanInRange (on_return_plan w who kind kernel count)
unfolding on_return_plan
on_return_ranged w who kind kernel count = in_callback_ranged w who (on_return_refusals w who kind kernel.0) (on_return kind kernel count) _ tt (λ _. (tt, tt))
