-- From what it follows that a plan asks for a change that is allowed, made by the actor.
use Rattle.std.proofs.Common.{◌≡◌, ℕ, ◌<◌, Bool, List, Option, Some, None, refl, false, true, not, ap, ◌∙◌, sym}
use Rattle.tp_base.specs.declared.ids.Who.{Who}
use Rattle.tp_base.specs.declared.calls.Call.{Call}
use Rattle.tp_base.specs.declared.answers.Refusal.{Refusal}
use Rattle.tp_base.specs.declared.plans.Busy.{Busy}
use Rattle.tp_base.specs.declared.answers.Answer.TheVariants as answer
use Rattle.tp_base.specs.declared.plans.Change.{Change}
use Rattle.tp_base.specs.declared.plans.Plan.{Plan}
use Rattle.tp_base.specs.declared.plans.Plan.TheVariants.{Does}
use Rattle.tp_model.specs.World.{World}
use Rattle.tp_model.specs.Conditions.{busy_of}
use Rattle.tp_model.specs.Refusing.{first_refusal, unless_refused, make_refusals, make}
use Rattle.tp_model.specs.Support.Sound.{IsSound, is_standing}
use Rattle.tp_model.specs.Support.Safe.{IsSafe}
use Rattle.tp_model.proofs.Refusals.{NoneHolds, none_holds, room_to_make}
use Rattle.tp_model.proofs.Actors.{IsBusy, busy_stands}
use Rattle.tp_base.specs.declared.rows.ObjectRow.{ObjectRow}
use Rattle.std.specs.Option.{option_map_or}
use Rattle.tp_model.specs.Counts.{numbered}

-- an object that isn't released
pub row_stands : (objects : List ObjectRow) (n : ℕ) (row : ObjectRow) → numbered objects n ≡ Some row → option_map_or (λ (o : ObjectRow). o.released) (numbered objects n) false ≡ false → is_standing objects n ≡ true
row_stands objects n row is live =
    ap (λ (o : Option ObjectRow). option_map_or (λ (r : ObjectRow). not r.released) o false) is ∙ ap not (sym (ap (λ (o : Option ObjectRow). option_map_or (λ (r : ObjectRow). r.released) o false) is) ∙ live)

-- what follows where no refusal applies
pub safe_unless : (next_number : ℕ) (w : World) (who : Who) (call : Call) (rs : List (Bool × Refusal)) (p : Plan) → (NoneHolds rs → IsSafe next_number w who call p) → IsSafe next_number w who call (unless_refused (first_refusal rs) p)
safe_unless next_number w who call rs p h = known (first_refusal rs) refl
  where
    known : (r : Option Refusal) → first_refusal rs ≡ r → IsSafe next_number w who call (unless_refused r p)
    known None is = h (none_holds rs is)
    known (Some refusal) is = tt

-- of a call that makes one more, where there may be one more
pub make_safe : (next_number : ℕ) (w : World) (who : Who) (call : Call) (own : List (Bool × Refusal)) (limit count number : ℕ) (c : Change) → (count < limit → IsSafe next_number w who call (Does (answer.Made number) c)) → IsSafe next_number w who call (make w who own limit count number c)
make_safe next_number w who call own limit count number c safe = safe_unless next_number w who call (make_refusals w who own limit count) _ (λ none. safe (room_to_make w who own limit count none))

-- of a call that only a running callback makes
pub in_callback_safe : (next_number : ℕ) (w : World) (who : Who) (call : Call) (rs : List (Bool × Refusal)) (by : Option Busy → Plan) → IsSound next_number w → IsSafe next_number w who call (by None)
    → ((busy : Busy) → IsBusy w who busy → IsSafe next_number w who call (by (Some busy))) → IsSafe next_number w who call (unless_refused (first_refusal rs) (by (busy_of w who)))
in_callback_safe next_number w who call rs by s none some = safe_unless next_number w who call rs _ (λ _. runs (busy_of w who) refl)
  where
    runs : (b : Option Busy) → busy_of w who ≡ b → IsSafe next_number w who call (by b)
    runs None is = none
    runs (Some busy) is = some busy (busy_stands next_number w who busy s is)
