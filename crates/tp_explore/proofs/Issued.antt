-- An operation that is told was made before.
use Rattle.std.proofs.Common.{◌≡◌, ℕ, ◌+◌, ◌<◌, ◌≤◌, Bool, true, false, cond, List, [], ◌∷◌, Option, None, Some, refl, sym, ap, find, eqb-true, arith, subst}
use Rattle.tp_base.specs.declared.answers.Answer.TheVariants as answer
use Rattle.tp_base.specs.declared.calls.Call.{Call}
use Rattle.tp_base.specs.declared.ids.Who.{Who}
use Rattle.tp_base.specs.declared.plans.Change.{Change}
use Rattle.tp_base.specs.declared.plans.Change.TheVariants as change
use Rattle.tp_base.specs.declared.plans.IoStep.{IoStep}
use Rattle.tp_base.specs.declared.plans.IoStep.TheVariants.{Issue, GiveUp, Complete}
use Rattle.tp_base.specs.declared.plans.Mark.{Mark}
use Rattle.tp_base.specs.declared.plans.Mark.TheVariants.{Long, Loose, Asks}
use Rattle.tp_base.specs.declared.rows.CallbackRow.{CallbackRow}
use Rattle.tp_model.specs.World.{World}
use Rattle.tp_model.specs.Counts.{has_number}
use Rattle.tp_model.specs.Laws.Entries.{Event, Happening, Issues}
use Rattle.tp_model.specs.Support.Allowed.{IsAllowed}
use Rattle.tp_model.specs.Support.Safe.{IsSafeChange}
use Rattle.tp_model.specs.Support.Sound.{IsRising, IsSound}
use Rattle.tp_model.specs.Support.Told.{deed_of, told_by_change, Told}

low_below : (low next_number : ℕ) (cs : List CallbackRow) → IsRising low next_number cs → low ≤ next_number
low_below low next_number [] rising = rising
low_below low next_number (c ∷ cs) rising = omega (arith, rising.0, low_below (c.number + 1) next_number cs rising.1)

found_below : (low next_number number : ℕ) (cs : List CallbackRow) (c : CallbackRow) → IsRising low next_number cs → find (has_number number) cs ≡ Some c → number < next_number
found_below low next_number number [] c rising found = absurd cc
found_below low next_number number (d ∷ cs) c rising found =
    elim (has_number number d) as (λ b. has_number number d ≡ b → cond b (Some d) (find (has_number number) cs) ≡ Some c → number < next_number) [
      | true ↦ λ is _. omega (arith, eqb-true d.number number is, low_below (d.number + 1) next_number cs rising.1)
      | false ↦ λ _ later. found_below (d.number + 1) next_number number cs c rising.1 later
    ] refl found

abbrev is_issue : Happening → Bool
is_issue Issues = true
is_issue _ = false

abbrev of_what : Option Event → Bool
of_what None = false
of_what (Some e) = is_issue e.what

-- what the change tells to happen
issued : (next_number : ℕ) (w : World) (how : Change) (callback : ℕ) → IsSound next_number w → IsAllowed next_number w how → (told_by_change next_number w how).deed.event ≡ Some (record { number = callback; what = Issues }) → callback < next_number
issued next_number w (change.Operate c how) callback s a is = of_step how is
  where
    of_event : Option Event → ℕ
    of_event None = 0
    of_event (Some e) = e.number

    of_step : (step : IoStep) → (deed_of c.number step).event ≡ Some (record { number = callback; what = Issues }) → callback < next_number
    of_step Issue told =
        let same : c.number ≡ callback = ap of_event told in
        subst (λ n. n < next_number) same (found_below 1 next_number c.number w.callbacks c s.numbers a.found)
    of_step GiveUp told = let wrong : false ≡ true = ap of_what told in absurd cc
    of_step (Complete error bytes) told = let wrong : false ≡ true = ap of_what told in absurd cc
issued next_number w (change.Take by c) callback s a is = let wrong : false ≡ true = ap of_what is in absurd cc
issued next_number w (change.Mark by mark) callback s a is = of_mark mark is
  where
    of_mark : (m : Mark) → (told_by_change next_number w (change.Mark by m)).deed.event ≡ Some (record { number = callback; what = Issues }) → callback < next_number
    of_mark Loose told = absurd cc
    of_mark (Asks kind action) told = absurd cc
    of_mark Long told = absurd cc
issued next_number w how callback s a is = absurd cc

pub operation_made : (next_number : ℕ) (w : World) (who : Who) (made : Call) (callback : ℕ) (how : Change) → IsSound next_number w → IsSafeChange next_number w who made (answer.Operation callback) how → callback < next_number
operation_made next_number w who made callback how s safe = issued next_number w how callback s safe.allowed (sym (ap (λ (t : Told). t.deed.event) safe.tells))
