-- What an entry of the machine leads to is paid for, so a legal history and what it owes fit into the capacity.
use Rattle.std.proofs.Common.{◌≡◌, ℕ, suc, zero, ◌+◌, ◌≤◌, List, [], ◌∷◌, length, replicate, refl, sym, ap, ◌∙◌, arith, Bool, true, false, cond, not, filter, is_some}
use Rattle.std.specs.Prelude.{nat_lt, if◌then◌else◌, Option, Some}
use Rattle.std.proofs.lemmas.Bool.{ltb-false}
use Rattle.tp_base.specs.declared.answers.Answer.{Answer}
use Rattle.tp_base.specs.declared.answers.Answer.TheVariants as answer
use Rattle.tp_base.specs.declared.answers.Entry.{Entry}
use Rattle.tp_base.specs.declared.answers.Outcome.TheVariants as outcome
use Rattle.tp_base.specs.declared.limits.Limits.{Limits}
use Rattle.tp_base.specs.declared.plans.Change.{Change}
use Rattle.tp_base.specs.declared.plans.Plan.{Plan}
use Rattle.tp_base.specs.declared.plans.Plan.TheVariants as plans
use Rattle.tp_base.specs.declared.rows.ClientRow.{ClientRow}
use Rattle.tp_base.specs.declared.rows.WorkerRow.{WorkerRow}
use Rattle.tp_model.specs.Counts.{owed}
use Rattle.tp_model.specs.Changes.{changed}
use Rattle.tp_model.specs.History.{IsLegal, IsLegalFrom, after, after_from, change_told, is_refusal, led_by, led_to, room}
use Rattle.tp_model.specs.Support.Sound.{IsSound}
use Rattle.tp_model.specs.Step.{Step, Accepted, Refused, Full, cost, entries_of, outcome_of, stepped, within, world_after}
use Rattle.tp_model.specs.Table.{plan, step}
use Rattle.tp_model.specs.World.{World, opening, unattached, unfinished}
use Rattle.tp_model.proofs.Entries.{entry_leads, next_number_in, told_change}
use Rattle.tp_model.proofs.Sound.{opening_sound}
use Rattle.tp_model.proofs.Steps.{plan_allowed}

-- ---- what an entry of the machine leads to

-- the step is the entry's, leads where the entry does, and is paid for
pub record Enters (w : World) (left : ℕ) (entry : Entry) (s : Step) : Type 0 where
  pub leads : world_after w s ≡ led_to w entry
  pub paid : 1 + owed (world_after w s) ≤ owed w + left
  pub one : entries_of s ≡ 1

full_is_none : (left price : ℕ) (told : Answer) → outcome.Full left price ≡ outcome.Done told → ⊥
full_is_none left price told e = let none : ⊥ = cc in none

look_is_none : (look : _) (told : Answer) → outcome.Look look ≡ outcome.Done told → ⊥
look_is_none look told e = let none : ⊥ = cc in none

done_same : (a b : Answer) → outcome.Done a ≡ outcome.Done b → a ≡ b
done_same a b e = cc

-- the world that an entry leads to, from its answer and its change
abbrev led_as : World → Answer → Option Change → World
led_as w told makes = if is_refusal told then w else led_by w makes

accepted_enters : (w : World) (left : ℕ) (entry : Entry) (a : Answer) (next : World) → (a ≡ entry.answer → next ≡ led_to w entry) → (full : Bool) → nat_lt left (cost w next) ≡ full
    → outcome_of (if full then Full left (cost w next) else Accepted a next) ≡ outcome.Done entry.answer
    → Enters w left entry (if full then Full left (cost w next) else Accepted a next)
accepted_enters w left entry a next leads true over e = absurd (full_is_none left (cost w next) entry.answer e)
accepted_enters w left entry a next leads false over e =
    record { leads = leads (done_same a entry.answer e); paid = omega (arith, ltb-false left (cost w next) over); one = refl }

refused_enters : (w : World) (left : ℕ) (entry : Entry) (refusal : _) → (full : Bool) → nat_lt left 1 ≡ full
    → outcome_of (if full then Full left 1 else Refused refusal) ≡ outcome.Done entry.answer → Enters w left entry (if full then Full left 1 else Refused refusal)
refused_enters w left entry refusal true over e = absurd (full_is_none left 1 entry.answer e)
refused_enters w left entry refusal false over e =
    let same : answer.Refused refusal ≡ entry.answer = done_same (answer.Refused refusal) entry.answer e in
    record { leads = ap (λ a. led_as w a (change_told w entry.who entry.call entry.answer)) same; paid = omega (arith, ltb-false left 1 over); one = refl }

-- an accepted entry leads where its plan's change does
change_led : (w : World) (left : ℕ) (entry : Entry) (a : Answer) (ch : Change) → IsSound (length w.callbacks + 1) w → plan w left entry.who entry.call ≡ plans.Does a ch → a ≡ entry.answer → changed w ch ≡ led_to w entry
change_led w left entry a ch sound is same =
    let safe = plan_allowed (length w.callbacks + 1) left w entry.who entry.call a ch sound is in
    let makes : change_told w entry.who entry.call entry.answer ≡ Some ch = ap (change_told w entry.who entry.call) (sym same) ∙ told_change w left entry.who entry.call a ch is in
    let taken : is_refusal entry.answer ≡ false = ap is_refusal (sym same) ∙ safe.accepted in
    sym (ap (λ b. if b then w else led_by w (change_told w entry.who entry.call entry.answer)) taken ∙ ap (led_by w) makes)

plan_enters : (w : World) (left : ℕ) (entry : Entry) (p : Plan) → IsSound (length w.callbacks + 1) w → plan w left entry.who entry.call ≡ p → outcome_of (within w left (stepped w p)) ≡ outcome.Done entry.answer
    → Enters w left entry (within w left (stepped w p))
plan_enters w left entry (plans.Does a ch) sound is e = accepted_enters w left entry a (changed w ch) (change_led w left entry a ch sound is) (nat_lt left (cost w (changed w ch))) refl e
plan_enters w left entry (plans.Refused refusal) sound is e = refused_enters w left entry refusal (nat_lt left 1) refl e
plan_enters w left entry (plans.Looked look) sound is e = absurd (look_is_none look entry.answer e)

pub step_enters : (w : World) (left : ℕ) (entry : Entry) → IsSound (length w.callbacks + 1) w → outcome_of (step w left entry.who entry.call) ≡ outcome.Done entry.answer → Enters w left entry (step w left entry.who entry.call)
step_enters w left entry sound e = plan_enters w left entry (plan w left entry.who entry.call) sound refl e

-- ---- at the beginning

pub none_of : {X : Type 0} (p : X → Bool) (x : X) → p x ≡ false → (n : ℕ) → length (filter p (replicate n x)) ≡ 0
none_of p x out zero = refl
none_of p x out (suc n) = ap (λ b. length (cond b (x ∷ filter p (replicate n x)) (filter p (replicate n x)))) out ∙ none_of p x out n

pub all_of : {X : Type 0} (p : X → Bool) (x : X) → p x ≡ true → (n : ℕ) → length (filter p (replicate n x)) ≡ n
all_of p x here zero = refl
all_of p x here (suc n) = ap (λ b. length (cond b (x ∷ filter p (replicate n x)) (filter p (replicate n x)))) here ∙ ap suc (all_of p x here n)

-- each client has to finish
pub opening_owes : (limits : Limits) → owed (opening limits) ≡ limits.clients
opening_owes limits =
    omega (arith, none_of (λ (r : WorkerRow). is_some r.pool) unattached refl limits.workers, all_of (λ (r : ClientRow). not r.finished) unfinished refl limits.clients)

-- ---- along a history

-- with so many entries made already
fits_from : (capacity most entries : ℕ) (w : World) (rest : List Entry) → IsSound (next_number_in w) w → capacity ≤ most → entries + owed w ≤ most → IsLegalFrom w capacity entries rest
    → entries + length rest + owed (after_from w rest) ≤ most
fits_from capacity most entries w [] sound within fits legal = omega (arith, fits)
fits_from capacity most entries w (entry ∷ rest) sound within fits legal =
    let came : Step = step w (room capacity w entries) entry.who entry.call in
    let e = step_enters w (room capacity w entries) entry sound legal.0 in
    let owes : owed (world_after w came) ≡ owed (led_to w entry) = ap owed e.leads in
    let next : (entries + 1) + owed (led_to w entry) ≤ most = omega (arith, e.paid, owes, fits, within) in
    omega (arith, fits_from capacity most (entries + 1) (led_to w entry) rest (entry_leads w (room capacity w entries) entry sound legal.0).sound within next legal.1)

-- a legal history and what it owes are no more than the capacity, unless more clients have to finish
pub legal_fits : (limits : Limits) (capacity most : ℕ) (history : List Entry) → capacity ≤ most → limits.clients ≤ most → IsLegal limits capacity history → length history + owed (after limits history) ≤ most
legal_fits limits capacity most history within clients legal =
    omega (arith, fits_from capacity most 0 (opening limits) history (opening_sound limits) within (omega (arith, opening_owes limits, clients)) legal)
