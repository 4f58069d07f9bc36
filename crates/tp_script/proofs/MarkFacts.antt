-- Marks stand one behind another.
use Rattle.std.proofs.Common.{◌≡◌, ℕ, zero, suc, ◌+◌, ◌≤◌, Bool, true, false, List, [], ◌∷◌, ◌++◌, Option, Some, None, cond, drop, get_or, nat_le, refl, arith, ◌<◌, ◌&&◌, if◌then◌else◌}
use Rattle.std.specs.List.{All, filter}
use Rattle.std.proofs.lemmas.Bool.{leb-true}
use Rattle.std.proofs.lemmas.List.Elements.{All-append, All-cons, All-head, All-nil, All-tail, All-weaker}
use Rattle.script_lines.specs.declared.words.Word.{Word}
use Rattle.tp_script.specs.declared.marks.Act.{Act}
use Rattle.tp_script.specs.declared.marks.Mark.{Mark}
use Rattle.tp_script.specs.declared.numbered.NumberedLine.{NumberedLine}
use Rattle.tp_script.specs.Kept.{AreFrom, AreRising}
use Rattle.tp_script.specs.Parsed.{act_of, is_played, marked, marks_from, place_after}
use Rattle.tp_script.specs.Parts.{is_within}

abbrev IsFrom : ℕ → Mark → Type 0
IsFrom place mark = place ≤ mark.place

-- what stands from one place on stands from each place before it on
from_before : (low high : ℕ) (marks : List Mark) → low ≤ high → AreFrom high marks → AreFrom low marks
from_before low high marks less from = All-weaker (IsFrom high) (IsFrom low) (λ mark there. omega (arith, less, there)) marks from

-- of marks behind the last place none stands within
none_within : (first last : ℕ) (marks : List Mark) → AreFrom (suc last) marks → filter (is_within first last) marks ≡ []
none_within first last [] from = refl
none_within first last (mark ∷ marks) from =
    by (nat_le first mark.place) (nat_le mark.place last) (λ is. omega (arith, All-head (IsFrom (suc last)) mark marks from, leb-true mark.place last is)) (none_within first last marks (All-tail (IsFrom (suc last)) mark marks from))
  where
    by : (a b : Bool) → (b ≡ true → ⊥) → filter (is_within first last) marks ≡ [] → cond (a && b) (mark ∷ filter (is_within first last) marks) (filter (is_within first last) marks) ≡ []
    by true true isnt none = absurd (isnt refl)
    by true false isnt none = none
    by false b isnt none = none

-- and none where the first of them stands behind it
pub none_further : (marks : List Mark) (index first last : ℕ) (d : Mark) → AreRising (drop index marks) → last < (get_or marks index d).place → filter (is_within first last) (drop index marks) ≡ []
none_further [] zero first last d rising less = refl
none_further [] (suc index) first last d rising less = refl
none_further (mark ∷ marks) (suc index) first last d rising less = none_further marks index first last d rising less
none_further (mark ∷ marks) zero first last d rising less =
    none_within first last (mark ∷ marks) (All-cons (IsFrom (suc last)) mark marks (omega (arith, less)) (from_before (suc last) mark.place marks (omega (arith, less)) rising.0))

-- ---- the marks of a script

marked_from : (place number : ℕ) (said : Option Act) → AreFrom place (marked place number said)
marked_from place number (Some said) = All-cons (IsFrom place) (record { place = place; line = number; act = said }) [] (omega arith) (All-nil (IsFrom place))
marked_from place number None = All-nil (IsFrom place)

no_further : (place : ℕ) (head : Word) → place ≤ place_after place head
no_further place head = by (is_played head)
  where
    by : (b : Bool) → place ≤ (if b then place + 1 else place)
    by true = omega arith
    by false = omega arith

all_from : (rows : List NumberedLine) (place : ℕ) → AreFrom place (marks_from place rows)
all_from [] place = All-nil (IsFrom place)
all_from (row ∷ rows) place =
    let next : ℕ = place_after place row.line.head in
    All-append (IsFrom place) (marked place row.number (act_of row.line)) (marks_from next rows) (marked_from place row.number (act_of row.line))
    (from_before place next (marks_from next rows) (no_further place row.line.head) (all_from rows next))

one_rising : (place number : ℕ) (said : Option Act) (marks : List Mark) → AreFrom place marks → AreRising marks → AreRising (marked place number said ++ marks)
one_rising place number (Some said) marks from rising = (from, rising)
one_rising place number None marks from rising = rising

pub all_rising : (rows : List NumberedLine) (place : ℕ) → AreRising (marks_from place rows)
all_rising [] place = tt
all_rising (row ∷ rows) place =
    let next : ℕ = place_after place row.line.head in
    one_rising place row.number (act_of row.line) (marks_from next rows) (from_before place next (marks_from next rows) (no_further place row.line.head) (all_from rows next)) (all_rising rows next)
