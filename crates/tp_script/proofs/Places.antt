-- Where the parts of a script begin.
use Rattle.std.proofs.Common.{ℕ, ◌+◌, ◌≤◌, Bool, true, false, List, [], ◌∷◌, length, arith, if◌then◌else◌}
use Rattle.std.proofs.lemmas.List.{length-append}
use Rattle.script_lines.specs.declared.line.Line.{Line}
use Rattle.tp_script.specs.declared.script.Opening.{Opening}
use Rattle.tp_script.specs.Nexts.{opens, places_behind}

few : (opened : Bool) (place : ℕ) → length (if opened then place ∷ [] else []) ≤ 1
few true place = omega arith
few false place = omega arith

-- no more than there are lines
pub few_places : (opened : Opening) (at : ℕ) (lines : List Line) → length (places_behind opened at lines) ≤ length lines
few_places opened at [] = omega arith
few_places opened at (line ∷ lines) =
    omega (arith, few (opens opened line.head) (at + 1), few_places opened (at + 1) lines, length-append (if opens opened line.head then (at + 1) ∷ [] else []) (places_behind opened (at + 1) lines))
