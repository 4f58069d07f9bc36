-- What a script says besides its calls: which operations may be refused, and what is said of memories and of callbacks between them.
--
-- What a reader of scripts gives for it:
--     given                  the calls of the parts, as everywhere
--     may_refuse part op     whether the operation of this place of the part may be refused; the place is the `op` of a `Progress`
--     line part op           the line of the text where that operation stands, from 1
--     marks part at          the marks above the operation of the place `at.op` and below the one before it, in the order of the
--                            text: what a part says once it has come there. At `op` 0 they are its first marks, and behind the
--                            last operation those at its end. A local name stands for its number in `at.locals`, 0 for none yet
--     all_marks routine      all the marks of a routine, in the order of the text, where local names stand for none
--     wants fault            whether the fault is looked for; of others nothing is told
-- Objects made behind client 1's declarations have their lines from `line`.
use Rattle.std.specs.Prelude.{ℕ, Bool, false, not, List, [], Option, None, Some}
use Rattle.tp_base.specs.declared.ids.RoutineId.{RoutineId}
use Rattle.tp_script.specs.declared.routines.Part.{Part}
use Rattle.tp_script.specs.declared.routines.Progress.{Progress}
use Rattle.part_places.specs.Places.{Given}
use Rattle.tp_explore.specs.declared.fault.Fault.{Fault}
use Rattle.tp_explore.specs.SameFaults.{is_passed}
pub use Rattle.tp_explore.specs.declared.mark.Mark.{Mark}
pub use Rattle.tp_explore.specs.declared.mark.Mark.TheVariants.{Use, Drop, Free, Quiet}
pub use Rattle.tp_explore.specs.declared.mark.Marked.{Marked}

pub record Watched : Type 0 where
  pub given : Given
  pub may_refuse : Part → ℕ → Bool
  pub line : Part → ℕ → ℕ
  pub marks : Part → Progress → List Marked
  pub all_marks : RoutineId → List Marked
  pub wants : Fault → Bool

-- the same where all faults are looked for but these
abbrev pub all_but : List Fault → Watched → Watched
all_but passed k = record k { wants = λ fault. not (is_passed passed fault) }

module _ (k : Watched) where
  -- the same of the part that an actor plays, if it plays one
  abbrev pub may_refuse_in : Option Part → ℕ → Bool
  may_refuse_in None op = false
  may_refuse_in (Some part) op = k.may_refuse part op

  abbrev pub line_in : Option Part → ℕ → ℕ
  line_in None op = 0
  line_in (Some part) op = k.line part op

  abbrev pub marks_in : Option Part → Progress → List Marked
  marks_in None at = []
  marks_in (Some part) at = k.marks part at
