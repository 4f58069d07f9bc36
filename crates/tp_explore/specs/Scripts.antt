-- What a script says besides its calls, as it was read.
use Rattle.std.specs.Prelude.{ℕ, List, [], map, not}
use Rattle.std.specs.Option.{unwrap_or}
use Rattle.tp_base.specs.declared.ids.RoutineId.{RoutineId}
use Rattle.tp_base.specs.declared.rows.WaitTarget.TheVariants.{Group, Object}
use Rattle.tp_script.specs.declared.marks.Act.{Act}
use Rattle.tp_script.specs.declared.marks.Act.TheVariants as act
use Rattle.tp_script.specs.declared.marks.Mark.{Mark as Said}
use Rattle.tp_script.specs.declared.routines.Part.{Part}
use Rattle.tp_script.specs.declared.routines.Part.TheVariants as part
use Rattle.tp_script.specs.declared.routines.Progress.{Progress}
use Rattle.tp_script.specs.Calls.{id_of, number_at}
use Rattle.tp_script.specs.Nexts.{first_progress}
use Rattle.tp_script.specs.Parsed.{Parsed}
use Rattle.tp_script.specs.Parts.{line_of, marks_behind, may_refuse, next_in, part_marks, progress_in}
use Rattle.part_places.specs.Places.{given}
use Rattle.tp_explore.specs.declared.fault.Fault.{Fault}
use Rattle.tp_explore.specs.SameFaults.{is_passed}
use Rattle.tp_explore.specs.Watched.{Drop, Free, Mark, Marked, Quiet, Use, Watched}

-- what a mark says where the local names stand for these numbers. One that stands for no object is 0
abbrev pub mark_of : List ℕ → Act → Mark
mark_of locals (act.Use memory) = Use memory
mark_of locals (act.Drop memory) = Drop memory
mark_of locals (act.Free memory) = Free memory
mark_of locals (act.QuietObject name) = Quiet (Object (record { 0 = id_of (number_at name locals) }))
mark_of locals (act.QuietGroup group) = Quiet (Group (record { 0 = group }))

abbrev pub marked_of : List ℕ → Said → Marked
marked_of locals said = record { mark = mark_of locals said.act; line = said.line }

module _ (script : Parsed) where
  -- what a part says once it has come so far
  abbrev pub said_at : Part → Progress → List Marked
  said_at part at = map (marked_of at.locals) (marks_behind script part at.op)

  -- all that a routine says. No local name stands for anything
  abbrev pub said_by : RoutineId → List Marked
  said_by routine = map (marked_of first_progress.locals) (part_marks script (part.Routine routine))

  abbrev pub text_line : Part → ℕ → ℕ
  text_line part op = unwrap_or (line_of script part op) 0

-- to who looks for all faults but these
abbrev pub watched_but : List Fault → Parsed → Watched
watched_but passed script = record {
  given = given next_in progress_in script;
  may_refuse = may_refuse script;
  line = text_line script;
  marks = said_at script;
  all_marks = said_by script;
  wants = λ fault. not (is_passed passed fault);
}

-- and to who looks for all
abbrev pub watched : Parsed → Watched
watched script = watched_but [] script
