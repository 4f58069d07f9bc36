-- What a script says of its parts.
use Rattle.std.specs.Prelude.{ℕ, ◌+◌, Bool, false, List, [], ◌∷◌, Option, Some, None, drop, length, nat_le, not, ◌==◌, option_and_then, slice_get, ◌&&◌, if◌then◌else◌}
use Rattle.std.specs.List.{filter}
use Rattle.tp_base.specs.declared.answers.Answer.{Answer}
use Rattle.tp_base.specs.declared.calls.Call.{Call}
use Rattle.script_lines.specs.declared.line.Line.{Line}
use Rattle.tp_script.specs.declared.marks.Mark.{Mark}
use Rattle.tp_script.specs.declared.routines.Part.{Part}
use Rattle.tp_script.specs.declared.routines.Progress.{Progress}
use Rattle.tp_script.specs.Calls.{acts}
use Rattle.tp_script.specs.Nexts.{line_at, next_at, numbered_place, place_of, progress_after}
use Rattle.tp_script.specs.Parsed.{Parsed}

-- its calls are those of the lines that are played
abbrev pub next_in : Parsed → Part → Progress → Option Call
next_in script = next_at script.lines

abbrev pub progress_in : Parsed → Part → Progress → Answer → Progress
progress_in script = progress_after script.lines

-- whether it has marks
abbrev pub has_marks : Parsed → Bool
has_marks script = not (length script.marks == 0)

-- whether the operation may be refused
abbrev pub is_tried : Option Line → Bool
is_tried (Some line) = line.may_refuse
is_tried None = false

abbrev pub may_refuse : Parsed → Part → ℕ → Bool
may_refuse script part op = is_tried (line_at script.lines part op)

-- the line of the text where the part's operation stands
abbrev pub line_of : Parsed → Part → ℕ → Option ℕ
line_of script part op = option_and_then (λ place. slice_get script.numbers (place + op)) (place_of script.lines part)

-- the marks that stand behind so many operations of the part, in their order
abbrev pub is_within : ℕ → ℕ → Mark → Bool
is_within first last mark = nat_le first mark.place && nat_le mark.place last

abbrev pub marks_at : List Mark → Option ℕ → ℕ → List Mark
marks_at marks None made = []
marks_at marks (Some place) made = filter (is_within (place + made) (place + made)) marks

abbrev pub marks_behind : Parsed → Part → ℕ → List Mark
marks_behind script part made = marks_at script.marks (place_of script.lines part) made

-- how many operations stand in front
abbrev pub operations : List Line → ℕ
operations [] = 0
operations (line ∷ lines) = if acts line.head then operations lines + 1 else 0

-- all marks of the part
abbrev pub marks_within : Parsed → Option ℕ → List Mark
marks_within script None = []
marks_within script (Some place) = filter (is_within place (place + operations (drop place script.lines))) script.marks

abbrev pub part_marks : Parsed → Part → List Mark
part_marks script part = marks_within script (place_of script.lines part)

-- where the memory, object or group of a number is declared
abbrev pub memory_line : Parsed → ℕ → Option ℕ
memory_line script number = numbered_place script.memories number

abbrev pub object_line : Parsed → ℕ → Option ℕ
object_line script number = numbered_place script.objects number

abbrev pub group_line : Parsed → ℕ → Option ℕ
group_line script number = numbered_place script.groups number
