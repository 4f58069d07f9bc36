-- What a script is read as: its lines, and what it says besides.
use Rattle.std.specs.Prelude.{ℕ, ◌+◌, Bool, true, false, List, [], ◌∷◌, ◌++◌, Option, Some, None, nat_eq, if◌then◌else◌}
use Rattle.script_lines.specs.declared.line.Line.{Line}
use Rattle.script_lines.specs.declared.words.Word.{Word}
use Rattle.script_lines.specs.declared.words.Word.TheVariants as word
use Rattle.tp_script.specs.declared.marks.Act.{Act}
use Rattle.tp_script.specs.declared.marks.Act.TheVariants as act
use Rattle.tp_script.specs.declared.marks.Mark.{Mark}
use Rattle.tp_script.specs.declared.numbered.Among.{Among}
use Rattle.tp_script.specs.declared.numbered.Among.TheVariants as among
use Rattle.tp_script.specs.declared.numbered.NumberedLine.{NumberedLine}

-- a line of which calls come, or that begins or ends a part: memories are declared without a call, and a mark makes none
abbrev pub is_played : Word → Bool
is_played word.Memory = false
is_played word.Use = false
is_played word.Drop = false
is_played word.Free = false
is_played word.Quiet = false
is_played _ = true

-- whether the line is among these: those that are played, or the declarations of memories, objects or groups
abbrev pub is_among : Among → Word → Bool
is_among among.Played head = is_played head
is_among among.Memories word.Memory = true
is_among among.Objects (word.Object kind) = true
is_among among.Groups word.Group = true
is_among _ head = false

-- the lines that are played
abbrev pub played : List NumberedLine → List Line
played [] = []
played (row ∷ rows) = (if is_played row.line.head then row.line ∷ [] else []) ++ played rows

-- where in the text the lines stand that are among these
abbrev pub numbers_among : Among → List NumberedLine → List ℕ
numbers_among of [] = []
numbers_among of (row ∷ rows) = (if is_among of row.line.head then row.number ∷ [] else []) ++ numbers_among of rows

-- what a mark says
abbrev pub quiet_of : Line → Act
quiet_of line = if nat_eq line.group 0 then act.QuietObject line.object else act.QuietGroup line.group

abbrev pub act_by : Line → Word → Option Act
act_by line word.Use = Some (act.Use line.object.number)
act_by line word.Drop = Some (act.Drop line.object.number)
act_by line word.Free = Some (act.Free line.object.number)
act_by line word.Quiet = Some (quiet_of line)
act_by line _ = None

abbrev pub act_of : Line → Option Act
act_of line = act_by line line.head

-- the mark, behind so many lines that are played
abbrev pub marked : ℕ → ℕ → Option Act → List Mark
marked place number (Some said) = (record { place = place; line = number; act = said }) ∷ []
marked place number None = []

abbrev pub place_after : ℕ → Word → ℕ
place_after place head = if is_played head then place + 1 else place

abbrev pub marks_from : ℕ → List NumberedLine → List Mark
marks_from place [] = []
marks_from place (row ∷ rows) = marked place row.number (act_of row.line) ++ marks_from (place_after place row.line.head) rows

-- a script: the lines that are played, and the number of each in the text; the marks, in the order of the text; and where in the
-- text each memory, object and group is declared
pub record Parsed : Type 0 where
  pub lines : List Line
  pub numbers : List ℕ
  pub marks : List Mark
  pub memories : List ℕ
  pub objects : List ℕ
  pub groups : List ℕ

abbrev pub parsed : List NumberedLine → Parsed
parsed rows = record {
  lines = played rows;
  numbers = numbers_among among.Played rows;
  marks = marks_from 0 rows;
  memories = numbers_among among.Memories rows;
  objects = numbers_among among.Objects rows;
  groups = numbers_among among.Groups rows;
}
