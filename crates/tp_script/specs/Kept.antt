-- What a script keeps beside what it is read as.
use Rattle.std.specs.Prelude.{◌≡◌, ℕ, ◌+◌, ◌<◌, ◌≤◌, ◌^◌, List, [], ◌∷◌, All, length}
use Rattle.script_lines.specs.declared.line.Line.{Line}
use Rattle.tp_script.specs.declared.marks.Mark.{Mark}
use Rattle.tp_script.specs.Nexts.{client_places, routine_places}

-- no mark stands before the place
abbrev pub AreFrom : ℕ → List Mark → Type 0
AreFrom place marks = All (λ mark. place ≤ mark.place) marks

-- each mark stands no further ahead than those before it
abbrev pub AreRising : List Mark → Type 0
AreRising [] = Unit {0}
AreRising (mark ∷ marks) = AreFrom mark.place marks × AreRising marks

-- where the clients and the routines begin; and there are fewer lines than a place can tell
pub record IsKept (lines : List Line) (marks : List Mark) (memories clients routines : List ℕ) : Type 0 where
  pub clients_of : clients ≡ client_places lines
  pub routines_of : routines ≡ routine_places lines
  pub few : length lines + 1 < 2 ^ 32
  pub few_memories : length memories < 2 ^ 32
  pub rising : AreRising marks
