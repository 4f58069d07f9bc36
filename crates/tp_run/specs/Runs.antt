-- How the program ends.
use Rattle.std.specs.Prelude.{◌≡◌, ℕ, ◌+◌, true, ◌≤◌, ◌↔◌, List, length, Option}
use Rattle.tp_run.specs.Inputs.{Gives, IsFaultyAt, IsInput, reads}
use Rattle.tp_run.specs.declared.top.TheConstants.{INPUT_LIMIT}
use Rattle.tp_run.specs.declared.command.Command.{Command}
use Rattle.tp_run.specs.declared.status.Status.{Status}
use Rattle.tp_run.specs.declared.status.Status.TheVariants.{Fine, BadLine, WriteFault, TooLong, NotLegal, Exhausted, Stalled, Bad, GaveUp}
use Rattle.tp_run.specs.declared.status.Ending.{Ending}

-- all was written
abbrev pub IsWhole : Status → Type 0
IsWhole Fine = Unit {0}
IsWhole NotLegal = Unit {0}
IsWhole Exhausted = Unit {0}
IsWhole Stalled = Unit {0}
IsWhole Bad = Unit {0}
IsWhole GaveUp = Unit {0}
IsWhole _ = ⊥

-- nothing is written at any end but these
abbrev pub IsUnwritten : Status → Type 0
IsUnwritten Fine = ⊥
IsUnwritten NotLegal = ⊥
IsUnwritten Exhausted = ⊥
IsUnwritten Stalled = ⊥
IsUnwritten Bad = ⊥
IsUnwritten GaveUp = ⊥
IsUnwritten WriteFault = ⊥
IsUnwritten _ = Unit {0}

-- the end comes once the input was read to its end
abbrev pub IsBehindInput : Status → Type 0
IsBehindInput Fine = Unit {0}
IsBehindInput NotLegal = Unit {0}
IsBehindInput Exhausted = Unit {0}
IsBehindInput Stalled = Unit {0}
IsBehindInput Bad = Unit {0}
IsBehindInput GaveUp = Unit {0}
IsBehindInput WriteFault = Unit {0}
IsBehindInput (BadLine line column) = Unit {0}
IsBehindInput _ = ⊥

-- the command has an input, and it was read to its end
abbrev pub IsReadToEnd : Option Command → Status → Type 0
IsReadToEnd command status = (reads command ≡ true) × IsBehindInput status

-- one byte more than the limit of input is too long, and no more than one are taken
pub record IsWithin (status : Status) (taken : List ℕ) : Type 0 where
  pub too_long : (status ≡ TooLong) ↔ (length taken ≡ INPUT_LIMIT + 1)
  pub most : length taken ≤ INPUT_LIMIT + 1

-- the command's input, and its output for that with its ending
pub record IsAnswered (command : Option Command) (left : Option (List ℕ)) (Q : List ℕ → Ending → Type 0) : Type 0 where
  pub bytes : List ℕ
  pub output : List ℕ
  pub ending : Ending
  pub is_input : IsInput command bytes left
  pub gives : Gives command bytes output ending
  pub given : Q output ending

-- at a bad line the input has its first fault there
abbrev pub IsBadLineOf : Option Command → Option (List ℕ) → Status → Type 0
IsBadLineOf command left (BadLine line column) = (bytes : List ℕ) × IsInput command bytes left × IsFaultyAt command bytes line column
IsBadLineOf command left _ = Unit {0}

abbrev pub IsBadLine : Status → Type 0
IsBadLine (BadLine line column) = Unit {0}
IsBadLine _ = ⊥
