-- What is seen of a machine with libraries.
use Rattle.std.specs.Prelude.{ℕ, Bool, false, ◌&&◌, ◌==◌, List, slice_index_or}
use Rattle.tp_base.specs.Ranges.{IsOutcomeInRange}
use Rattle.tp_library.specs.Shelves.{holds, Stand}
use Rattle.tp_library.specs.declared.LibAnswer.{LibAnswer}
use Rattle.tp_library.specs.declared.LibAnswer.TheVariants as answer

pub record Seen : Type 0 where
  pub stand : Stand
  -- by library: whether something held it before the last step
  pub before : List Bool

abbrev pub was_held : List Bool → ℕ → Bool
was_held before library = slice_index_or before library false

-- the last step let the library go
abbrev pub was_unloaded : Seen → ℕ → Bool
was_unloaded seen library = was_held seen.before library && (holds seen.stand library == 0)

-- the numbers of an answer are those that a line can have
abbrev pub IsLibAnswerInRange : LibAnswer → Type 0
IsLibAnswerInRange (answer.Pool outcome) = IsOutcomeInRange outcome
IsLibAnswerInRange told = Unit {0}
