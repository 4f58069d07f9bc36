-- Lines for which memory was taken beforehand.
use Rattle.std.specs.Prelude.{ℕ, List}

pub record Reserved : Type 0 where
  pub text : List ℕ
  -- for how many more lines of entries there is memory
  pub room : ℕ
