-- Notices in memory.
use Rattle.std.specs.Prelude.{ℕ, List}
use Rattle.shared_pool.specs.declared.notices.Told.{Told}

-- what was told, and how many more there is room for
pub record Noted : Type 0 where
  pub told : List Told
  pub spare : ℕ
