-- Numbers that are filled on use: what a contract sees of `Filled`, and what it keeps between calls.
use Rattle.std.specs.Prelude.{ℕ, ◌≤◌, List, length, slice_index_or}
use Rattle.linked_lists.specs.Nodes.{each}

-- all the numbers, the one that those have that were never set, and how many are filled
pub record Padded : Type 0 where
  pub fill : ℕ
  pub filled : ℕ
  pub items : List ℕ

abbrev pub padded : ℕ → ℕ → List ℕ → Padded
padded room fill items = record { fill = fill; filled = length items; items = each room (λ i. slice_index_or items i fill) }

-- there is memory for all
pub record IsReserved (room capacity : ℕ) (items : List ℕ) : Type 0 where
  pub within : length items ≤ room
  pub reserved : room ≤ capacity
