-- A shelf as it is kept.
use Rattle.std.specs.Prelude.{ℕ, ◌<◌, ◌≤◌, All, List}
use Rattle.std.specs.List.{AllPairs}
use Rattle.tp_library.specs.Shelves.{Shelf}
use Rattle.tp_library.specs.Tallies.{at}
use Rattle.tp_library.specs.declared.TheConstants.{LIBRARY_LIMIT, LOAD_LIMIT}

-- a shelf, and for how many objects and simple callbacks it has room
pub record Stocked : Type 0 where
  pub shelf : Shelf
  pub objects : ℕ
  pub simple : ℕ

-- a callback with its library comes before another
abbrev pub IsBefore : (ℕ × ℕ) → (ℕ × ℕ) → Type 0
IsBefore a b = a.0 < b.0

-- no library is loaded too often, what is noted are libraries, and callbacks stand by rising number
pub record IsShelved (loads of_object : List ℕ) (of_simple : List (ℕ × ℕ)) (slotted : List ℕ) : Type 0 where
  pub most : (library : ℕ) → at loads library ≤ LOAD_LIMIT
  pub objects : (k : ℕ) → at of_object k ≤ LIBRARY_LIMIT
  pub simple : All (λ (made : ℕ × ℕ). made.1 ≤ LIBRARY_LIMIT) of_simple
  pub rising : AllPairs IsBefore of_simple
  pub slots : (k : ℕ) → at slotted k ≤ LIBRARY_LIMIT
