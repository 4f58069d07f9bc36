-- What it is to write a text in its place.
use Rattle.std.specs.Prelude.{◌≡◌, ℕ, ◌+◌, ◌≤◌, List, ◌++◌, take}

-- from an index on the text stands up to the end, of no more bytes than it has room; what was before the index stays
pub record IsPut (at : ℕ) (old : List ℕ) (end : ℕ) (new text : List ℕ) (room : ℕ) : Type 0 where
  pub split : take end new ≡ take at old ++ text
  pub least : at ≤ end
  pub most : end ≤ at + room
