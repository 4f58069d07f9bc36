-- What is known of a reader or a writer of the standard library.
use Rattle.std.specs.Prelude.{ℕ, List, Option, None, Some}

-- its bytes, where it tells them, and the count of its faults
pub record Edge : Type 0 where
  pub bytes : Option (List ℕ)
  pub faults : ℕ

-- what it tells of its bytes now, if it told them at first: the library leaves open whether one that didn't begins to
abbrev pub told : Option (List ℕ) → Option (List ℕ) → Option (List ℕ)
told None now = None
told (Some first) now = now

-- one that told its bytes at first tells them still
abbrev pub IsTold : Option (List ℕ) → Option (List ℕ) → Type 0
IsTold None now = Unit {0}
IsTold (Some first) None = ⊥
IsTold (Some first) (Some now) = Unit {0}
