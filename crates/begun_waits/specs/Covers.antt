-- What the waits that actors began cover: what a contract sees of `Covers`, and how it is kept.
use Rattle.std.specs.Prelude.{◌≡◌, ℕ, ◌≤◌, Bool, nat_le, List, [], length, slice_index_or, slice_set, vec_capacity, Option, None, Some}
use Rattle.std.specs.Global.{Vec}
use Rattle.std.specs.List.{AllByRecursion}
use Rattle.tp_model.specs.Laws.Entries.{is_among}

-- how long a list may become; and by the place of an actor the number up to which its wait covers what is outstanding, or
-- else the numbers that it covers
pub record Covering : Type 0 where
  pub room : ℕ
  pub bounds : List (Option ℕ)
  pub listed : List (List ℕ)

abbrev pub bound_of : Covering → ℕ → Option ℕ
bound_of covers place = slice_index_or covers.bounds place None

abbrev pub listed_of : Covering → ℕ → List ℕ
listed_of covers place = slice_index_or covers.listed place []

-- whether a callback of this number, which is outstanding, is covered
abbrev pub covers : Option ℕ → List ℕ → ℕ → Bool
covers None listed number = is_among number listed
covers (Some last) listed number = nat_le number last

abbrev pub with_cover : Covering → ℕ → Option ℕ → List ℕ → Covering
with_cover old place bound numbers = record old { bounds = slice_set old.bounds place bound; listed = slice_set old.listed place numbers }

-- there is a list for each actor, and it has room
pub record HaveRoom (room : ℕ) (bounds : List (Option ℕ)) (lists : List (Vec ℕ)) : Type 0 where
  pub many : length lists ≡ length bounds
  pub reserved : AllByRecursion (λ v. room ≤ vec_capacity v) lists
