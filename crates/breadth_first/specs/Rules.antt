-- What a search goes by, and what comes of moves that are made one after another.
use Rattle.std.specs.Prelude.{◌≡◌, ℕ, List, fold, if◌then◌else◌, nat_lt}
use Rattle.breadth_first.specs.declared.Next.{Next}
use Rattle.breadth_first.specs.declared.Next.TheVariants.{Nowhere, Bad, To}

-- where it begins, how many moves there are, what comes of a move of a state, and the key by which a state is known
pub record Rules (S : Type 0) : Type 0 where
  pub first : S
  pub width : ℕ
  pub after : S → ℕ → Next S
  pub key : S → List ℕ

module _ {S : Type 0} (r : Rules S) where
  -- what comes of a move; of a number that is no move nothing comes
  abbrev pub move_of : S → ℕ → Next S
  move_of s by = if nat_lt by r.width then r.after s by else Nowhere

  -- no move goes on from what is bad
  abbrev pub goes_on : Next S → ℕ → Next S
  goes_on Nowhere by = Nowhere
  goes_on Bad by = Nowhere
  goes_on (To s) by = move_of s by

  -- what comes of these moves, one after another from the first state on
  abbrev pub comes_to : List ℕ → Next S
  comes_to moves = fold goes_on (To r.first) moves

  module _ (like : S → S → Type 0) where
    -- where this comes of a move of the one state, something like it comes of some move of the other
    abbrev pub HasLike : S → Next S → Type 0
    HasLike t Nowhere = Unit {0}
    HasLike t Bad = (by : ℕ) × (move_of t by ≡ Bad)
    HasLike t (To u) = (by : ℕ) × (v : S) × (move_of t by ≡ To v) × like u v

    -- some move of t does as this move of s does
    abbrev pub Keeps : S → S → ℕ → Type 0
    Keeps s t by = HasLike t (move_of s by)
