-- How the number of elements that pass a test changes with one of them.
use Rattle.std.proofs.Common.{◌≡◌, ℕ, ◌+◌, ◌<◌, ◌≤◌, Bool, true, false, cond, List, [], ◌∷◌, length, get_or, set, arith, suc, zero}
use Rattle.std.specs.Prelude.{filter}
use Rattle.std.specs.Int.{from_bool}

-- an element that passes makes a list longer by one
pub length-kept : {X : Type 0} (b : Bool) (x : X) (xs : List X) → length (cond b (x ∷ xs) xs) ≡ from_bool b + length xs
length-kept true x xs = omega arith
length-kept false x xs = omega arith

from_bool_le : (b : Bool) → from_bool b ≤ 1
from_bool_le true = omega arith
from_bool_le false = omega arith

module _ {X : Type 0} (test : X → Bool) where
  -- no more pass than there are
  pub length-filter_le : (xs : List X) → length (filter test xs) ≤ length xs
  length-filter_le [] = omega arith
  length-filter_le (x ∷ xs) = omega (arith, length-kept (test x) x (filter test xs), from_bool_le (test x), length-filter_le xs)

  -- the old element no longer counts, and the new one does
  pub length-filter_set : (xs : List X) (i : ℕ) (y d : X) → i < length xs
      → length (filter test (set xs i y)) + from_bool (test (get_or xs i d)) ≡ length (filter test xs) + from_bool (test y)
  length-filter_set [] i y d within = absurd (omega arith)
  length-filter_set (x ∷ xs) zero y d within =
      omega (arith, length-kept (test x) x (filter test xs), length-kept (test y) y (filter test xs))
  length-filter_set (x ∷ xs) (suc i) y d within =
      omega (arith, length-kept (test x) x (filter test xs), length-kept (test x) x (filter test (set xs i y)), length-filter_set xs i y d (omega arith))

  -- an element of the list counts
  pub length-filter_one : (xs : List X) (i : ℕ) (d : X) → i < length xs → from_bool (test (get_or xs i d)) ≤ length (filter test xs)
  length-filter_one [] i d within = absurd (omega arith)
  length-filter_one (x ∷ xs) zero d within = omega (arith, length-kept (test x) x (filter test xs))
  length-filter_one (x ∷ xs) (suc i) d within =
      omega (arith, length-kept (test x) x (filter test xs), length-filter_one xs i d (omega arith))
