-- Seats of a pool that come back from threads.
use Rattle.std.specs.Prelude.{◌≡◌, ◌<◌, ℕ, zero, suc, ◌∷◌, List, length, slice_index_or, Any, refl}
use Rattle.std.proofs.Common.{◌∙◌}
use mathlib.Core.Path.{ap}
use Rattle.shared_pool.specs.declared.pool.SharedPool.{SharedPool}
use Rattle.shared_pool.specs.Pools.{HaveAll}
use Rattle.turn_lock.specs.declared.seats.Seat.{Seat}
use Rattle.turn_lock.specs.Seats.{number_of}

module _ {B : Type 0} (a b c d : Seat B) (others : List (Seat B)) (first : number_of c ≡ number_of a) (second : number_of d ≡ number_of b) where
  stands : (number k : ℕ) (x : Seat B) → k < length (a ∷ b ∷ others) → slice_index_or (a ∷ b ∷ others) k x ≡ x → number_of x ≡ number
      → Any (λ (seat : Seat B). number_of seat ≡ number) (c ∷ d ∷ others)
  stands number zero x lt at is = (zero, c, lt, refl, first ∙ (ap number_of at ∙ is))
  stands number (suc zero) x lt at is = (suc zero, d, lt, refl, second ∙ (ap number_of at ∙ is))
  stands number (suc (suc k)) x lt at is = (suc (suc k), x, lt, at, is)

  -- with two seats of the same numbers in place of two, all are there
  pub have_all : (pool : SharedPool B) → HaveAll pool (a ∷ b ∷ others) → HaveAll pool (c ∷ d ∷ others)
  have_all pool all number least most =
      let (k, x, lt, at, is) = all number least most in stands number k x lt at is
