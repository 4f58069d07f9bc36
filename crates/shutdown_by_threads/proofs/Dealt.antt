-- The seats of a pool that its actors bring back.
use Rattle.std.specs.Prelude.{◌≡◌, ◌<◌, ℕ, zero, suc, ◌∷◌, [], List, length, slice_index_or, Any, refl}
use Rattle.std.proofs.Common.{◌∙◌}
use mathlib.Core.Path.{ap}
use Rattle.shared_pool.specs.declared.pool.SharedPool.{SharedPool}
use Rattle.shared_pool.specs.Pools.{HaveAll}
use Rattle.turn_lock.specs.declared.seats.Seat.{Seat}
use Rattle.turn_lock.specs.Seats.{number_of}
use Rattle.shutdown_by_threads.specs.declared.actors.Actors.{Actors}
use Rattle.shutdown_by_threads.specs.Seats.{seats_in, AllStay}

module _ {B : Type 0} (pool : SharedPool B) (a b : Actors B) (stay : AllStay pool a b) where
  stands : (number k : ℕ) (x : Seat B) → k < length (seats_in a) → slice_index_or (seats_in a) k x ≡ x → number_of x ≡ number
      → Any (λ (seat : Seat B). number_of seat ≡ number) (seats_in b)
  stands number zero x lt at is = (zero, b.server, lt, refl, stay.server.1 ∙ (ap number_of at ∙ is))
  stands number (suc zero) x lt at is = (suc zero, b.client, lt, refl, stay.client.1 ∙ (ap number_of at ∙ is))
  stands number (suc (suc zero)) x lt at is = (suc (suc zero), b.first, lt, refl, stay.first.1 ∙ (ap number_of at ∙ is))
  stands number (suc (suc (suc zero))) x lt at is = (suc (suc (suc zero)), b.second, lt, refl, stay.second.1 ∙ (ap number_of at ∙ is))
  stands number (suc (suc (suc (suc k)))) x lt at is = (suc (suc (suc (suc k))), x, lt, at, is)

  -- all of the pool's are there again
  pub have_all : HaveAll pool (seats_in a) → HaveAll pool (seats_in b)
  have_all all number least most =
      let (k, x, lt, at, is) = all number least most in stands number k x lt at is
