-- The seats of a shutdown's actors, and what becomes of them.
use Rattle.std.specs.Prelude.{◌≡◌, List, [], ◌∷◌}
use Rattle.shared_pool.specs.declared.pool.SharedPool.{SharedPool}
use Rattle.shared_pool.specs.Pools.{IsPlayer}
use Rattle.turn_lock.specs.declared.seats.Seat.{Seat}
use Rattle.turn_lock.specs.Seats.{number_of}
use Rattle.shutdown_by_threads.specs.declared.actors.Actors.{Actors}

module _ {B : Type 0} where
  -- the seat, which has been used, still stands for its actor on this pool
  abbrev pub Stays : SharedPool B → Seat B → Seat B → Type 0
  Stays pool a b = IsPlayer pool b × (number_of b ≡ number_of a)

  -- in the order of their numbers
  abbrev pub seats_in : Actors B → List (Seat B)
  seats_in a = a.server ∷ a.client ∷ a.first ∷ a.second ∷ []

  -- each of the seats stands for an actor of this pool
  pub record ArePlayers (pool : SharedPool B) (a : Actors B) : Type 0 where
    pub server : IsPlayer pool a.server
    pub client : IsPlayer pool a.client
    pub first : IsPlayer pool a.first
    pub second : IsPlayer pool a.second

  -- and still does so, each for its own one
  pub record AllStay (pool : SharedPool B) (a b : Actors B) : Type 0 where
    pub server : Stays pool a.server b.server
    pub client : Stays pool a.client b.client
    pub first : Stays pool a.first b.first
    pub second : Stays pool a.second b.second
