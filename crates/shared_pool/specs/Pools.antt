-- What contracts say of a shared pool and its seats.
use Rattle.std.specs.Prelude.{◌≡◌, ℕ, ◌+◌, ◌<◌, ◌≤◌, List, Any}
use Rattle.tp_base.specs.declared.limits.Limits.{Limits}
use Rattle.turn_lock.specs.declared.locks.TurnLock.{TurnLock}
use Rattle.turn_lock.specs.declared.seats.Seat.{Seat}
use Rattle.turn_lock.specs.declared.views.Setup.{Setup}
use Rattle.turn_lock.specs.Locks.{setup_of, IsOf}
use Rattle.turn_lock.specs.Seats.{number_of, IsIdle}
use Rattle.shared_pool.specs.declared.pool.SharedPool.{SharedPool}

-- one seat for each actor
abbrev pub pool_setup : Limits → ℕ → Setup
pool_setup limits capacity = record { limits = limits; capacity = capacity; seats = limits.clients + limits.workers }

module _ {B : Type 0} where
  abbrev pub lock_in : SharedPool B → TurnLock B
  lock_in pool = pool.lock

  -- with what the pool was opened
  abbrev pub setup_at : SharedPool B → Setup
  setup_at pool = setup_of (lock_in pool)

  -- the seat is one of this pool
  pub record IsSeatOf (pool : SharedPool B) (seat : Seat B) : Type 0 where
    pub of : IsOf (lock_in pool) seat
    pub idle : IsIdle seat

  -- and stands for an actor
  pub record IsPlayer (pool : SharedPool B) (seat : Seat B) : Type 0 where
    pub of : IsOf (lock_in pool) seat
    pub idle : IsIdle seat
    pub numbered : 0 < number_of seat

  -- each number of the pool is that of one of these seats
  abbrev pub HaveAll : SharedPool B → List (Seat B) → Type 0
  HaveAll pool seats = (number : ℕ) → 1 ≤ number → number ≤ (setup_at pool).seats → Any (λ (seat : Seat B). number_of seat ≡ number) seats
