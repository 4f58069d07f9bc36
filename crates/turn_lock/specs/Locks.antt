-- What contracts say of locks.
use Rattle.std.specs.Prelude.{◌≡◌, ℕ, ◌+◌, ◌<◌, List, length, slice_index_or}
use Rattle.atomic_table.specs.Seated.{TableId}
use Rattle.turn_lock.specs.declared.locks.TurnLock.{TurnLock}
use Rattle.turn_lock.specs.declared.seats.Seat.{Seat}
use Rattle.turn_lock.specs.declared.views.Setup.{Setup}
use Rattle.turn_lock.specs.Seats.{lock_of, setup_in, IsNew}

module _ {B : Type 0} where
  -- which lock it is
  abbrev pub name_of : TurnLock B → TableId
  name_of lock = lock.table.shared.table_id

  -- with what it was made
  abbrev pub setup_of : TurnLock B → Setup
  setup_of lock = lock.table.shared.key

  -- the seat is one of this lock
  pub record IsOf (lock : TurnLock B) (seat : Seat B) : Type 0 where
    pub lock_is : lock_of seat ≡ name_of lock
    pub setup_is : setup_in seat ≡ setup_of lock

  -- the seats of a new lock, in the order of their numbers
  pub record AreDealt (lock : TurnLock B) (seats : List (Seat B)) : Type 0 where
    pub count : length seats ≡ (setup_of lock).seats
    pub each : (k : ℕ) (d : Seat B) → k < length seats → IsNew (name_of lock) (setup_of lock) (k + 1) (slice_index_or seats k d)
