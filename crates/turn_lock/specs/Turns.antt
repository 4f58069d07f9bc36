-- What contracts say of turns.
use Rattle.std.specs.Prelude.{◌≡◌}
use Rattle.std.specs.Borrow.{Fml, GName, MutBor, RattleType, follows_so}
use mathlib.Core.Option as maybe
use Rattle.atomic_table.specs.Lent.{seat_with}
use Rattle.recorded.specs.Recordings.{Recording}
use Rattle.turn_lock.specs.contracts.seats.Seat as seat
use Rattle.turn_lock.specs.declared.locks.TurnLock.{TurnLock}
use Rattle.turn_lock.specs.declared.seats.Seat.{Seat}
use Rattle.turn_lock.specs.declared.turns.Entered.{Entered}
use Rattle.turn_lock.specs.declared.turns.Entered.TheVariants.{Held, Busy}
use Rattle.turn_lock.specs.declared.turns.Turn.{Turn}
use Rattle.turn_lock.specs.Seats.{HasEntered, HasMet}

module _ {B : Type 0} where
  -- what holds of the turn, if it was taken
  abbrev pub IfHeld : Entered B → (Turn B → Type 0) → Type 0
  IfHeld (Held turn) P = P turn
  IfHeld (Busy holder) P = Unit {0}

  abbrev pub OnHeld : Entered B → Type 0 → Type 0
  OnHeld (Held turn) P = P
  OnHeld (Busy holder) P = Unit {0}

  -- another seat held the turn, if it was not taken
  abbrev pub MetIfBusy : Entered B → Seat B → Seat B → Type 0
  MetIfBusy (Held turn) old now = Unit {0}
  MetIfBusy (Busy holder) old now = HasMet holder old now

  abbrev pub name_if_held : Entered B → maybe.Option GName
  name_if_held (Held turn) = maybe.some turn.seat.ghost_name
  name_if_held (Busy holder) = maybe.none

  -- the seat, and the turn, with this book in hand
  abbrev pub seat_with_book : Seat B → B → Seat B
  seat_with_book seat book = record { number = seat.number; raw = seat_with seat.raw 0 book }

  abbrev pub with_book : Turn B → B → Turn B
  with_book turn book = record turn { seat = record turn.seat { now = seat_with_book turn.seat.now book } }

  abbrev pub seat_at : Turn B → Seat B
  seat_at turn = turn.seat.now

  abbrev pub lock_at : Turn B → TurnLock B
  lock_at turn = turn.lock.now

  -- it is still the same turn
  pub record SameTurn (a b : Turn B) : Type 0 where
    pub reference : b.seat.ghost_name ≡ a.seat.ghost_name
    pub lock_is : lock_at b ≡ lock_at a

  -- the turn is at this lock and lends this seat, which has entered
  pub record IsTurnAt (recording : B → Recording) (lock : TurnLock B) (seat : MutBor (Seat B)) (turn : Turn B) : Type 0 where
    pub reference : turn.seat.ghost_name ≡ seat.ghost_name
    pub lock_is : lock_at turn ≡ lock
    pub entered : HasEntered recording seat.now (seat_at turn)

-- what the seat is once the borrow is over
abbrev pub RestsIfBusy : (B : RattleType) → MutBor (Seat B.Denot) → Entered B.Denot → Fml
RestsIfBusy B s r = follows_so (seat.the_row B) (seat.the_row B) s.ghost_name (name_if_held r) (λ x n. OnHeld r (n ≡ x)) (λ n. MetIfBusy r s.now n)
