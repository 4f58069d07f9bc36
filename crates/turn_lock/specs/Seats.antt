-- What contracts say of seats.
use Rattle.std.specs.Prelude.{◌≡◌, ℕ, zero, suc, ◌<◌, true, false, List, [], ◌∷◌, ◌++◌, All, Contains}
use Rattle.atomic_table.specs.Seated.{TableId}
use Rattle.atomic_table.specs.declared.shared.Seat.{Seat as Raw}
use Rattle.tp_base.specs.declared.answers.Entry.{Entry}
use Rattle.tp_base.specs.declared.ids.Who.{Who}
use Rattle.tp_model.specs.History.{IsLegal}
use Rattle.recorded.specs.Recordings.{Recording}
use Rattle.turn_lock.specs.declared.seats.Seat.{Seat}
use Rattle.turn_lock.specs.declared.views.Part.{Part}
use Rattle.turn_lock.specs.declared.views.Setup.{Setup}
use Rattle.turn_lock.specs.declared.views.View.{View}
use Rattle.turn_lock.specs.Histories.{actor_of, own, StartsWith}
use Rattle.turn_lock.specs.Rule.{IsAnother, IsSeated}
use Rattle.turn_lock.specs.Views.{part, recording_of}

abbrev pub mine_in : List Part → List Entry
mine_in [] = []
mine_in (p ∷ parts) = p.mine

-- what a seat of a number stands for; number 0 stands for nobody
abbrev pub parts_of : ℕ → List Entry → List Part
parts_of zero mine = []
parts_of (suc number) mine = part (suc number) mine ∷ []

module _ {B : Type 0} where
  -- which lock it is of
  abbrev pub lock_of : Seat B → TableId
  lock_of seat = seat.raw.table_id

  -- with what that lock was made
  abbrev pub setup_in : Seat B → Setup
  setup_in seat = seat.raw.me.0.setup

  -- the history, as far as it was seen
  abbrev pub seen_of : Seat B → List Entry
  seen_of seat = seat.raw.me.0.seen

  -- the entries that were made by it
  abbrev pub mine_of : Seat B → List Entry
  mine_of seat = mine_in seat.raw.me.0.parts

  -- the holders that were found where it tried to take the turn
  abbrev pub met_of : Seat B → List ℕ
  met_of seat = seat.raw.me.0.met

  abbrev pub number_of : Seat B → ℕ
  number_of seat = seat.number

  -- for whom it stands
  abbrev pub actor_in : Seat B → Who
  actor_in seat = actor_of (setup_in seat).limits seat.number

  -- what it has seen is legal, and has of its actor the entries that were made by it
  pub record IsInformed (seat : Seat B) : Type 0 where
    pub legal : IsLegal (setup_in seat).limits (setup_in seat).capacity (seen_of seat)
    pub own_is : 0 < seat.number → mine_of seat ≡ own (actor_in seat) (seen_of seat)

  -- it stands for its number alone, and no other seat has taken it in
  pub record IsWhole (seat : Seat B) : Type 0 where
    pub parts : seat.raw.me.0.parts ≡ parts_of seat.number (mine_of seat)
    pub there : seat.raw.me.0.spent ≡ false
    pub informed : IsInformed seat

  -- it doesn't hold the turn
  pub record IsIdle (seat : Seat B) : Type 0 where
    pub whole : IsWhole seat
    pub carries : seat.raw.me.1 ≡ []
    pub holds : seat.raw.me.0.holds ≡ false

  -- it holds the turn, with this book in hand
  pub record IsAtTurn (seat : Seat B) (book : B) : Type 0 where
    pub whole : IsWhole seat
    pub carries : seat.raw.me.1 ≡ (0, book) ∷ []
    pub holds : seat.raw.me.0.holds ≡ true

  -- it is the same seat
  pub record Same (a b : Seat B) : Type 0 where
    pub lock : lock_of b ≡ lock_of a
    pub number : b.number ≡ a.number
    pub setup : setup_in b ≡ setup_in a

  -- it has seen the history so far, and nothing else of it has changed
  pub record HasLooked (a b : Seat B) : Type 0 where
    pub same : Same a b
    pub idle : IsIdle b
    pub seen : StartsWith (seen_of b) (seen_of a)
    pub mine : mine_of b ≡ mine_of a
    pub met : met_of b ≡ met_of a

  -- it has taken the turn: it has seen the whole history, and the book in hand has that
  pub record HasEntered (recording : B → Recording) (a b : Seat B) : Type 0 where
    pub same : Same a b
    pub book : B
    pub at_turn : IsAtTurn b book
    pub recorded : recording book ≡ recording_of (setup_in b) (seen_of b)
    pub seen : StartsWith (seen_of b) (seen_of a)
    pub mine : mine_of b ≡ mine_of a
    pub met : met_of b ≡ met_of a

  -- another seat held the turn
  pub record HasMet (holder : ℕ) (a b : Seat B) : Type 0 where
    pub same : Same a b
    pub idle : IsIdle b
    pub seen : seen_of b ≡ seen_of a
    pub mine : mine_of b ≡ mine_of a
    pub met : met_of b ≡ met_of a ++ holder ∷ []
    pub other : IsAnother (setup_in a) a.number holder

  -- a seat that has seen as much as this one, and stands for nobody
  pub record IsCopy (seat copy : Seat B) : Type 0 where
    pub lock : lock_of copy ≡ lock_of seat
    pub setup : setup_in copy ≡ setup_in seat
    pub number : copy.number ≡ 0
    pub idle : IsIdle copy
    pub seen : seen_of copy ≡ seen_of seat
    pub mine : mine_of copy ≡ []
    pub met : met_of copy ≡ []

  -- the book's history begins with what the seat has seen, and has of its actor the entries that were made by it
  pub record IsLast (last : Recording) (seat : Seat B) : Type 0 where
    pub limits : last.limits ≡ (setup_in seat).limits
    pub capacity : last.capacity ≡ (setup_in seat).capacity
    pub seen : StartsWith last.history (seen_of seat)
    pub mine : 0 < seat.number → mine_of seat ≡ own (actor_in seat) last.history
    pub legal : IsLegal last.limits last.capacity last.history
    pub seated : All (λ (entry : Entry). IsSeated (setup_in seat) entry.who) last.history

  -- a seat that has taken in this one, and looked since
  pub record IsGathered (raw : Raw B View) (seat : Seat B) : Type 0 where
    pub setup : setup_in seat ≡ raw.me.0.setup
    pub seen : StartsWith raw.me.0.seen (seen_of seat)
    pub part_there : 0 < seat.number → Contains raw.me.0.parts (part seat.number (mine_of seat))

  -- the book has one entry more than the seat has seen, made by the seat's actor
  pub record IsWritten (recording : B → Recording) (seat : Seat B) (book : B) (entry : Entry) : Type 0 where
    pub at_turn : IsAtTurn seat book
    pub who : entry.who ≡ actor_in seat
    pub recorded : recording book ≡ recording_of (setup_in seat) (seen_of seat ++ entry ∷ [])

  -- the entry is the history's last, and the seat's
  pub record HasAppended (book : B) (entry : Entry) (a b : Seat B) : Type 0 where
    pub same : Same a b
    pub at_turn : IsAtTurn b book
    pub seen : seen_of b ≡ seen_of a ++ entry ∷ []
    pub mine : mine_of b ≡ mine_of a ++ entry ∷ []
    pub met : met_of b ≡ met_of a

  -- the book has what the seat has seen
  pub record IsToldWhole (recording : B → Recording) (seat : Seat B) (book : B) : Type 0 where
    pub at_turn : IsAtTurn seat book
    pub recorded : recording book ≡ recording_of (setup_in seat) (seen_of seat)

  -- the turn is over
  pub record HasLeft (a b : Seat B) : Type 0 where
    pub same : Same a b
    pub idle : IsIdle b
    pub seen : seen_of b ≡ seen_of a
    pub mine : mine_of b ≡ mine_of a
    pub met : met_of b ≡ met_of a

  -- a seat of a new lock
  pub record IsNew (lock : TableId) (setup : Setup) (number : ℕ) (seat : Seat B) : Type 0 where
    pub lock_is : lock_of seat ≡ lock
    pub setup_is : setup_in seat ≡ setup
    pub number_is : seat.number ≡ number
    pub idle : IsIdle seat
    pub seen : seen_of seat ≡ []
    pub mine : mine_of seat ≡ []
    pub met : met_of seat ≡ []
