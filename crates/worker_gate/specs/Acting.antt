-- What a turn of an actor with a seat comes to.
use Rattle.std.specs.Prelude.{◌≡◌, ℕ, ◌<◌, ◌≤◌, Bool, true, false, [], ◌∷◌, ◌++◌, ◌⊎◌, length, max}
use Rattle.tp_base.specs.declared.answers.Answer.{Answer}
use Rattle.tp_base.specs.declared.answers.Outcome.{Outcome}
use Rattle.tp_base.specs.declared.answers.Outcome.TheVariants as outcome
use Rattle.tp_base.specs.declared.calls.Call.{Call}
use Rattle.tp_model.specs.Stages.{is_in_part, is_over_stage}
use Rattle.recorded.specs.Recordings.{is_over_behind}
use Rattle.turn_lock.specs.declared.seats.Seat.{Seat}
use Rattle.turn_lock.specs.Histories.{StartsWith}
use Rattle.turn_lock.specs.Seats.{met_of, mine_of, seen_of, setup_in, Same}
use Rattle.turn_lock.specs.Views.{recording_of}
use Rattle.shared_pool.specs.declared.pool.Over.{Over}
use Rattle.shared_pool.specs.declared.pool.Over.TheVariants as over
use Rattle.shared_pool.specs.declared.pool.SharedPool.{SharedPool}
use Rattle.shared_pool.specs.Calls.{comes_to, entry_of}
use Rattle.shared_pool.specs.Pools.{IsPlayer}
use Rattle.worker_gate.specs.declared.actor.Actor.{Actor}
use Rattle.worker_gate.specs.declared.role.Role.{Role}
use Rattle.worker_gate.specs.declared.role.Turn.{Turn}
use Rattle.worker_gate.specs.declared.role.Turn.TheVariants.{Moved, Waiting, Ended}
use Rattle.part_places.specs.Places.{Given}
use Rattle.worker_gate.specs.Roles.{due_of, IsOf}

abbrev pub is_held_up : Outcome → Bool
is_held_up (outcome.Done answer) = false
is_held_up (outcome.Look look) = true
is_held_up (outcome.Full room cost) = true

module _ {B : Type 0} where
  abbrev pub seat_in : Actor B → Seat B
  seat_in a = a.seat

  abbrev pub role_in : Actor B → Role
  role_in a = a.role

  abbrev pub has_ended : Actor B → Bool
  has_ended a = a.role.ended

  -- how many entries it has made, and how many there can be at most: clients can finish where there is no more room
  abbrev pub made_by : Actor B → ℕ
  made_by a = length (mine_of a.seat)

  abbrev pub most_of : Actor B → ℕ
  most_of a = max (setup_in a.seat).capacity (setup_in a.seat).limits.clients

  -- it is one of this pool, and its entries are calls of these routines
  pub record IsReady (g : Given) (pool : SharedPool B) (a : Actor B) : Type 0 where
    pub player : IsPlayer pool a.seat
    pub of : IsOf g (setup_in a.seat).limits (setup_in a.seat).capacity (seen_of a.seat) (mine_of a.seat) a.role

  -- it is the same actor, which may have seen and met more
  pub record GoesOn (a b : Actor B) : Type 0 where
    pub same : Same a.seat b.seat
    pub who_is : b.role.who ≡ a.role.who
    pub starts : StartsWith (seen_of b.seat) (seen_of a.seat)
    pub mine_more : StartsWith (mine_of b.seat) (mine_of a.seat)
    pub met_more : length (met_of a.seat) ≤ length (met_of b.seat)

  -- the call that is due, where the mark is this
  abbrev pub due_by : Given → Actor B → Bool → Call
  due_by g a marked = due_of g a.role.who a.role.place marked

  -- behind what `b` has seen, a call comes to a look or Full
  abbrev pub holds_up : Actor B → Call → Bool
  holds_up b made = is_held_up (comes_to b.seat (seen_of b.seat) made)

  abbrev pub HasMet : Actor B → Actor B → Type 0
  HasMet a b = length (met_of a.seat) < length (met_of b.seat)

  -- it can make a call: it isn't known to have ended, and is no client that has finished
  pub record MayPlay (a : Actor B) : Type 0 where
    pub going : a.role.ended ≡ false
    pub not_over : is_over_stage a.role.place.stage ≡ false

  -- what is known of the seat, behind the question whether it makes no further call
  pub record HasSeenMore (a b : Actor B) : Type 0 where
    pub same : Same a.seat b.seat
    pub starts : StartsWith (seen_of b.seat) (seen_of a.seat)
    pub mine : mine_of b.seat ≡ mine_of a.seat

  -- why it makes no further call: it was known to make none, it is a client that has finished, or it runs nothing and all
  -- is over behind what `b` has seen
  abbrev pub NeedsNoTurn : Actor B → Actor B → Type 0
  NeedsNoTurn a b = (a.role.ended ≡ true) ⊎ ((is_over_stage a.role.place.stage ≡ true) ⊎ ((is_in_part a.role.place.stage ≡ false) × (is_over_behind (recording_of (setup_in b.seat) (seen_of b.seat)) ≡ true)))

  -- it makes none; it may make one; or another seat had the turn
  abbrev pub HasAskedOver : Over → Actor B → Actor B → Type 0
  HasAskedOver over.Yes a b = HasSeenMore a b × (met_of b.seat ≡ met_of a.seat) × NeedsNoTurn a b
  HasAskedOver over.No a b = HasSeenMore a b × (met_of b.seat ≡ met_of a.seat) × MayPlay a
  HasAskedOver (over.Busy holder) a b = HasSeenMore a b × HasMet a b × MayPlay a

  -- the due call became an entry
  pub record HasMoved (g : Given) (a b : Actor B) : Type 0 where
    pub may : MayPlay a
    pub answer : Answer
    pub mine : mine_of b.seat ≡ mine_of a.seat ++ entry_of a.seat (due_by g a a.role.marked) answer ∷ []
    pub within : made_by b ≤ most_of b

  -- another seat had the turn, or nothing came of the due call yet
  pub record HasWaited (g : Given) (a b : Actor B) : Type 0 where
    pub may : MayPlay a
    pub mine : mine_of b.seat ≡ mine_of a.seat
    pub place : b.role.place ≡ a.role.place
    pub cause : HasMet a b ⊎ (holds_up b (due_by g a a.role.marked) ≡ true)

  -- it has made its last call
  pub record HasEnded (a b : Actor B) : Type 0 where
    pub mine : mine_of b.seat ≡ mine_of a.seat
    pub ended : b.role.ended ≡ true
    pub rests : is_in_part b.role.place.stage ≡ false
    pub why : NeedsNoTurn a b

  abbrev pub Said : Given → Actor B → Actor B → Turn → Type 0
  Said g a b Moved = HasMoved g a b
  Said g a b Waiting = HasWaited g a b
  Said g a b Ended = HasEnded a b
