-- What comes of the calls that wait: each begins a wait, and makes End until that is over.
use Rattle.std.specs.Prelude.{◌≡◌, ℕ, ◌+◌, Bool, true, false, List, [], ◌∷◌, ◌++◌, length, map, Option, Some, None}
use Rattle.tp_base.specs.declared.answers.Answer.{Answer}
use Rattle.tp_base.specs.declared.answers.Answer.TheVariants as answer
use Rattle.tp_base.specs.declared.answers.Entry.{Entry}
use Rattle.tp_base.specs.declared.answers.Outcome.{Outcome}
use Rattle.tp_base.specs.declared.answers.Outcome.TheVariants as outcome
use Rattle.tp_base.specs.declared.calls.Call.{Call}
use Rattle.tp_base.specs.declared.calls.Call.TheVariants.{BeginAcquire, BeginClose, BeginWait, End}
use Rattle.tp_model.specs.History.{is_refusal, IsLegal}
use Rattle.tp_model.specs.Laws.{KeepsLaws}
use Rattle.tp_model.specs.Laws.Covered.{IsCovered}
use Rattle.tp_model.specs.Laws.Entries.{Begins, begins_by, Notice}
use Rattle.tp_model.specs.Laws.Notices.{notices_due}
use Rattle.tp_model.specs.Stages.{waits_from, waits_step, IsActor}
use Rattle.turn_lock.specs.declared.seats.Seat.{Seat}
use Rattle.turn_lock.specs.Histories.{own, StartsWith}
use Rattle.turn_lock.specs.Seats.{seen_of, mine_of, setup_in, actor_in, IsIdle, Same}
use Rattle.shared_pool.specs.declared.notices.Told.{Told}
use Rattle.shared_pool.specs.Calls.{comes_to, entry_of, HasCalled, HasLookedFor}

-- what was told of an object is a notice of the machine
abbrev pub notice_told : Told → Notice
notice_told t = record { object = t.object; routine = t.routine; context = t.context; cleanup = t.cleanup }

-- what is told in all, where it was told these besides
abbrev pub with_told : List Told → Option (List Told) → Option (List Told)
with_told more None = None
with_told more (Some held) = Some (held ++ more)

-- the call was accepted or refused, and not refused
abbrev pub is_accepted : Outcome → Bool
is_accepted (outcome.Done (answer.Refused refusal)) = false
is_accepted (outcome.Done _) = true
is_accepted _ = false

-- the call begins a wait
abbrev pub is_begin : Call → Bool
is_begin (BeginWait kind object cancel) = true
is_begin (BeginClose group cancel context) = true
is_begin (BeginAcquire kernel) = true
is_begin _ = false

module _ {B : Type 0} where
  -- the entry of an End that gave this notice
  abbrev pub notice_entry : Seat B → Told → Entry
  notice_entry seat t = entry_of seat End (answer.Notice t.object t.routine t.context t.cleanup)

  -- the seat's actor is one of the machine's, and has a wait begun, as its own entries tell
  pub record IsInWait (seat : Seat B) : Type 0 where
    pub actor : IsActor (setup_in seat).limits (actor_in seat)
    pub begun : waits_from false (mine_of seat) ≡ true

  -- it has looked, as often as it may be, and has made nothing
  pub record HasStayed (a b : Seat B) : Type 0 where
    pub same : Same a b
    pub idle : IsIdle b
    pub seen : StartsWith (seen_of b) (seen_of a)
    pub mine : mine_of b ≡ mine_of a

  -- the call has begun a wait, behind a history that begins with what had been seen; the wait has given these notices and
  -- goes on
  pub record IsWaiting (begin : Call) (told : List Told) (a b : Seat B) : Type 0 where
    pub same : Same a b
    pub idle : IsIdle b
    pub in_wait : IsInWait b
    pub before : List Entry
    pub since : StartsWith before (seen_of a)
    pub legal_before : IsLegal (setup_in b).limits (setup_in b).capacity before
    pub begun : Answer
    pub came : comes_to b before begin ≡ outcome.Done begun
    pub begins : waits_step begun begin ≡ Some true
    pub accepted : is_refusal begun ≡ false
    pub between : List Entry
    pub seen : seen_of b ≡ before ++ entry_of b begin begun ∷ between
    pub own_before : mine_of a ≡ own (actor_in b) before
    pub own_between : own (actor_in b) between ≡ map (notice_entry b) told
    pub mine : mine_of b ≡ mine_of a ++ entry_of b begin begun ∷ map (notice_entry b) told
    pub laws : KeepsLaws (setup_in b).limits (seen_of b)

  -- the same, and its last End has this answer: that is the last entry that is seen, and the seat's last one
  pub record IsAnswered (begin : Call) (told : List Told) (last : Answer) (a b : Seat B) : Type 0 where
    pub same : Same a b
    pub idle : IsIdle b
    pub before : List Entry
    pub since : StartsWith before (seen_of a)
    pub legal_before : IsLegal (setup_in b).limits (setup_in b).capacity before
    pub begun : Answer
    pub came : comes_to b before begin ≡ outcome.Done begun
    pub begins : waits_step begun begin ≡ Some true
    pub accepted : is_refusal begun ≡ false
    pub between : List Entry
    pub seen : seen_of b ≡ (before ++ entry_of b begin begun ∷ between) ++ entry_of b End last ∷ []
    pub own_before : mine_of a ≡ own (actor_in b) before
    pub own_between : own (actor_in b) between ≡ map (notice_entry b) told
    pub mine : mine_of b ≡ mine_of a ++ entry_of b begin begun ∷ (map (notice_entry b) told ++ entry_of b End last ∷ [])
    pub laws : KeepsLaws (setup_in b).limits (seen_of b)

  -- what a wait for callbacks that has ended freely leaves: of the callbacks that it was for each one that was taken has been
  -- let go, and however the history goes on, none of them is taken later; and each notice that was due was given, in order
  pub record IsFreed (begun : Begins) (told : List Told) (before : List Entry) (begin : Entry) (between : List Entry) (b : Seat B) : Type 0 where
    pub covered : (later : List Entry) → IsLegal (setup_in b).limits (setup_in b).capacity (seen_of b ++ later) → IsCovered begun before begin between later
    pub noticed : map notice_told told ≡ notices_due begun before

  -- the wait is over
  pub record IsWaitOver (begin : Call) (told : List Told) (last : Answer) (a b : Seat B) : Type 0 where
    pub answered : IsAnswered begin told last a b
    pub freed : last ≡ answer.Ended → (w : Begins) → begins_by (entry_of b begin answered.begun) ≡ Some w
        → IsFreed w told answered.before (entry_of b begin answered.begun) answered.between b

  -- the call was refused, or the history had no room for it: no wait was begun
  abbrev pub IsUnbegun : Call → Outcome → Seat B → Seat B → Type 0
  IsUnbegun begin (outcome.Done (answer.Refused refusal)) a b = HasCalled begin (answer.Refused refusal) a b
  IsUnbegun begin (outcome.Full room cost) a b = HasLookedFor begin (outcome.Full room cost) a b
  IsUnbegun begin _ a b = ⊥

  -- what a call that waits comes to, and the notices that its wait has given
  abbrev pub HasWaitedFor : Call → List Told → Outcome → Seat B → Seat B → Type 0
  HasWaitedFor begin told (outcome.Done answer.Ended) a b = IsWaitOver begin told answer.Ended a b
  HasWaitedFor begin told (outcome.Done answer.Exhausted) a b = IsWaitOver begin told answer.Exhausted a b
  HasWaitedFor begin told (outcome.Done answer.Stalled) a b = IsWaitOver begin told answer.Stalled a b
  HasWaitedFor begin told came a b = IsUnbegun begin came a b × (told ≡ [])

  -- and what it has told of them, to one that had been told `was` and had room for so many more
  pub record HasClosed (begin : Call) (came : Outcome) (was now : Option (List Told)) (spare_was spare_now : ℕ) (a b : Seat B) : Type 0 where
    pub told : List Told
    pub waited : HasWaitedFor begin told came a b
    pub heard : now ≡ with_told told was
    pub spare : spare_now + length told ≡ spare_was

  -- a wait that goes on, and what has been told of its notices
  pub record IsTelling (begin : Call) (was now : Option (List Told)) (spare_was spare_now : ℕ) (a b : Seat B) : Type 0 where
    pub told : List Told
    pub waiting : IsWaiting begin told a b
    pub heard : now ≡ with_told told was
    pub spare : spare_now + length told ≡ spare_was
