-- What a call on a shared pool comes to, and what its seat then knows.
use Rattle.std.specs.Prelude.{◌≡◌, ℕ, Bool, true, false, List, [], ◌∷◌, ◌++◌}
use Rattle.tp_base.specs.declared.answers.Answer.{Answer}
use Rattle.tp_base.specs.declared.answers.Entry.{Entry}
use Rattle.tp_base.specs.declared.answers.Outcome.{Outcome}
use Rattle.tp_base.specs.declared.answers.Outcome.TheVariants as outcome
use Rattle.tp_base.specs.declared.calls.Call.{Call}
use Rattle.tp_base.specs.Ranges.{IsOutcomeInRange}
use Rattle.tp_model.specs.History.{IsLegal}
use Rattle.tp_model.specs.Laws.{KeepsLaws}
use Rattle.recorded.specs.Recordings.{is_over_behind, outcome_behind}
use Rattle.turn_lock.specs.declared.seats.Seat.{Seat}
use Rattle.turn_lock.specs.Histories.{own, StartsWith}
use Rattle.turn_lock.specs.Seats.{seen_of, mine_of, met_of, setup_in, actor_in, HasLooked, HasMet, IsIdle, Same}
use Rattle.turn_lock.specs.Views.{recording_of}
use Rattle.shared_pool.specs.declared.pool.Over.{Over}
use Rattle.shared_pool.specs.declared.pool.Over.TheVariants as over
use Rattle.shared_pool.specs.declared.pool.Tried.{Tried}
use Rattle.shared_pool.specs.declared.pool.Tried.TheVariants as tried

module _ {B : Type 0} where
  -- what a call of the seat's actor comes to behind a history
  abbrev pub comes_to : Seat B → List Entry → Call → Outcome
  comes_to seat history call = outcome_behind (recording_of (setup_in seat) history) (actor_in seat) call

  abbrev pub entry_of : Seat B → Call → Answer → Entry
  entry_of seat call answer = record { who = actor_in seat; call = call; answer = answer }

  -- the call was accepted or refused behind a history that begins with what had been seen; its entry is the last one
  -- that is seen now, and the seat's
  pub record HasCalled (call : Call) (answer : Answer) (a b : Seat B) : Type 0 where
    pub same : Same a b
    pub idle : IsIdle b
    pub before : List Entry
    pub since : StartsWith before (seen_of a)
    pub legal_before : IsLegal (setup_in b).limits (setup_in b).capacity before
    pub own_before : mine_of a ≡ own (actor_in b) before
    pub came : comes_to b before call ≡ outcome.Done answer
    pub seen : seen_of b ≡ before ++ entry_of b call answer ∷ []
    pub mine : mine_of b ≡ mine_of a ++ entry_of b call answer ∷ []
    pub laws : KeepsLaws (setup_in b).limits (seen_of b)
    pub in_range : IsOutcomeInRange (outcome.Done answer)

  -- nothing happened, as the call comes to a look or Full behind the history that is seen now
  pub record HasLookedFor (call : Call) (told : Outcome) (a b : Seat B) : Type 0 where
    pub same : Same a b
    pub idle : IsIdle b
    pub seen : StartsWith (seen_of b) (seen_of a)
    pub mine : mine_of b ≡ mine_of a
    pub came : comes_to b (seen_of b) call ≡ told
    pub laws : KeepsLaws (setup_in b).limits (seen_of b)
    pub in_range : IsOutcomeInRange told

  -- what was seen and what was made after a call that was made
  abbrev pub HasEnded : Call → Outcome → Seat B → Seat B → Type 0
  HasEnded call (outcome.Done answer) a b = HasCalled call answer a b
  HasEnded call (outcome.Look look) a b = HasLookedFor call (outcome.Look look) a b
  HasEnded call (outcome.Full room cost) a b = HasLookedFor call (outcome.Full room cost) a b

  -- and after a try: no holder was met, or one
  abbrev pub HasTried : Call → Tried → Seat B → Seat B → Type 0
  HasTried call (tried.Done answer) a b = HasCalled call answer a b × (met_of b ≡ met_of a)
  HasTried call (tried.Look look) a b = HasLookedFor call (outcome.Look look) a b × (met_of b ≡ met_of a)
  HasTried call (tried.Full room cost) a b = HasLookedFor call (outcome.Full room cost) a b × (met_of b ≡ met_of a)
  HasTried call (tried.Busy holder) a b = HasMet holder a b

  pub record HasMetMore (a b : Seat B) : Type 0 where
    pub more : List ℕ
    pub is : met_of b ≡ met_of a ++ more

  -- some holders were met, and nothing else has changed
  pub record HasWaited (a b : Seat B) : Type 0 where
    pub same : Same a b
    pub idle : IsIdle b
    pub seen : seen_of b ≡ seen_of a
    pub mine : mine_of b ≡ mine_of a
    pub met : HasMetMore a b

  -- it has looked, and whether all is over behind the history that is seen now
  pub record IsOverAs (is_over : Bool) (a b : Seat B) : Type 0 where
    pub looked : HasLooked a b
    pub is : is_over_behind (recording_of (setup_in b) (seen_of b)) ≡ is_over

  -- after a question whether all is over: an answer, or a holder was met
  abbrev pub HasAsked : Over → Seat B → Seat B → Type 0
  HasAsked over.Yes a b = IsOverAs true a b
  HasAsked over.No a b = IsOverAs false a b
  HasAsked (over.Busy holder) a b = HasMet holder a b
