-- A seat keeps its number, whatever calls are made with it.
use Rattle.std.specs.Prelude.{◌≡◌, List}
use Rattle.tp_base.specs.declared.answers.Answer.TheVariants as answer
use Rattle.tp_base.specs.declared.answers.Outcome.{Outcome}
use Rattle.tp_base.specs.declared.answers.Outcome.TheVariants as outcome
use Rattle.tp_base.specs.declared.calls.Call.{Call}
use Rattle.shared_pool.specs.declared.notices.Told.{Told}
use Rattle.shared_pool.specs.declared.pool.Tried.{Tried}
use Rattle.shared_pool.specs.declared.pool.Tried.TheVariants as tried
use Rattle.shared_pool.specs.Calls.{HasTried}
use Rattle.shared_pool.specs.Waits.{HasWaitedFor}
use Rattle.turn_lock.specs.declared.seats.Seat.{Seat}
use Rattle.turn_lock.specs.Seats.{number_of}

module _ {B : Type 0} where
  pub number_tried : (call : Call) (told : Tried) (a b : Seat B) → HasTried call told a b → number_of b ≡ number_of a
  number_tried call (tried.Done answer) a b h = h.0.same.number
  number_tried call (tried.Look look) a b h = h.0.same.number
  number_tried call (tried.Full room cost) a b h = h.0.same.number
  number_tried call (tried.Busy holder) a b h = h.same.number

  pub number_waited : (begin : Call) (told : List Told) (came : Outcome) (a b : Seat B) → HasWaitedFor begin told came a b → number_of b ≡ number_of a
  number_waited begin told (outcome.Done answer.Ended) a b h = h.answered.same.number
  number_waited begin told (outcome.Done answer.Exhausted) a b h = h.answered.same.number
  number_waited begin told (outcome.Done answer.Stalled) a b h = h.answered.same.number
  number_waited begin told (outcome.Done (answer.Refused _)) a b h = h.0.same.number
  number_waited begin told (outcome.Done answer.Done) a b h = absurd h.0
  number_waited begin told (outcome.Done (answer.Made _)) a b h = absurd h.0
  number_waited begin told (outcome.Done (answer.Queued _ _)) a b h = absurd h.0
  number_waited begin told (outcome.Done (answer.WasSet _ _ _)) a b h = absurd h.0
  number_waited begin told (outcome.Done (answer.Flag _)) a b h = absurd h.0
  number_waited begin told (outcome.Done (answer.Closed _)) a b h = absurd h.0
  number_waited begin told (outcome.Done (answer.Closing _ _ _)) a b h = absurd h.0
  number_waited begin told (outcome.Done (answer.Begun _ _)) a b h = absurd h.0
  number_waited begin told (outcome.Done (answer.Notice _ _ _ _)) a b h = absurd h.0
  number_waited begin told (outcome.Done (answer.Started _)) a b h = absurd h.0
  number_waited begin told (outcome.Done (answer.Operation _)) a b h = absurd h.0
  number_waited begin told (outcome.Done (answer.Cancelled _)) a b h = absurd h.0
  number_waited begin told (outcome.Done (answer.Count _ _ _)) a b h = absurd h.0
  number_waited begin told (outcome.Done (answer.Advanced _ _ _)) a b h = absurd h.0
  number_waited begin told (outcome.Done (answer.Attached _)) a b h = absurd h.0
  number_waited begin told (outcome.Done (answer.Taken _ _ _ _ _)) a b h = absurd h.0
  number_waited begin told (outcome.Done (answer.Returned _ _ _ _ _ _)) a b h = absurd h.0
  number_waited begin told (outcome.Look _) a b h = absurd h.0
  number_waited begin told (outcome.Full _ _) a b h = h.0.same.number
