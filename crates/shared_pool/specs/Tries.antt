-- What each call by its Win32 name asks and promises.
use Rattle.tp_base.specs.declared.calls.Call.{Call}
use Rattle.tp_base.specs.Ranges.{IsCallInRange}
use Rattle.turn_lock.specs.declared.seats.Seat.{Seat}
use Rattle.shared_pool.specs.declared.pool.SharedPool.{SharedPool}
use Rattle.shared_pool.specs.declared.pool.Tried.{Tried}
use Rattle.shared_pool.specs.Calls.{HasTried}
use Rattle.shared_pool.specs.Pools.{IsPlayer}

module _ {B : Type 0} where
  -- the seat stands for an actor, and the numbers of the call are in range
  abbrev pub MayTry : SharedPool B → Seat B → Call → Type 0
  MayTry pool seat call = IsPlayer pool seat × IsCallInRange call

  -- what `try_call` promises of the call
  abbrev pub IsTry : SharedPool B → Call → Tried → Seat B → Seat B → Type 0
  IsTry pool call told a b = IsPlayer pool b × HasTried call told a b
