use Rattle.turn_lock.specs.Locks.{name_of, setup_of}
use Rattle.turn_lock.proofs.Dealing.{Dealing}
use Rattle.turn_lock.proofs.locks.TurnLock.deal.Given as goal

abbrev pub invariant-loop-place : goal.invariant-loop-place
invariant-loop-place g l = Dealing (name_of l.fn.self) (setup_of l.fn.self) l.place l.left l.seats.items
