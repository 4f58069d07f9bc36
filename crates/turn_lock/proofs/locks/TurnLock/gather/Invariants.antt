use Rattle.turn_lock.proofs.Gathering.{Gathering}
use Rattle.turn_lock.proofs.locks.TurnLock.gather.Given as goal

abbrev pub invariant-loop-other : goal.invariant-loop-other
invariant-loop-other g l = Gathering l.fn.self l.raw l.fn.first l.fn.others.items l.others.items

abbrev pub decreases-loop-other : goal.decreases-loop-other
decreases-loop-other g l = goal.left-loop-other g l
