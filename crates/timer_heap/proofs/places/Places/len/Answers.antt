use Rattle.std.proofs.Common.{arith}
use Rattle.timer_heap.proofs.Held.{limited}
use Rattle.timer_heap.proofs.places.Places.len.Goals as goal

pub overflow_cast-result : goal.overflow_cast-result
overflow_cast-result c = omega (arith, c.len.ensures, limited _ _ _ _ _ c.self.invariant, c.self.invariant.made, c.self.invariant.fits)

pub returns-clause-limited : goal.returns-clause-limited
returns-clause-limited c = rw (← c.self.view_is) (limited _ _ _ _ _ c.self.invariant)
