use Rattle.std.proofs.Common.{arith, refl}
use Rattle.timer_heap.proofs.Held.{placed_reached}
use Rattle.timer_heap.proofs.places.Places.reach.Goals as goal

pub fill_to-requires : goal.fill_to-requires
fill_to-requires c = omega (arith, rw (← c.self.view_is) at c.requires, c.self.invariant.noted)

pub invariant_of-self : goal.invariant_of-self
invariant_of-self c =
    rw c.fill_to.ensures.capacity
    (placed_reached _ _ _ _ _ c.self.invariant _ (omega (arith, c.fill_to.ensures.many, c.self.invariant.made, rw (← c.self.view_is) at c.requires)) c.fill_to.ensures.same)

pub returns : goal.returns
returns c = rw (← c.self.view_is, c.fill_to.ensures.many) refl
