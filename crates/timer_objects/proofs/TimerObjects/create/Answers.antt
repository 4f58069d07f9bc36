use Rattle.std.proofs.Common.{◌+◌, true, refl, arith}
use Rattle.timer_objects.proofs.Kept.{kept_created}
use Rattle.timer_objects.proofs.Padding.{padded_more, padded_set}
use Rattle.timer_objects.proofs.TimerObjects.create.Goals as goal

pub fill_to-requires : goal.fill_to-requires
fill_to-requires c =
    let most = rw (← c.self.view_is) at c.requires.most in
    omega (arith, most, c.self.invariant.numbered)

pub index_mut-requires : goal.index_mut-requires
index_mut-requires c = omega (arith, c.fill_to.ensures.many)

pub invariant_of-self : goal.invariant_of-self
invariant_of-self c =
    let most = rw (← c.self.view_is) at c.requires.most in
    rw c.fill_to.ensures.capacity
    (kept_created _ _ _ _ _ c.args.object.0 c.fill_to.new.items.items c.self.invariant c.requires.least (omega (arith, c.fill_to.ensures.many)) (omega (arith, most, c.fill_to.ensures.many, c.self.invariant.places)) c.fill_to.ensures.same)

pub returns : goal.returns
returns c =
    let i = c.self.inside in
    let most = rw (← c.self.view_is) at c.requires.most in
    let more = padded_more (i.dues.keys + 1) i.there.items c.fill_to.new.items.items c.self.invariant.places (omega (arith, most, c.fill_to.ensures.many, c.self.invariant.places)) c.fill_to.ensures.same in
    let entered = padded_set (i.dues.keys + 1) c.fill_to.new.items.items c.args.object.0 true (omega (arith, c.fill_to.ensures.many)) in
    rw (← c.self.view_is) (rw (entered, more) refl)
