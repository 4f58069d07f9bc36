use Rattle.std.proofs.Common.{ap, arith}
use Rattle.kernel_events.proofs.Shown.{free}
use Rattle.kernel_events.proofs.Threads.{armed_as, armed_with, armings_with}
use Rattle.kernel_events.proofs.armings.Armings.arm.Goals as goal

pub put_last-requires-clause-free : goal.put_last-requires-clause-free
put_last-requires-clause-free c =
    let most = rw (← c.self.view_is) at c.requires.most in
    let not_armed = rw (← c.self.view_is) at c.requires.free in
    let is = free _ _ _ _ c.self.invariant c.owner-owner.ensures.owned c.args.object.0 not_armed in
    record { there = omega (arith, most, c.self.invariant.keys); in_none = is.owner }

pub put_last-requires-2-clause-free : goal.put_last-requires-2-clause-free
put_last-requires-2-clause-free c =
    let most = rw (← c.self.view_is) at c.requires.most in
    let not_armed = rw (← c.self.view_is) at c.requires.free in
    let is = free _ _ _ _ c.self.invariant c.owner-owner.ensures.owned c.args.object.0 not_armed in
    record { there = omega (arith, most, c.self.invariant.own_keys); in_none = is.own_owner }

pub invariant_of-self : goal.invariant_of-self
invariant_of-self c =
    let most = rw (← c.self.view_is) at c.requires.most in
    let not_armed = rw (← c.self.view_is) at c.requires.free in
    let is = free _ _ _ _ c.self.invariant c.owner-owner.ensures.owned c.args.object.0 not_armed in
    let kernel_most = rw (← c.self.view_is) at c.requires.kernel_most in
    rw (c.put_last.ensures.after, c.put_last-2.ensures.after) (armed_with _ _ _ _ c.self.invariant c.args.object.0 c.requires.least most c.args.kernel.0 kernel_most is.none)

pub returns : goal.returns
returns c =
    let most = rw (← c.self.view_is) at c.requires.most in
    let not_armed = rw (← c.self.view_is) at c.requires.free in
    let is = free _ _ _ _ c.self.invariant c.owner-owner.ensures.owned c.args.object.0 not_armed in
    let kernel_most = rw (← c.self.view_is) at c.requires.kernel_most in
    rw (← c.self.view_is, c.put_last.ensures.after, c.put_last-2.ensures.after)
    (ap (λ xs. armed_as c.self.inside.kernels c.self.inside.objects xs) (armings_with _ _ _ _ c.self.invariant c.args.object.0 c.requires.least most c.args.kernel.0 kernel_most is.none))
