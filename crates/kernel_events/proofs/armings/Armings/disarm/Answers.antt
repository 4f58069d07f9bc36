use Rattle.std.proofs.Common.{◌+◌, ap, arith, refl, sym}
use Rattle.linked_lists.specs.Linked.{owner_of}
use Rattle.kernel_events.proofs.Rows.{without_none}
use Rattle.kernel_events.proofs.Shown.{held, not_held}
use Rattle.kernel_events.proofs.Threads.{armed_as, armings_without, disarmed}
use Rattle.kernel_events.proofs.armings.Armings.disarm.Goals as goal

pub returns-then-owner-ne0-clause-was : goal.returns-then-owner-ne0-clause-was
returns-then-owner-ne0-clause-was c =
    let none = not_held _ _ _ _ c.self.invariant c.owner.ensures.owned c.args.object.0 _ c.owner.ensures.value c.if-owner-ne0.true in
    rw (← c.self.view_is) (sym none)

pub returns-then-owner-ne0-clause-after : goal.returns-then-owner-ne0-clause-after
returns-then-owner-ne0-clause-after c =
    let none = not_held _ _ _ _ c.self.invariant c.owner.ensures.owned c.args.object.0 _ c.owner.ensures.value c.if-owner-ne0.true in
    rw (← c.self.view_is) (ap (λ xs. armed_as c.self.inside.kernels c.self.inside.objects xs) (sym (without_none c.args.object.0 _ none)))

pub take_out-requires-2 : goal.take_out-requires-2
take_out-requires-2 c =
    let is = held _ _ _ _ c.self.invariant c.owner.ensures.owned c.args.object.0 _ c.owner.ensures.value c.if-owner-ne0.false in
    omega (arith, is.own_owner, c.self.invariant.own_lists)

pub invariant_of-self : goal.invariant_of-self
invariant_of-self c =
    let is = held _ _ _ _ c.self.invariant c.owner.ensures.owned c.args.object.0 _ c.owner.ensures.value c.if-owner-ne0.false in
    rw (c.take_out.ensures.after, c.take_out-2.ensures.after, is.owner)
    (disarmed _ _ _ _ c.self.invariant c.args.object.0 is.least is.most (owner_of c.self.inside.own c.args.object.0) is.own_owner refl)

pub returns-clause-was : goal.returns-clause-was
returns-clause-was c =
    let is = held _ _ _ _ c.self.invariant c.owner.ensures.owned c.args.object.0 _ c.owner.ensures.value c.if-owner-ne0.false in
    rw (← c.self.view_is) (sym is.armed)

pub returns-clause-after : goal.returns-clause-after
returns-clause-after c =
    let is = held _ _ _ _ c.self.invariant c.owner.ensures.owned c.args.object.0 _ c.owner.ensures.value c.if-owner-ne0.false in
    rw (← c.self.view_is, c.take_out.ensures.after, c.take_out-2.ensures.after, is.owner)
    (ap (λ xs. armed_as c.self.inside.kernels c.self.inside.objects xs) (armings_without _ _ _ _ c.self.invariant c.args.object.0 is.least is.most (owner_of c.self.inside.own c.args.object.0) is.own_owner refl))
