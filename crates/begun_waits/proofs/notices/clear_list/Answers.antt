use Rattle.std.proofs.Common.{◌==◌, arith, filter, length, not, sym, ◌∙◌}
use Rattle.linked_lists.specs.Linked.{list_of}
use Rattle.begun_waits.proofs.Noticed.{all_cleared, clearing_first, clearing_more, clears, first_is}
use Rattle.begun_waits.proofs.notices.clear_list.Goals as goal

pub loop-object-init : goal.loop-object-init
loop-object-init c = clearing_first c.args.lists.now c.args.list

pub first-requires : goal.first-requires
first-requires c = omega (arith, c.requires, c.loop-object.invariant.many)

pub take_out-requires : goal.take_out-requires
take_out-requires c =
    let first = first_is c.loop-object.lists c.args.list c.in-Some.object (omega (arith, c.requires, c.loop-object.invariant.many)) c.first.ensures.owned (sym c.in-Some.is ∙ c.first.ensures.value) in
    omega (arith, first.owner, c.requires, c.loop-object.invariant.many)

pub loop-object-smaller : goal.loop-object-smaller
loop-object-smaller c =
    let first = first_is c.loop-object.lists c.args.list c.in-Some.object (omega (arith, c.requires, c.loop-object.invariant.many)) c.first.ensures.owned (sym c.in-Some.is ∙ c.first.ensures.value) in
    rw (c.take_out.ensures.after, first.owner) (clears c.loop-object.lists c.args.list c.in-Some.object (length c.loop-object.lists.lists) (omega (arith, c.requires, c.loop-object.invariant.many)) first)

pub loop-object-preserved : goal.loop-object-preserved
loop-object-preserved c =
    let first = first_is c.loop-object.lists c.args.list c.in-Some.object (omega (arith, c.requires, c.loop-object.invariant.many)) c.first.ensures.owned (sym c.in-Some.is ∙ c.first.ensures.value) in
    rw (c.take_out.ensures.after, first.owner) (clearing_more c.args.lists.now c.loop-object.lists c.args.list c.in-Some.object (filter (λ p. not (p == c.in-Some.object)) (list_of c.loop-object.lists c.args.list)) c.loop-object.invariant)

pub returns : goal.returns
returns c = all_cleared c.args.lists.now c.loop-object.lists c.args.list (sym c.first.ensures.value ∙ c.in_default.is) c.loop-object.invariant
