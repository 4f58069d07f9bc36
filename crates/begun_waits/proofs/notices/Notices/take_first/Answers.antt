use Rattle.std.proofs.Common.{◌==◌, arith, filter, length, not, sym, ◌∙◌}
use Rattle.linked_lists.specs.Linked.{list_of}
use Rattle.begun_waits.proofs.Noticed.{none_taken, shown_first, shown_taken, there_in, threaded_moved}
use Rattle.begun_waits.proofs.notices.Notices.take_first.Goals as goal

pub take_out-requires : goal.take_out-requires
take_out-requires c =
    let there = rw (← c.self.view_is) at c.requires in
    let first = shown_first c.self.inside.objects c.self.inside.lists c.args.actor c.in-Some.object there c.first.ensures.owned (sym c.in-Some.is ∙ c.first.ensures.value) in
    omega (arith, first.owner, there_in c.self.inside.objects c.self.inside.lists c.args.actor there)

pub invariant_of-self : goal.invariant_of-self
invariant_of-self c =
    let there = rw (← c.self.view_is) at c.requires in
    let first = shown_first c.self.inside.objects c.self.inside.lists c.args.actor c.in-Some.object there c.first.ensures.owned (sym c.in-Some.is ∙ c.first.ensures.value) in
    rw (c.take_out.ensures.after, first.owner)
    (threaded_moved c.self.inside.objects c.self.inside.lists c.in-Some.object (length c.self.inside.lists.lists) c.args.actor (filter (λ p. not (p == c.in-Some.object)) (list_of c.self.inside.lists c.args.actor))
    (omega arith) c.self.invariant)

pub returns-in-Some : goal.returns-in-Some
returns-in-Some c =
    let there = rw (← c.self.view_is) at c.requires in
    let first = shown_first c.self.inside.objects c.self.inside.lists c.args.actor c.in-Some.object there c.first.ensures.owned (sym c.in-Some.is ∙ c.first.ensures.value) in
    rw (← c.self.view_is, c.take_out.ensures.after, first.owner) (shown_taken c.self.inside.objects c.self.inside.lists c.args.actor c.in-Some.object (length c.self.inside.lists.lists) first)

pub returns-in_default : goal.returns-in_default
returns-in_default c = rw (← c.self.view_is) (none_taken c.self.inside.objects c.self.inside.lists c.args.actor (sym c.first.ensures.value ∙ c.in_default.is))
