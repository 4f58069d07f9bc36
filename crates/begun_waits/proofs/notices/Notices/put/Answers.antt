use Rattle.std.proofs.Common.{◌++◌, ◌∷◌, [], arith}
use Rattle.linked_lists.specs.Linked.{list_of}
use Rattle.begun_waits.proofs.Noticed.{free, shown_put, there_in, threaded_moved}
use Rattle.begun_waits.proofs.notices.Notices.put.Goals as goal

pub put_last-requires-clause-free : goal.put_last-requires-clause-free
put_last-requires-clause-free c =
    free c.self.inside.objects c.self.inside.lists c.args.object.0 (rw (← c.self.view_is) at c.requires.most) c.owner-owner.ensures.owned c.self.invariant (rw (← c.self.view_is) at c.requires.free)

pub invariant_of-self : goal.invariant_of-self
invariant_of-self c =
    rw c.put_last.ensures.after
    (threaded_moved c.self.inside.objects c.self.inside.lists c.args.object.0 c.args.actor c.args.actor (list_of c.self.inside.lists c.args.actor ++ c.args.object.0 ∷ [])
    (omega (arith, there_in c.self.inside.objects c.self.inside.lists c.args.actor (rw (← c.self.view_is) at c.requires.there))) c.self.invariant)

pub returns : goal.returns
returns c = rw (← c.self.view_is, c.put_last.ensures.after) (shown_put c.self.inside.objects c.self.inside.lists c.args.actor c.args.object.0 c.args.actor)
