use Rattle.std.proofs.Common.{◌<◌, length, length-set, arith}
use Rattle.linked_lists.proofs.Each.{padded_set}
use Rattle.linked_lists.proofs.filled.Filled.set.Goals as goal

pub invariant_of-self : goal.invariant_of-self
invariant_of-self c = record { within = rw length-set c.self.invariant.within; reserved = c.self.invariant.reserved }

pub returns : goal.returns
returns c =
    let there : c.args.index < length c.self.inside.items.items = rw (← c.self.view_is) at c.requires in
    rw (← c.self.view_is) (padded_set c.self.inside.room c.self.inside.fill c.self.inside.items.items c.args.index c.args.number (omega (arith, there, c.self.invariant.within)) there)
