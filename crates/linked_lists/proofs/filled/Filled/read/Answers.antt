use Rattle.std.proofs.Common.{◌<◌, length, arith}
use Rattle.std.proofs.lemmas.List.{get_or_read}
use Rattle.linked_lists.proofs.Each.{get_or-each}
use Rattle.linked_lists.proofs.filled.Filled.read.Goals as goal

pub returns : goal.returns
returns c =
    let items = c.self.inside.items.items in
    let there : c.args.index < length items = rw (← c.self.view_is) at c.requires in
    rw (← c.self.view_is, get_or-each c.self.inside.room _ c.args.index 0 (omega (arith, there, c.self.invariant.within)))
    (get_or_read items c.args.index _ there c.index.ensures c.self.inside.fill)
