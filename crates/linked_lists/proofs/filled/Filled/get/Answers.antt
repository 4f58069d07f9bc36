use Rattle.std.proofs.Common.{arith}
use Rattle.std.proofs.lemmas.List.{get_or_past, get_or_read}
use Rattle.linked_lists.proofs.Each.{get_or-padded}
use Rattle.linked_lists.proofs.filled.Filled.get.Goals as goal

pub returns-then-index-len-clause-number : goal.returns-then-index-len-clause-number
returns-then-index-len-clause-number c =
    let items = c.self.inside.items.items in
    rw (← c.self.view_is, get_or-padded c.self.inside.room c.self.inside.fill items c.args.index c.self.invariant.within)
    (get_or_read items c.args.index _ (omega (arith, c.if-index-len.true, c.len.ensures)) c.index.ensures c.self.inside.fill)

pub returns-else-index-len-clause-fill : goal.returns-else-index-len-clause-fill
returns-else-index-len-clause-fill c =
    let items = c.self.inside.items.items in
    rw (← c.self.view_is, get_or-padded c.self.inside.room c.self.inside.fill items c.args.index c.self.invariant.within)
    (get_or_past items c.args.index c.self.inside.fill (omega (arith, c.if-index-len.false, c.len.ensures)))
