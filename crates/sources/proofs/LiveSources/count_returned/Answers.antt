use Rattle.std.proofs.Common.{arith}
use Rattle.sources.proofs.Released.{both_count, both_fit}
use Rattle.sources.proofs.LiveSources.count_returned.Goals as goal

pub overflow_add-result : goal.overflow_add-result
overflow_add-result c =
    omega (arith, both_fit c.self.inside c.args.self.now c.args.who c.args.words.now c.args.slots.now _ _ c.self.view_is c.self.invariant c.requires c.count_performed.ensures c.count_performed-2.ensures)

pub returns : goal.returns
returns c = both_count c.self.inside c.args.self.now c.args.who c.args.words.now c.args.slots.now _ _ c.self.view_is c.self.invariant c.requires c.count_performed.ensures c.count_performed-2.ensures
