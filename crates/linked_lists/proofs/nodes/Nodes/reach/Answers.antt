use Rattle.std.proofs.Common.{arith}
use Rattle.linked_lists.proofs.Filling.{filled_reached, keys_many, shows_reached, total_many}
use Rattle.linked_lists.proofs.nodes.Nodes.reach.Goals as goal

pub overflow_mul-turn : goal.overflow_mul-turn
overflow_mul-turn c = omega (arith, rw (← c.self.view_is) at c.requires, keys_many c.self.inside.keys c.self.inside.lists c.self.inside.nodes.items, total_many c.self.inside.keys c.self.inside.lists c.self.inside.nodes.items, c.self.invariant.keys_fit, c.self.invariant.lists_fit)

pub overflow_add-turn : goal.overflow_add-turn
overflow_add-turn c = omega (arith, rw (← c.self.view_is) at c.requires, keys_many c.self.inside.keys c.self.inside.lists c.self.inside.nodes.items, total_many c.self.inside.keys c.self.inside.lists c.self.inside.nodes.items, c.self.invariant.keys_fit, c.self.invariant.lists_fit)

pub reach-requires : goal.reach-requires
reach-requires c = omega (arith, rw (← c.self.view_is) at c.requires, keys_many c.self.inside.keys c.self.inside.lists c.self.inside.nodes.items, total_many c.self.inside.keys c.self.inside.lists c.self.inside.nodes.items, c.self.invariant.keys_reserved, c.self.invariant.lists_reserved)

pub invariant_of-self : goal.invariant_of-self
invariant_of-self c = filled_reached c.self.inside.keys c.self.inside.lists c.self.inside.nodes.items _ c.args.turn c.reach.ensures.same c.reach.ensures.many _ (rw c.reach.ensures.capacity c.self.invariant)

pub returns : goal.returns
returns c = rw (← c.self.view_is) (shows_reached c.self.inside.keys c.self.inside.lists c.self.inside.nodes.items _ c.args.turn c.reach.ensures.same c.reach.ensures.many c.self.invariant.whole)
