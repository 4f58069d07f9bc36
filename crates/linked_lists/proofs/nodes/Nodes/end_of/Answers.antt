use Rattle.std.proofs.Common.{length, arith}
use Rattle.linked_lists.proofs.Filling.{keys_many, total_many}
use Rattle.linked_lists.proofs.Places.{code_odd, end_is_place}
use Rattle.linked_lists.proofs.nodes.Nodes.end_of.Goals as goal

pub overflow_mul-result : goal.overflow_mul-result
overflow_mul-result c = omega (arith, rw (← c.self.view_is) at c.requires, keys_many c.self.inside.keys c.self.inside.lists c.self.inside.nodes.items, total_many c.self.inside.keys c.self.inside.lists c.self.inside.nodes.items, c.self.invariant.lists_fit)

pub overflow_add-result : goal.overflow_add-result
overflow_add-result c = omega (arith, rw (← c.self.view_is) at c.requires, keys_many c.self.inside.keys c.self.inside.lists c.self.inside.nodes.items, total_many c.self.inside.keys c.self.inside.lists c.self.inside.nodes.items, c.self.invariant.lists_fit)

pub returns-clause-place : goal.returns-clause-place
returns-clause-place c = end_is_place (length c.args.self.now.numbers) (length c.args.self.now.after) c.args.list c.requires

pub returns-clause-end : goal.returns-clause-end
returns-clause-end c = code_odd (length c.args.self.now.numbers) c.args.list
