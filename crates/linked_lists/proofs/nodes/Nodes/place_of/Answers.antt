use Rattle.std.proofs.Common.{◌≤◌, length, arith}
use Rattle.linked_lists.proofs.Filling.{keys_many, total_many}
use Rattle.linked_lists.proofs.Places.{code_even, key_is_place}
use Rattle.linked_lists.proofs.nodes.Nodes.place_of.Goals as goal

pub overflow_mul-result : goal.overflow_mul-result
overflow_mul-result c = omega (arith, rw (← c.self.view_is) at c.requires, keys_many c.self.inside.keys c.self.inside.lists c.self.inside.nodes.items, c.self.invariant.keys_fit)

pub returns-clause-place : goal.returns-clause-place
returns-clause-place c =
    let few : length c.args.self.now.numbers ≤ length c.args.self.now.after = rw (← c.self.view_is) (omega (arith, keys_many c.self.inside.keys c.self.inside.lists c.self.inside.nodes.items, total_many c.self.inside.keys c.self.inside.lists c.self.inside.nodes.items)) in
    key_is_place (length c.args.self.now.numbers) (length c.args.self.now.after) c.args.key c.requires few

pub returns-clause-key : goal.returns-clause-key
returns-clause-key c = code_even (length c.args.self.now.numbers) c.args.key
