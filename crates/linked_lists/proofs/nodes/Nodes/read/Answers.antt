use Rattle.std.proofs.Common.{◌≡◌, ◌<◌, length, sym, subst, arith}
use Rattle.std.proofs.lemmas.List.{get_or_read}
use Rattle.linked_lists.specs.Nodes.{IsRead, alone, arena_of, node_at}
use Rattle.linked_lists.proofs.Filling.{read_of}
use Rattle.linked_lists.proofs.nodes.Nodes.read.Goals as goal

pub returns-clause-node : goal.returns-clause-node
returns-clause-node c =
    let nodes = c.self.inside.nodes.items in
    let there : c.args.place < length nodes = omega (arith, rw (← c.self.view_is) at c.requires.filled, c.self.invariant.whole) in
    let is : c.index.result.now ≡ node_at nodes c.args.place = get_or_read nodes c.args.place _ there c.index.ensures (alone c.args.place) in
    rw (← c.self.view_is) (subst (IsRead (arena_of c.self.inside.keys c.self.inside.lists nodes) c.args.place) (sym is) (read_of c.self.inside.keys c.self.inside.lists nodes _ c.self.invariant c.args.place (rw (← c.self.view_is) at c.requires.place) there))
