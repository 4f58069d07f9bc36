use Rattle.std.proofs.Common.{◌≡◌, ◌+◌, ◌<◌, length, refl, arith}
use Rattle.std.proofs.lemmas.List.{get_or_read, length-set}
use Rattle.linked_lists.specs.Nodes.{IsPlaceIn, alone, node_at}
use Rattle.linked_lists.proofs.Filling.{back_b, back_else, filled_linked, here_is, numbers_kept, on_a, on_else, place_in, shows_linked}
use Rattle.linked_lists.proofs.nodes.Nodes.link.Goals as goal

pub invariant_of-self : goal.invariant_of-self
invariant_of-self c =
    let k = c.self.inside.keys in
    let l = c.self.inside.lists in
    let nodes = c.self.inside.nodes.items in
    let a = c.args.before in
    let b = c.args.after in
    let in_a : a < length nodes = omega (arith, rw (← c.self.view_is) at c.requires.first_filled, c.self.invariant.whole) in
    let in_b : b < length nodes = omega (arith, rw (← c.self.view_is) at c.requires.second_filled, c.self.invariant.whole) in
    let first : c.index_mut.result.now ≡ node_at nodes a = get_or_read nodes a _ in_a c.index_mut.ensures.value (alone a) in
    let second = get_or_read _ b _ (rw length-set in_b) c.index_mut-2.ensures.value (alone b) in
    let is_a : IsPlaceIn k (k + l) a = place_in k l nodes a (rw (← c.self.view_is) at c.requires.first) in
    let is_b : IsPlaceIn k (k + l) b = place_in k l nodes b (rw (← c.self.view_is) at c.requires.second) in
    filled_linked k l nodes _ a b (rw (length-set, length-set) refl) in_a in_b is_a is_b
    (on_a nodes a b _ _ in_a in_b first second)
    (on_else nodes a b _ _ in_a in_b first second)
    (back_b nodes a b _ _ in_a in_b first second)
    (back_else nodes a b _ _ in_a in_b first second)
    (numbers_kept nodes a b _ _ in_a in_b first second)
    _ c.self.invariant

pub returns : goal.returns
returns c =
    let k = c.self.inside.keys in
    let l = c.self.inside.lists in
    let nodes = c.self.inside.nodes.items in
    let a = c.args.before in
    let b = c.args.after in
    let in_a : a < length nodes = omega (arith, rw (← c.self.view_is) at c.requires.first_filled, c.self.invariant.whole) in
    let in_b : b < length nodes = omega (arith, rw (← c.self.view_is) at c.requires.second_filled, c.self.invariant.whole) in
    let first : c.index_mut.result.now ≡ node_at nodes a = get_or_read nodes a _ in_a c.index_mut.ensures.value (alone a) in
    let second = get_or_read _ b _ (rw length-set in_b) c.index_mut-2.ensures.value (alone b) in
    let is_a : IsPlaceIn k (k + l) a = place_in k l nodes a (rw (← c.self.view_is) at c.requires.first) in
    let is_b : IsPlaceIn k (k + l) b = place_in k l nodes b (rw (← c.self.view_is) at c.requires.second) in
    rw (← c.self.view_is, here_is k l nodes a, here_is k l nodes b)
    (shows_linked k l nodes _ a b (rw (length-set, length-set) refl) in_a in_b is_a is_b
    (on_a nodes a b _ _ in_a in_b first second)
    (on_else nodes a b _ _ in_a in_b first second)
    (back_b nodes a b _ _ in_a in_b first second)
    (back_else nodes a b _ _ in_a in_b first second)
    (numbers_kept nodes a b _ _ in_a in_b first second))
