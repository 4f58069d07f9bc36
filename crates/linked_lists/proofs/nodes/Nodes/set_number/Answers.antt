use Rattle.std.proofs.Common.{◌≡◌, ◌≢◌, ℕ, ◌*◌, ◌<◌, ap, length, set, arith}
use Rattle.std.proofs.lemmas.List.{get_or_read, length-set}
use Rattle.linked_lists.specs.declared.nodes.Node.{Node}
use Rattle.linked_lists.specs.Nodes.{alone, node_at}
use Rattle.linked_lists.proofs.Filling.{field_kept, filled_numbered, keys_many, node_set, node_set_else, shows_numbered}
use Rattle.linked_lists.proofs.nodes.Nodes.set_number.Goals as goal

pub overflow_mul-key : goal.overflow_mul-key
overflow_mul-key c = omega (arith, rw (← c.self.view_is) at c.requires.key, keys_many c.self.inside.keys c.self.inside.lists c.self.inside.nodes.items, c.self.invariant.keys_fit)

pub invariant_of-self : goal.invariant_of-self
invariant_of-self c =
    let k = c.self.inside.keys in
    let l = c.self.inside.lists in
    let nodes = c.self.inside.nodes.items in
    let p = 2 * c.args.key in
    let within : c.args.key < k = omega (arith, rw (← c.self.view_is) at c.requires.key, keys_many k l nodes) in
    let in_p : p < length nodes = omega (arith, rw (← c.self.view_is) at c.requires.filled, c.self.invariant.whole) in
    let is : c.index_mut.result.now ≡ node_at nodes p = get_or_read nodes p _ in_p c.index_mut.ensures.value (alone p) in
    let node : Node = record c.index_mut.result.now { number = c.args.number } in
    let new = set nodes p node in
    let same : (x : ℕ) → x ≢ p → (node_at new x).number ≡ (node_at nodes x).number = λ x apart. ap (λ (n : Node). n.number) (node_set_else nodes p x node apart) in
    let on : (x : ℕ) → (node_at new x).after ≡ (node_at nodes x).after = λ x. field_kept (λ n. n.after) nodes p node in_p (ap (λ (n : Node). n.after) is) x in
    let back : (x : ℕ) → (node_at new x).before ≡ (node_at nodes x).before = λ x. field_kept (λ n. n.before) nodes p node in_p (ap (λ (n : Node). n.before) is) x in
    let known : (node_at new p).number ≡ c.args.number = ap (λ (n : Node). n.number) (node_set nodes p node in_p) in
    filled_numbered k l nodes new c.args.key c.args.number (length-set nodes p node) within known same on back _ c.self.invariant

pub returns : goal.returns
returns c =
    let k = c.self.inside.keys in
    let l = c.self.inside.lists in
    let nodes = c.self.inside.nodes.items in
    let p = 2 * c.args.key in
    let within : c.args.key < k = omega (arith, rw (← c.self.view_is) at c.requires.key, keys_many k l nodes) in
    let in_p : p < length nodes = omega (arith, rw (← c.self.view_is) at c.requires.filled, c.self.invariant.whole) in
    let is : c.index_mut.result.now ≡ node_at nodes p = get_or_read nodes p _ in_p c.index_mut.ensures.value (alone p) in
    let node : Node = record c.index_mut.result.now { number = c.args.number } in
    let new = set nodes p node in
    let same : (x : ℕ) → x ≢ p → (node_at new x).number ≡ (node_at nodes x).number = λ x apart. ap (λ (n : Node). n.number) (node_set_else nodes p x node apart) in
    let on : (x : ℕ) → (node_at new x).after ≡ (node_at nodes x).after = λ x. field_kept (λ n. n.after) nodes p node in_p (ap (λ (n : Node). n.after) is) x in
    let back : (x : ℕ) → (node_at new x).before ≡ (node_at nodes x).before = λ x. field_kept (λ n. n.before) nodes p node in_p (ap (λ (n : Node). n.before) is) x in
    let known : (node_at new p).number ≡ c.args.number = ap (λ (n : Node). n.number) (node_set nodes p node in_p) in
    rw (← c.self.view_is) (shows_numbered k l nodes new c.args.key c.args.number (length-set nodes p node) within known same on back)
