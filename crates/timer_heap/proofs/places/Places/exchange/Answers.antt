use Rattle.std.proofs.Common.{◌≡◌, ◌<◌, ◌∙◌, length, get_or, rules}
use Rattle.std.proofs.lemmas.Grind.{get_or_default_zero}
use Rattle.timer_heap.proofs.Held.{key_in_range, placed_exchanged}
use Rattle.timer_heap.proofs.places.Places.exchange.Goals as goal

pub index_mut-requires-3 : goal.index_mut-requires-3
index_mut-requires-3 c =
    let within : c.args.b < length c.self.inside.held.items = search rules in
    let is : c.index-second.result.now ≡ get_or c.self.inside.held.items c.args.b 0 = c.index-second.ensures ∙ get_or_default_zero _ _ _ within in
    let far = key_in_range _ _ _ _ _ c.self.invariant c.args.b within in
    search (rules, is, far)

pub index_mut-requires-4 : goal.index_mut-requires-4
index_mut-requires-4 c =
    let within : c.args.a < length c.self.inside.held.items = search rules in
    let is : c.index-first.result.now ≡ get_or c.self.inside.held.items c.args.a 0 = c.index-first.ensures ∙ get_or_default_zero _ _ _ within in
    let far = key_in_range _ _ _ _ _ c.self.invariant c.args.a within in
    search (rules, is, far)

pub invariant_of-self : goal.invariant_of-self
invariant_of-self c =
    let in_a : c.args.a < length c.self.inside.held.items = search rules in
    let in_b : c.args.b < length c.self.inside.held.items = search rules in
    let first : c.index-first.result.now ≡ get_or c.self.inside.held.items c.args.a 0 = c.index-first.ensures ∙ get_or_default_zero _ _ _ in_a in
    let second : c.index-second.result.now ≡ get_or c.self.inside.held.items c.args.b 0 = c.index-second.ensures ∙ get_or_default_zero _ _ _ in_b in
    rw (first, second) (placed_exchanged _ _ _ _ _ c.self.invariant c.args.a c.args.b in_a in_b _ (search rules))
