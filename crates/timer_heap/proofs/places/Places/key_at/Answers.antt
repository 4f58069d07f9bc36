use Rattle.std.proofs.Common.{◌≡◌, ◌<◌, ◌∙◌, length, get_or, rules}
use Rattle.std.proofs.lemmas.Grind.{get_or_default_zero}
use Rattle.timer_heap.proofs.Held.{key_in_range}
use Rattle.timer_heap.proofs.places.Places.key_at.Goals as goal

pub returns-clause-keyed : goal.returns-clause-keyed
returns-clause-keyed c =
    let within : c.args.place < length c.self.inside.held.items = search rules in
    let is : c.index.result.now ≡ get_or c.self.inside.held.items c.args.place 0 = c.index.ensures ∙ get_or_default_zero _ _ _ within in
    rw (← c.self.view_is, is) (key_in_range _ _ _ _ _ c.self.invariant c.args.place within)
