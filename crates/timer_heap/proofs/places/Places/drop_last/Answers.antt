use Rattle.std.proofs.Common.{◌<◌, length, rules}
use Rattle.timer_heap.proofs.Held.{last_in_range, placed_drop}
use Rattle.timer_heap.proofs.places.Places.drop_last.Goals as goal

pub index_mut-requires : goal.index_mut-requires
index_mut-requires c =
    let within : c.in-Some.key < length c.self.inside.places.items = last_in_range _ _ _ _ _ c.self.invariant _ _ c.in-Some.ensures.items in
    search (rules, within)

pub invariant_of-self : goal.invariant_of-self
invariant_of-self c = placed_drop _ _ _ _ _ c.self.invariant _ _ _ (search rules) c.in-Some.ensures.items
