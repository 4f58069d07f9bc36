use Rattle.std.proofs.Common.{◌≡◌, ◌<◌, length, rules, arith}
use Rattle.timer_heap.proofs.Held.{has_room, limited, placed_push}
use Rattle.timer_heap.specs.Held.{times}
use Rattle.timer_heap.proofs.places.Places.push.Goals as goal

pub overflow_cast-place : goal.overflow_cast-place
overflow_cast-place c = omega (arith, c.len-place.ensures, limited _ _ _ _ _ c.self.invariant, c.self.invariant.made, c.self.invariant.fits)

pub push_reserved-requires : goal.push_reserved-requires
push_reserved-requires c =
    let within : c.args.key < length c.self.inside.places.items = search rules in
    let free : times c.args.key c.self.inside.held.items ≡ 0 = rw (← c.self.view_is) at c.requires.free in
    let room = has_room _ _ _ _ _ c.args.key c.self.invariant within free in
    search (rules, room)

pub invariant_of-self : goal.invariant_of-self
invariant_of-self c =
    let within : c.args.key < length c.self.inside.places.items = search rules in
    let free : times c.args.key c.self.inside.held.items ≡ 0 = rw (← c.self.view_is) at c.requires.free in
    let place : c.len-place.result ≡ length c.self.inside.held.items = search rules in
    rw (c.push_reserved.ensures.items, place) (placed_push _ _ _ _ _ c.self.invariant _ c.args.key (search rules) within free)
