use Rattle.std.proofs.Common.{◌≡◌, ◌≤◌, ◌++◌, length, map, vec_capacity}
use Rattle.std.specs.Vec.Iter.{into_iter_items}
use Rattle.worker_gate.specs.Acting.{role_in, seat_in}
use Rattle.worker_gate.proofs.closing.apart.Given as goal

abbrev pub invariant-loop-actor : goal.invariant-loop-actor
invariant-loop-actor g l =
    (goal.iterator-loop-actor g).can_next l.actor-iterator × (goal.iterator-loop-actor g).is_finite l.actor-iterator
    × (l.fn.actors.items ≡ l.yielded ++ into_iter_items l.actor-iterator) × (l.seats.items ≡ map seat_in l.yielded) × (l.roles.items ≡ map role_in l.yielded)
    × (length l.fn.actors.items ≤ vec_capacity l.seats) × (length l.fn.actors.items ≤ vec_capacity l.roles)
