use Rattle.std.proofs.Common.{◌≡◌, ◌≤◌, ◌++◌, length, map, vec_capacity, All}
use Rattle.std.specs.Vec.Iter.{into_iter_items}
use Rattle.worker_gate.specs.Acting.{seat_in}
use Rattle.worker_gate.specs.Crowds.{IsNewActor}
use Rattle.worker_gate.proofs.run.take_seats.Given as goal

abbrev pub invariant-loop-seat : goal.invariant-loop-seat
invariant-loop-seat g l = record {
  goes : (goal.iterator-loop-seat g).can_next l.seat-iterator;
  ends : (goal.iterator-loop-seat g).is_finite l.seat-iterator;
  parts : l.fn.seats.items ≡ l.yielded ++ into_iter_items l.seat-iterator;
  seats : map seat_in l.actors.items ≡ l.yielded;
  new : All (IsNewActor l.limits) l.actors.items;
  fits : length l.fn.seats.items ≤ vec_capacity l.actors;
}
