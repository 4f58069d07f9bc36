use Rattle.std.proofs.Common.{◌≡◌, ◌<◌, ◌++◌, length, vec_items, IsPermutation}
use Rattle.std.specs.List.{flat_map}
use Rattle.std.specs.Vec.Iter.{into_iter_items}
use Rattle.worker_gate.proofs.run.deal.Given as goal

abbrev pub invariant-loop-actor : goal.invariant-loop-actor
invariant-loop-actor g l = record {
  goes : (goal.iterator-loop-actor g).can_next l.actor-iterator;
  ends : (goal.iterator-loop-actor g).is_finite l.actor-iterator;
  parts : l.fn.actors.items ≡ l.yielded ++ into_iter_items l.actor-iterator;
  dealt : IsPermutation l.yielded (flat_map vec_items l.crews.items);
  count : length l.crews.items ≡ l.count;
  next : l.next < l.count;
}
