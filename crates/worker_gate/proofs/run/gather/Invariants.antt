use Rattle.std.proofs.Common.{◌≡◌, ◌∷◌, ◌++◌, vec_items}
use Rattle.std.specs.List.{flat_map}
use Rattle.std.specs.Vec.Iter.{into_iter_items}
use Rattle.worker_gate.proofs.run.gather.Given as goal

abbrev pub invariant-loop-crew : goal.invariant-loop-crew
invariant-loop-crew g l = record {
  goes : (goal.iterator-loop-crew g).can_next l.crew-iterator;
  ends : (goal.iterator-loop-crew g).is_finite l.crew-iterator;
  parts : l.fn.crews.items ≡ l.yielded ++ into_iter_items l.crew-iterator;
  gathered : l.actors.items ≡ l.fn.first ∷ flat_map vec_items l.yielded;
}
