use Rattle.std.proofs.Common.{◌≡◌, ◌≤◌, [], length, vec_items, vec_capacity}
use Rattle.std.specs.List.{flat_map}
use Rattle.worker_gate.proofs.run.no_crews.Given as goal

abbrev pub invariant-loop : goal.invariant-loop
invariant-loop g l = record {
  made : length l.crews.items ≡ l.counter;
  empty : flat_map vec_items l.crews.items ≡ [];
  fits : l.count ≤ vec_capacity l.crews;
}
