use Rattle.std.proofs.Common.{◌≡◌}
use Rattle.part_tests.proofs.heap.set_all.Given as goal

abbrev pub invariant-loop-key : goal.invariant-loop-key
invariant-loop-key l = l.heap.keys ≡ l.keys
