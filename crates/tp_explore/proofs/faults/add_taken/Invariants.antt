use Rattle.std.proofs.Common.{◌≡◌, ◌++◌, drop}
use Rattle.tp_explore.specs.Faults.{taken_faults}
use Rattle.tp_explore.proofs.faults.add_taken.Given as goal

abbrev pub invariant-loop-hush : goal.invariant-loop-hush
invariant-loop-hush g l = l.faults.items ++ taken_faults (g.V.Reads.world_of l.world) l.number (drop l.hush-index l.quiet) ≡ l.initial.faults.items ++ taken_faults (g.V.Reads.world_of l.world) l.number l.quiet
