use Rattle.std.proofs.Common.{◌≡◌, ◌++◌, drop, map}
use Rattle.tp_explore.specs.Faults.{deed}
use Rattle.tp_explore.proofs.deeds.add_deeds.Given as goal

abbrev pub invariant-loop-marked : goal.invariant-loop-marked
invariant-loop-marked l = l.deeds.items ++ map (deed l.who l.visits) (drop l.marked-index l.marks) ≡ l.initial.deeds.items ++ map (deed l.who l.visits) l.marks
