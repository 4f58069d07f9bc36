use Rattle.std.proofs.Common.{◌≡◌, ◌++◌, drop, map}
use Rattle.tp_explore.specs.Story.{told}
use Rattle.tp_explore.proofs.walk.add_told.Given as goal

abbrev pub invariant-loop-fault : goal.invariant-loop-fault
invariant-loop-fault l = l.all.items ++ map (told l.entry l.who) (drop l.fault-index l.faults) ≡ l.initial.all.items ++ map (told l.entry l.who) l.faults
