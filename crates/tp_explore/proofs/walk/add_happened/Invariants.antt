use Rattle.std.proofs.Common.{◌≡◌, ◌++◌, drop, map}
use Rattle.tp_explore.specs.Story.{happened}
use Rattle.tp_explore.proofs.walk.add_happened.Given as goal

abbrev pub invariant-loop-deed : goal.invariant-loop-deed
invariant-loop-deed l = l.all.items ++ map (happened l.entry) (drop l.deed-index l.deeds) ≡ l.initial.all.items ++ map (happened l.entry) l.deeds
