use Rattle.std.proofs.Common.{◌≡◌, ◌++◌, drop, map}
use Rattle.tp_explore.specs.Scripts.{marked_of}
use Rattle.tp_explore.proofs.scripts.marked.Given as goal

abbrev pub invariant-loop-mark : goal.invariant-loop-mark
invariant-loop-mark l = l.marks.items ++ map (marked_of l.locals) (drop l.mark-index l.said) ≡ map (marked_of l.locals) l.said
