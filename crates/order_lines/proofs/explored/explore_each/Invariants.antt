use Rattle.order_lines.proofs.Each.{IsSoFar}
use Rattle.order_lines.proofs.explored.explore_each.Given as goal

abbrev pub invariant-loop : goal.invariant-loop
invariant-loop g l = IsSoFar l.script l.limits l.text l.counter l.told.items l.output.items
