use Rattle.std.proofs.Common.{length, ◌-◌}
use Rattle.line_grammar.proofs.NumberFacts.{IsSoFar}
use Rattle.line_grammar.proofs.numbers.read_number.Given as goal

abbrev pub invariant-loop-longer : goal.invariant-loop-longer
invariant-loop-longer l = IsSoFar l.text l.least l.most l.value l.size

abbrev pub decreases-loop-longer : goal.decreases-loop-longer
decreases-loop-longer l = length l.text - l.size
