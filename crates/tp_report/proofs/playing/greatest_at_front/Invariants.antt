use Rattle.std.proofs.Common.{◌≤◌, length}
use Rattle.tp_report.proofs.playing.greatest_at_front.Given as goal

abbrev pub invariant-loop-size : goal.invariant-loop-size
invariant-loop-size l = l.greatest ≤ 16

abbrev pub decreases-loop-size : goal.decreases-loop-size
decreases-loop-size l = length l.rest
