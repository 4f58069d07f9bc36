use Rattle.std.proofs.Common.{length}
use Rattle.tp_report.specs.Readings.{IsStamp}
use Rattle.tp_report.proofs.SoFar.{IsCheckedTo}
use Rattle.tp_report.proofs.checking.judge_behind.Given as goal

abbrev pub invariant-loop-book : goal.invariant-loop-book
invariant-loop-book g l = IsCheckedTo l.header l.text (g.B.Recorded.recording l.book) l.now l.verdict l.len l.rest × IsStamp l.stamp

abbrev pub decreases-loop-book : goal.decreases-loop-book
decreases-loop-book g l = length l.rest
