use Rattle.std.proofs.Common.{length}
use Rattle.tp_report.specs.Playing.{IsPlayedTo, size_of}
use Rattle.tp_report.proofs.playing.play_calls.Given as goal

abbrev pub invariant-loop-rest : goal.invariant-loop-rest
invariant-loop-rest g l = IsPlayedTo (size_of (g.B.Recorded.recording l.fn.book)) (g.B.Recorded.recording l.fn.book).limits.clients l.bytes (g.B.Recorded.recording l.book) l.text l.greatest l.lines l.rest

abbrev pub decreases-loop-rest : goal.decreases-loop-rest
decreases-loop-rest g l = length l.rest
