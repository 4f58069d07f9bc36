use Rattle.std.proofs.Common.{◌≡◌, drop}
use Rattle.recorded.specs.Recordings.{all_made}
use Rattle.port_calls.proofs.make_all.Given as goal

abbrev pub invariant-loop-who : goal.invariant-loop-who
invariant-loop-who g l = all_made (g.B.Recorded.recording l.book) (drop l.who-index l.calls) ≡ all_made (g.B.Recorded.recording l.fn.book) l.calls
