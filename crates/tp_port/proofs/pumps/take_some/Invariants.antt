use Rattle.std.proofs.Common.{◌<◌}
use Rattle.tp_port.specs.Pumps.{HasTakenSome}
use Rattle.tp_port.proofs.pumps.take_some.Given as goal

abbrev pub invariant-loop : goal.invariant-loop
invariant-loop g l = record {
  goes : (goal.iterator-loop g).can_next l.iterator';
  ends : (goal.iterator-loop g).is_finite l.iterator';
  few : l.empty < 10000;
  took : HasTakenSome l.port (g.B.Recorded.recording l.fn.book) (g.B.Recorded.recording l.book) l.fn.pass l.pass;
}
