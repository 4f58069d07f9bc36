use Rattle.tp_port.specs.Pumps.{HasTakenLeft}
use Rattle.tp_port.proofs.pumps.drain.Given as goal

abbrev pub invariant-loop : goal.invariant-loop
invariant-loop g l = record {
  goes : (goal.iterator-loop g).can_next l.iterator';
  ends : (goal.iterator-loop g).is_finite l.iterator';
  took : HasTakenLeft l.port (g.B.Recorded.recording l.fn.book) (g.B.Recorded.recording l.book) l.fn.pass l.pass;
}
