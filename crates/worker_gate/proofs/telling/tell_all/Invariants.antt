use Rattle.worker_gate.proofs.Tellings.{ToldSoFar}
use Rattle.worker_gate.proofs.telling.tell_all.Given as goal

abbrev pub invariant-loop-place : goal.invariant-loop-place
invariant-loop-place g l = ToldSoFar l.fn.pool l.fn.first l.first l.fn.others.items l.others.items l.place
