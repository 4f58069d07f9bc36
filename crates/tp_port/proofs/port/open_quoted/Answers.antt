use Rattle.tp_port.proofs.Keeping.{begins, may_settle}
use Rattle.tp_port.proofs.port.open_quoted.Goals as goal

pub ruled-requires-clause-rule : goal.ruled-requires-clause-rule
ruled-requires-clause-rule g c = begins

pub another-requires-clause-rule : goal.another-requires-clause-rule
another-requires-clause-rule g c = may_settle _ _ _ c.in_ok-queue.ensures.3
