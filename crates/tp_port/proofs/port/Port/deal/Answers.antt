use Rattle.tp_port.proofs.Keeping.{may_deal}
use Rattle.tp_port.proofs.port.Port.deal.Goals as goal

pub another-other-requires-clause-rule : goal.another-other-requires-clause-rule
another-other-requires-clause-rule c = may_deal _ _ _ _ _ _ c.loop.invariant.knows
