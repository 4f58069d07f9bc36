use Rattle.tp_port.proofs.Keeping.{may_take}
use Rattle.tp_port.proofs.port.Port.take.Goals as goal

pub pop_as-requires-clause-rule : goal.pop_as-requires-clause-rule
pop_as-requires-clause-rule g c = may_take _ _ _ _ _ _ c.requires.knows
