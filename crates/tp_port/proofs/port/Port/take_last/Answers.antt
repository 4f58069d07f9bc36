use Rattle.std.proofs.Common.{arith}
use Rattle.tp_port.proofs.Gathering.{may_take_last}
use Rattle.tp_port.proofs.port.Port.take_last.Goals as goal

pub pop_as-requires-clause-rule : goal.pop_as-requires-clause-rule
pop_as-requires-clause-rule g c = may_take_last _ _ _ _ _ _ c.requires.knows (omega (arith, c.requires.count))
