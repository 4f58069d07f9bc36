use Rattle.std.proofs.Common.{refl}
use Rattle.tp_port.proofs.Keeping.{may_post}
use Rattle.tp_port.proofs.port.Port.post.Goals as goal

pub push_as-requires-clause-rule : goal.push_as-requires-clause-rule
push_as-requires-clause-rule g c = may_post _ _ _ _ _ _ _ _ c.requires.of.knows refl c.requires.quota
