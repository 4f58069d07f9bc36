use Rattle.std.proofs.Common.{rules}
use Rattle.turn_lock.proofs.Keeping.{fronts}
use Rattle.turn_lock.proofs.locks.TurnLock.look.Goals as goal

pub load-requires : goal.load-requires
load-requires g c = (c.requires.of, search rules, fronts _ _ _ _ _ c.requires.idle.0 c.requires.idle.1)
