use Rattle.turn_lock.proofs.Seating.{looks}
use Rattle.turn_lock.proofs.locks.TurnLock.front.Goals as goal

pub returns-clause-looked : goal.returns-clause-looked
returns-clause-looked g c = looks c.args.seat.now c.look.new.raw c.look.result c.look.ensures.same.0 c.requires.idle c.look.ensures.told
