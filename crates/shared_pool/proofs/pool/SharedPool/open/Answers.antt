use Rattle.shared_pool.proofs.Opening.{players, have_all}
use Rattle.shared_pool.proofs.pool.SharedPool.open.Goals as goal

pub returns-clause-players : goal.returns-clause-players
returns-clause-players g c = players _ c.in_ok-lock.seats.items c.in_ok-lock.ensures.dealt

pub returns-clause-all : goal.returns-clause-all
returns-clause-all g c = have_all c.in_ok-lock.lock c.in_ok-lock.seats.items c.in_ok-lock.ensures.dealt
