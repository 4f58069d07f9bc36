use Rattle.shared_pool.specs.Calls.{HasMetMore}
use Rattle.shared_pool.specs.Pools.{IsPlayer}
use Rattle.shared_pool.specs.Waits.{HasStayed}
use Rattle.shared_pool.proofs.pool.SharedPool.end.Given as goal

abbrev pub invariant-loop : goal.invariant-loop
invariant-loop g l =
    (goal.iterator-loop g).can_next l.iterator' × (goal.iterator-loop g).is_finite l.iterator'
    × IsPlayer l.fn.self l.seat × HasStayed l.fn.seat l.seat × HasMetMore l.fn.seat l.seat
