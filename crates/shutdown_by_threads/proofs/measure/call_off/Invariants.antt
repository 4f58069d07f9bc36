use Rattle.shared_pool.specs.Pools.{IsPlayer}
use Rattle.shutdown_by_threads.proofs.measure.call_off.Given as goal

abbrev pub invariant-loop : goal.invariant-loop
invariant-loop g l = IsPlayer l.pool l.seat
