use Rattle.std.proofs.Common.{length, ◌==◌}
use Rattle.live_queries.proofs.Above.{above, IsPassed}
use Rattle.live_queries.proofs.pools.has_callback.Given as goal

abbrev pub invariant-loop-callback : goal.invariant-loop-callback
invariant-loop-callback g l = IsPassed (λ c. c.pool.0 == l.pool.0) l.passed (g.W.Reads.world_of l.world).callbacks

abbrev pub decreases-loop-callback : goal.decreases-loop-callback
decreases-loop-callback g l = length (above l.passed (g.W.Reads.world_of l.world).callbacks)
