use Rattle.std.proofs.Common.{length}
use Rattle.live_queries.proofs.Above.{above}
use Rattle.live_queries.proofs.LeftAfter.{IsSought}
use Rattle.live_queries.proofs.over.left_after.Given as goal

abbrev pub invariant-loop-callback : goal.invariant-loop-callback
invariant-loop-callback g l = IsSought l.number l.passed (g.W.Reads.world_of l.world).callbacks

abbrev pub decreases-loop-callback : goal.decreases-loop-callback
decreases-loop-callback g l = length (above l.passed (g.W.Reads.world_of l.world).callbacks)
