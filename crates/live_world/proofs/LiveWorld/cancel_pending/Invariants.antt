use Rattle.std.proofs.Common.{◌≡◌, length}
use Rattle.live_world.specs.Live.{without_pending}
use Rattle.live_world.specs.Waiting.{pending_of}
use Rattle.live_world.proofs.LiveWorld.cancel_pending.Given as goal

-- what is left to cancel leads to where all of it leads
abbrev pub invariant-loop-callback : goal.invariant-loop-callback
invariant-loop-callback l = without_pending l.self l.fn.object ≡ without_pending l.fn.self l.fn.object

abbrev pub decreases-loop-callback : goal.decreases-loop-callback
decreases-loop-callback l = length (pending_of l.self.world l.fn.object)
