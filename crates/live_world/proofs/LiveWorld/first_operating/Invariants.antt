use Rattle.std.proofs.Common.{length}
use Rattle.live_world.proofs.Along.{number_of}
use Rattle.live_world.proofs.LeastOperating.{LeastSoFar}
use Rattle.live_world.proofs.Walks.{rest}
use Rattle.live_world.proofs.LiveWorld.first_operating.Given as goal

abbrev pub invariant-loop-next : goal.invariant-loop-next
invariant-loop-next l = LeastSoFar l.self.world l.fn.group.0 l.next l.least

abbrev pub decreases-loop-next : goal.decreases-loop-next
decreases-loop-next l = length (rest number_of l.self.world.callbacks l.next)
