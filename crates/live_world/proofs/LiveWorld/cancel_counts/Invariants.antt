use Rattle.std.proofs.Common.{length}
use Rattle.std.specs.Option.{option_copied}
use Rattle.live_world.specs.Waiting.{outstanding_of}
use Rattle.live_world.proofs.Walks.{rest}
use Rattle.live_world.proofs.Along.{number_of, Counting}
use Rattle.live_world.proofs.LiveWorld.cancel_counts.Given as goal

abbrev pub invariant-loop-next : goal.invariant-loop-next
invariant-loop-next l = Counting (outstanding_of l.self.world l.fn.object) (option_copied l.next) l.count.cancelled l.count.covered

abbrev pub decreases-loop-next : goal.decreases-loop-next
decreases-loop-next l = length (rest number_of (outstanding_of l.self.world l.fn.object) (option_copied l.next))
