use Rattle.std.proofs.Common.{length, filter, ◌==◌}
use Rattle.std.specs.Option.{option_copied}
use Rattle.live_world.specs.Closing.{is_of_group}
use Rattle.live_world.proofs.Walks.{rest}
use Rattle.live_world.proofs.Along.{number_of}
use Rattle.live_world.proofs.Looking.{Looking}
use Rattle.live_world.proofs.LiveWorld.has_simple.Given as goal

abbrev pub invariant-loop-next : goal.invariant-loop-next
invariant-loop-next l = Looking number_of (λ c. c.object.0 == 0) (filter (is_of_group l.fn.group) l.self.world.callbacks) (option_copied l.next)

abbrev pub decreases-loop-next : goal.decreases-loop-next
decreases-loop-next l = length (rest number_of (filter (is_of_group l.fn.group) l.self.world.callbacks) (option_copied l.next))
