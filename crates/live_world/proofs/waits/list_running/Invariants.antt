use Rattle.std.proofs.Common.{length}
use Rattle.live_callbacks.specs.Callbacks.{outstanding_among}
use Rattle.live_world.specs.Invariant.{is_running_callback}
use Rattle.live_world.proofs.Along.{number_of}
use Rattle.live_world.proofs.Covering.{Listing}
use Rattle.live_world.proofs.Walks.{rest}
use Rattle.std.specs.Option.{option_copied}
use Rattle.live_world.proofs.waits.list_running.Given as goal

-- those before the next are listed
abbrev pub invariant-loop-next : goal.invariant-loop-next
invariant-loop-next l = Listing number_of is_running_callback (outstanding_among l.fn.callbacks.rows l.fn.object) l.fn.covers l.place l.covers (option_copied l.next)

abbrev pub decreases-loop-next : goal.decreases-loop-next
decreases-loop-next l = length (rest number_of (outstanding_among l.fn.callbacks.rows l.fn.object) (option_copied l.next))
