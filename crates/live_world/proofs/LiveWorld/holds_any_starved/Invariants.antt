use Rattle.std.proofs.Common.{◌&&◌, length}
use Rattle.tp_model.specs.Calls.Waits.{is_starved}
use Rattle.tp_model.specs.Laws.Entries.{is_among}
use Rattle.live_world.specs.Waiting.{held_by}
use Rattle.live_world.proofs.Along.{number_of}
use Rattle.live_world.proofs.Looking.{Looking}
use Rattle.live_world.proofs.Walks.{rest}
use Rattle.live_world.proofs.LiveWorld.holds_any_starved.Given as goal

abbrev pub invariant-loop-next : goal.invariant-loop-next
invariant-loop-next l = Looking number_of (λ c. is_starved l.self.world l.room c && is_among c.number (held_by l.self.world l.fn.who)) l.self.world.callbacks l.next

abbrev pub decreases-loop-next : goal.decreases-loop-next
decreases-loop-next l = length (rest number_of l.self.world.callbacks l.next)
