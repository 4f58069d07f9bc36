use Rattle.std.proofs.Common.{length, filter, true}
use Rattle.std.specs.Option.{option_copied}
use Rattle.tp_base.specs.declared.rows.WaitTarget.TheVariants.{Group}
use Rattle.tp_model.specs.Waits.{is_cancelled_by}
use Rattle.live_world.specs.Closing.{is_of_group}
use Rattle.live_world.proofs.Walks.{rest}
use Rattle.live_world.proofs.Along.{number_of}
use Rattle.live_world.proofs.GroupWalks.{CountingRows}
use Rattle.live_world.proofs.LiveWorld.count_of_group.Given as goal

abbrev pub invariant-loop-next : goal.invariant-loop-next
invariant-loop-next l = CountingRows (is_of_group l.fn.group) (is_cancelled_by (Group l.fn.group) true) (filter (is_of_group l.fn.group) l.self.world.callbacks) (option_copied l.next) l.count.all l.count.pending

abbrev pub decreases-loop-next : goal.decreases-loop-next
decreases-loop-next l = length (rest number_of (filter (is_of_group l.fn.group) l.self.world.callbacks) (option_copied l.next))
