use Rattle.std.proofs.Common.{length}
use Rattle.tp_model.specs.Groups.{members}
use Rattle.live_world.proofs.MembersClosed.{ClosingMembers}
use Rattle.live_world.proofs.LiveWorld.close_members.Given as goal

abbrev pub invariant-loop-number : goal.invariant-loop-number
invariant-loop-number l = ClosingMembers l.who l.group l.cancel l.fn.self l.self

abbrev pub decreases-loop-number : goal.decreases-loop-number
decreases-loop-number l = length (members l.self.world l.group.0)
