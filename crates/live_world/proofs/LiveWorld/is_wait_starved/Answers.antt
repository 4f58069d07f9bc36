use Rattle.std.proofs.Common.{sym}
use Rattle.live_world.specs.Waiting.{held_by}
use Rattle.live_world.proofs.Starving.{not_starved}
use Rattle.live_world.proofs.LiveWorld.is_wait_starved.Goals as goal

pub returns-then-room-ge4 : goal.returns-then-room-ge4
returns-then-room-ge4 c = sym (not_starved c.args.self.now.world c.args.room (held_by c.args.self.now.world c.args.who) c.if-room-ge4.true)
