use Rattle.std.proofs.Common.{refl, ◌∙◌}
use Rattle.live_world.specs.View.{shown}
use Rattle.live_world.proofs.Busy.{busy_by_number}
use Rattle.live_world.proofs.LiveWorld.busy_workers.Goals as goal

pub returns : goal.returns
returns c = rw (← c.self.view_is) (c.busy.ensures ∙ busy_by_number (shown c.self.inside).world c.self.inside.pools.workers refl)
