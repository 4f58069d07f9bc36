use Rattle.std.proofs.Common.{sym, ap, ◌∙◌}
use Rattle.live_world.specs.Live.{settled}
use Rattle.live_world.proofs.Beginnings.{not_settled}
use Rattle.live_world.proofs.LiveWorld.settle.Goals as goal

pub returns-else-cancel : goal.returns-else-cancel
returns-else-cancel c = not_settled c.args.self.now c.args.object c.is_reachable.ensures.living ∙ ap (settled c.args.self.now c.args.object) (sym c.if-cancel.false)
