use Rattle.std.proofs.Common.{sym, ap, ◌∙◌}
use Rattle.live_world.specs.Closing.{settled_group}
use Rattle.live_world.proofs.BeginClose.{not_settled_group}
use Rattle.live_world.proofs.LiveWorld.settle_group.Goals as goal

pub returns-else-cancel : goal.returns-else-cancel
returns-else-cancel c = not_settled_group c.args.self.now c.args.group c.is_reachable.ensures.living ∙ ap (settled_group c.args.self.now c.args.group) (sym c.if-cancel.false)
