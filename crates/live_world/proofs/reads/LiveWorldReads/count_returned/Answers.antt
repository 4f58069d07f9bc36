use Rattle.std.proofs.Common.{◌∙◌, ap, length}
use Rattle.tp_model.specs.Actions.{returning}
use Rattle.live_world.specs.Live.{Live}
use Rattle.live_world.proofs.reads.LiveWorldReads.count_returned.Goals as goal

pub returns : goal.returns
returns c = c.count_returned.ensures ∙ ap (λ (l : Live). length (returning l.world c.args.words.now c.args.slots.now).jobs) c.self.view_is
