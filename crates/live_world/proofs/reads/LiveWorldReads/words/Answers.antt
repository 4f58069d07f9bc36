use Rattle.std.proofs.Common.{◌∙◌, ap}
use Rattle.tp_model.specs.Actions.{words_of}
use Rattle.live_world.specs.Live.{Live}
use Rattle.live_world.proofs.reads.LiveWorldReads.words.Goals as goal

pub returns : goal.returns
returns c = c.words.ensures ∙ ap (λ (l : Live). words_of l.world c.args.who c.args.slots.now) c.self.view_is
