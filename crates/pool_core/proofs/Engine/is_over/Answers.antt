use Rattle.std.proofs.Common.{ap, ◌∙◌}
use Rattle.tp_model.proofs.Over.{is_over_forget}
use Rattle.tp_model.specs.Over.{is_over}
use Rattle.tp_model.specs.Support.Remembered.{Remembered}
use Rattle.tp_model.specs.World.{World}
use Rattle.pool_core.proofs.Engine.is_over.Goals as goal

pub returns : goal.returns
returns c w stands = c.is_over.ensures ∙ ap (λ (r : Remembered). is_over r.world c.args.room) c.self.view_is ∙ ap (λ (v : World). is_over v c.args.room) stands.remembers ∙ is_over_forget w c.args.room
