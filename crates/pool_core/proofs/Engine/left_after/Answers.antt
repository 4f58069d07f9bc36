use Rattle.std.proofs.Common.{ap, ◌∙◌}
use Rattle.tp_model.proofs.Over.{left_after_forget}
use Rattle.tp_model.specs.Over.{left_after}
use Rattle.tp_model.specs.Support.Remembered.{Remembered}
use Rattle.tp_model.specs.World.{World}
use Rattle.pool_core.proofs.Engine.left_after.Goals as goal

pub returns : goal.returns
returns c w stands = c.left_after.ensures ∙ ap (λ (r : Remembered). left_after r.world c.args.number) c.self.view_is ∙ ap (λ (v : World). left_after v c.args.number) stands.remembers ∙ left_after_forget w c.args.number
