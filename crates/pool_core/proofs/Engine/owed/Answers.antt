use Rattle.std.proofs.Common.{ap, ◌∙◌}
use Rattle.tp_model.specs.Counts.{owed}
use Rattle.tp_model.specs.Support.Remembered.{Remembered}
use Rattle.tp_model.proofs.Forgetting.{owed_forget}
use Rattle.pool_core.proofs.Engine.owed.Goals as goal

pub returns : goal.returns
returns c w stands = c.self.invariant.owes ∙ ap (λ (r : Remembered). owed r.world) c.self.view_is ∙ ap owed stands.remembers ∙ owed_forget w
