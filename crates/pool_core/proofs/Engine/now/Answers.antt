use Rattle.std.proofs.Common.{ap, ◌∙◌}
use Rattle.tp_model.specs.Sources.{Sources}
use Rattle.tp_model.specs.Support.Remembered.{Remembered}
use Rattle.tp_model.specs.World.{World}
use Rattle.pool_core.proofs.Engine.now.Goals as goal

pub returns : goal.returns
returns c w stands = c.now.ensures.now ∙ ap (λ (s : Sources). s.now) c.sources.ensures.sources ∙ ap (λ (r : Remembered). r.world.now) c.self.view_is ∙ ap (λ (v : World). v.now) stands.remembers
