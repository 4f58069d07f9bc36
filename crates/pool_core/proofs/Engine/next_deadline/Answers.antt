use Rattle.std.proofs.Common.{ap, ◌∙◌}
use Rattle.tp_base.specs.Timers.{next_deadline}
use Rattle.tp_model.specs.Sources.{Sources}
use Rattle.tp_model.specs.Support.Remembered.{Remembered}
use Rattle.tp_model.specs.World.{World}
use Rattle.pool_core.proofs.Engine.next_deadline.Goals as goal

pub returns : goal.returns
returns c w stands = c.next_deadline.ensures ∙ ap (λ (s : Sources). next_deadline s.settings) c.sources.ensures.sources ∙ ap (λ (r : Remembered). next_deadline r.world.settings) c.self.view_is ∙ ap (λ (v : World). next_deadline v.settings) stands.remembers
