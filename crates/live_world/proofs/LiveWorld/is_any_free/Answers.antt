use Rattle.std.proofs.Common.{ap, ◌∙◌}
use Rattle.std.specs.List.{list_any}
use Rattle.tp_model.specs.Stalled.{is_free}
use Rattle.live_world.specs.Live.{Live}
use Rattle.live_world.specs.View.{shown}
use Rattle.live_world.proofs.Takeable.{any_free_shown}
use Rattle.live_world.proofs.LiveWorld.is_any_free.Goals as goal
use Rattle.std.proofs.Common.{refl}

pub returns : goal.returns
returns c =
    c.is_any_free.ensures
    ∙ any_free_shown (shown c.self.inside).world c.self.inside.pools.workers refl
    ∙ ap (λ (l : Live). list_any (is_free l.world) l.world.workers) c.self.view_is
