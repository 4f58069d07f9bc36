use Rattle.std.proofs.Common.{not, filter, length, refl, ap, ◌∙◌}
use Rattle.live_callbacks.specs.Callbacks.{is_open}
use Rattle.tp_model.specs.Counts.{has_persistent}
use Rattle.tp_model.specs.World.{World}
use Rattle.live_world.specs.Live.{Live}
use Rattle.live_world.proofs.Takeable.{takeable_shown}
use Rattle.live_world.proofs.LiveWorld.takeable.Goals as goal

pub returns : goal.returns
returns c =
    let w : World = c.args.self.now.world in
    c.takeable.ensures
    ∙ ap (λ b. length (filter (is_open c.args.pool.0 b) c.self.inside.callbacks.rows)) c.takes_all.ensures
    ∙ takeable_shown w c.args.pool.0 c.args.persistent (not (has_persistent w c.args.pool.0)) refl c.self.inside.callbacks.rows (ap (λ (l : Live). l.world.callbacks) c.self.view_is)
