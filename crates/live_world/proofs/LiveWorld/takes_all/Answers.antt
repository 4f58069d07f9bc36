use Rattle.std.proofs.Common.{not, sym, ap, ◌∙◌}
use Rattle.tp_model.specs.Counts.{has_persistent}
use Rattle.live_world.specs.Live.{Live}
use Rattle.live_world.proofs.Counting.{lacks_by_counts, lacks_unmade}
use Rattle.live_world.proofs.LiveWorld.takes_all.Goals as goal

pub returns-in-None : goal.returns-in-None
returns-in-None c =
    rw c.if-persistent.false
    (lacks_unmade c.self.inside c.args.pool.0 c.self.invariant (sym c.counts.ensures ∙ c.in-None.is)
    ∙ ap (λ (l : Live). not (has_persistent l.world c.args.pool.0)) c.self.view_is)

pub returns-in-Some : goal.returns-in-Some
returns-in-Some c =
    rw c.if-persistent.false
    (lacks_by_counts c.self.inside c.args.pool.0 c.in-Some.counts (sym c.counts.ensures ∙ c.in-Some.is)
    ∙ ap (λ (l : Live). not (has_persistent l.world c.args.pool.0)) c.self.view_is)
