use Rattle.std.proofs.Common.{sym, ap, ◌∙◌}
use Rattle.live_world.specs.Live.{Live}
use Rattle.world_reads.specs.Tally.{tally_of}
use Rattle.live_world.specs.Tally.{tally_shown}
use Rattle.live_world.proofs.Counting.{is_tally, is_no_tally}
use Rattle.live_world.proofs.LiveWorld.tally.Goals as goal

pub returns-in-None : goal.returns-in-None
returns-in-None c =
    is_no_tally c.self.inside c.args.pool.0 c.self.invariant (sym c.counts.ensures ∙ c.in-None.is)
    ∙ ap (λ (l : Live). tally_of l.world c.args.pool.0) c.self.view_is

pub returns-in-Some : goal.returns-in-Some
returns-in-Some c =
    c.tally_shown.ensures
    ∙ ap (λ n. tally_shown n c.in-Some.counts) c.pending.ensures.value
    ∙ is_tally c.self.inside c.args.pool.0 c.in-Some.counts c.self.invariant (sym c.counts.ensures ∙ c.in-Some.is)
    ∙ ap (λ (l : Live). tally_of l.world c.args.pool.0) c.self.view_is
