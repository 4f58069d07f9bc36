use Rattle.std.proofs.Common.{◌+◌, ◌-◌, ◌∙◌, ap}
use Rattle.tp_model.specs.Sources.{release_times}
use Rattle.plain_worlds.specs.Firing.{so_far}
use Rattle.plain_worlds.proofs.Loops.{released_one}
use Rattle.plain_worlds.proofs.sources.Sources.release.Goals as goal

pub armed-preserved : goal.armed-preserved
armed-preserved c =
    ap (release_times (c.len-armed.result - (c.armed.counter + 1)) c.args.kernel.0) c.in_ok-release_first.ensures
    ∙ released_one c.args.kernel.0 c.len-armed.result c.armed.counter (so_far c.armed.self c.armed.jobs.items) c.armed-test.true
    ∙ c.armed.invariant
