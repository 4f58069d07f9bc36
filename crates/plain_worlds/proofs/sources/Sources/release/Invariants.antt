use Rattle.std.proofs.Common.{◌≡◌, ◌-◌}
use Rattle.tp_model.specs.Sources.{release_times}
use Rattle.plain_worlds.specs.Firing.{so_far}
use Rattle.plain_worlds.proofs.sources.Sources.release.Given as goal

abbrev pub invariant-armed : goal.invariant-armed
invariant-armed l = release_times (l.armed - l.counter) l.kernel.0 (so_far l.self l.jobs.items) ≡ release_times l.armed l.kernel.0 (so_far l.initial.self l.initial.jobs.items)
