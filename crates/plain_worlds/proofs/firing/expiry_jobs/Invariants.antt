use Rattle.std.proofs.Common.{◌≡◌, ◌++◌, drop, map}
use Rattle.tp_model.specs.Sources.{expiry_job}
use Rattle.plain_worlds.proofs.firing.expiry_jobs.Given as goal

abbrev pub invariant-loop-setting : goal.invariant-loop-setting
invariant-loop-setting l = l.jobs.items ++ map (expiry_job l.armings) (drop l.setting-index l.due) ≡ map (expiry_job l.armings) l.due
