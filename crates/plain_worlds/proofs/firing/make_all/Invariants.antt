use Rattle.std.proofs.Common.{◌≡◌, ◌++◌, drop}
use Rattle.tp_model.specs.Sources.{rows_of}
use Rattle.plain_worlds.proofs.firing.make_all.Given as goal

abbrev pub invariant-loop-job : goal.invariant-loop-job
invariant-loop-job l = l.callbacks.items ++ rows_of l.objects l.number (drop l.job-index l.jobs) ≡ l.initial.callbacks.items ++ rows_of l.objects l.first l.jobs
