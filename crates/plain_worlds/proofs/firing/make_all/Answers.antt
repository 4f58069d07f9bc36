use Rattle.std.proofs.Common.{refl}
use Rattle.tp_model.specs.Sources.{rows_of}
use Rattle.plain_worlds.proofs.Loops.{all_through}
use Rattle.plain_worlds.proofs.firing.make_all.Goals as goal

pub returns : goal.returns
returns c = all_through (rows_of c.args.objects.now c.loop-job.number) c.args.jobs.now c.loop-job.callbacks.items _ c.loop-job.job-index refl c.loop-job-test.false c.loop-job.invariant
