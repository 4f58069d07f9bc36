use Rattle.std.proofs.Common.{length}
use Rattle.sources.specs.Firing.{rest_of}
use Rattle.live_world.proofs.Fired.{IsFiring}
use Rattle.live_world.proofs.firing.fire_all.Given as goal

abbrev pub invariant-loop-object : goal.invariant-loop-object
invariant-loop-object l = IsFiring (rest_of l.cause l.fn.sources.sources) (rest_of l.cause l.sources.sources) l.fn.objects.objects l.fn.made l.made l.fn.sources l.sources l.fn.callbacks l.callbacks

abbrev pub decreases-loop-object : goal.decreases-loop-object
decreases-loop-object l = length (rest_of l.cause l.sources.sources).jobs
