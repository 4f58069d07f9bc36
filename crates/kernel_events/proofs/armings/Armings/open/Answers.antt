use Rattle.kernel_events.proofs.Opened.{opened}
use Rattle.kernel_events.proofs.armings.Armings.open.Goals as goal

pub invariant_of-result : goal.invariant_of-result
invariant_of-result c = rw (c.in_ok-open.ensures, c.in_ok-open-2.ensures) (opened c.args.kernels c.args.objects)
