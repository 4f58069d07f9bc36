use Rattle.std.proofs.Common.{arith}
use Rattle.tp_script.proofs.named.name_on.Goals as goal

pub name_among-requires : goal.name_among-requires
name_among-requires c = omega (arith, c.in-Some.ensures.within, c.loop-found.invariant.begun, c.loop-found.invariant.fits, c.requires)
