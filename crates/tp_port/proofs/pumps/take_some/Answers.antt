use Rattle.std.proofs.Common.{arith}
use Rattle.tp_port.proofs.Pumping.{took_one}
use Rattle.tp_port.proofs.pumps.take_some.Goals as goal

pub loop-preserved-in-Some-take : goal.loop-preserved-in-Some-take
loop-preserved-in-Some-take g c = record {
  goes = tt;
  ends = tt;
  few = omega arith;
  took = took_one _ _ _ _ _ _ _ _ c.loop.invariant.took c.in-Some-take.ensures.some c.complete.ensures;
}
