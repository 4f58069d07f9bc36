use Rattle.tp_port.proofs.Pumping.{took_last}
use Rattle.tp_port.proofs.pumps.drain.Goals as goal

pub loop-preserved : goal.loop-preserved
loop-preserved g c = record { goes = tt; ends = tt; took = took_last _ _ _ _ _ _ _ _ c.loop.invariant.took c.in-Some-take_last.ensures.some c.complete.ensures }
