use Rattle.std.proofs.Common.{arith}
use Rattle.tp_port.proofs.Threads.{finished_next, parts_next, sized_next}
use Rattle.tp_port.proofs.devices.finish_all.Goals as goal

pub loop-device-preserved : goal.loop-device-preserved
loop-device-preserved g c =
    let invariant = c.loop-device.invariant in
    let steps = c.in-Some.ensures.steps in
    record {
      goes = tt;
      ends = tt;
      parts = parts_next _ _ _ _ _ invariant.parts steps.0;
      sized = sized_next _ _ _ _ _ invariant.sized steps.1 steps.0;
      finished = finished_next _ _ _ _ _ invariant.finished c.finish.ensures c.push_reserved.ensures.items;
      fits = omega (arith, invariant.fits, c.push_reserved.ensures.capacity);
    }
