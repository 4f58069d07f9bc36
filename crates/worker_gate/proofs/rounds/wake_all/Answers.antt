use Rattle.std.proofs.Common.{◌<◌, length, arith}
use Rattle.worker_gate.proofs.Playing.{wakes_next}
use Rattle.worker_gate.proofs.rounds.wake_all.Goals as goal

pub loop-place-preserved : goal.loop-place-preserved
loop-place-preserved c =
    let so = c.loop-place.invariant in
    let there : c.loop-place.place < length c.loop-place.roles.items = let all = c.len-place-end.ensures in let count = so.0 in let below = c.loop-place-test.true in omega (arith, all, count, below) in
    wakes_next c.args.roles.now.items c.loop-place.roles.items c.loop-place.place c.index_mut.result.now there so c.index_mut.ensures.value
