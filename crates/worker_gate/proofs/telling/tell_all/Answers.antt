use Rattle.std.proofs.Common.{◌<◌, length, arith}
use Rattle.worker_gate.proofs.Tellings.{telling_begins, telling_goes_on}
use Rattle.worker_gate.proofs.telling.tell_all.Goals as goal

pub loop-place-init : goal.loop-place-init
loop-place-init g c = telling_begins c.args.pool.now c.args.first.now c.args.others.now.items c.requires.first c.requires.others

pub loop-place-preserved : goal.loop-place-preserved
loop-place-preserved g c =
    let so = c.loop-place.invariant in
    let there : c.loop-place.place < length c.loop-place.others.items = let all = c.len-place-end.ensures in let count = so.count in let below = c.loop-place-test.true in omega (arith, all, count, below) in
    let t = c.tell.ensures in
    telling_goes_on c.args.pool.now c.args.first.now c.loop-place.first c.tell.new.self c.args.others.now.items c.loop-place.others.items c.loop-place.place c.index_mut.result.now c.tell.new.other there so c.index_mut.ensures.value t.first t.other t.told t.heard
