use Rattle.std.proofs.Common.{◌<◌, length, arith}
use Rattle.part_places.specs.Places.{given}
use Rattle.worker_gate.proofs.Crews.{round_goes_on}
use Rattle.worker_gate.proofs.crew.play_round.Goals as goal

pub loop-place-preserved : goal.loop-place-preserved
loop-place-preserved g c =
    let so = c.loop-place.invariant in
    let there : c.loop-place.place < length c.loop-place.crew.items = let all = c.len-place-end.ensures in let count = so.count in let below = c.loop-place-test.true in omega (arith, all, count, below) in
    round_goes_on (given g.R.Routines.next_of g.R.Routines.after_of c.args.routines.now) c.args.pool.now c.args.crew.now.items c.loop-place.crew.items c.loop-place.place c.loop-place.round
    c.turn.result c.both-round.result c.index_mut.result.now c.turn.new.self there so c.index_mut.ensures.value c.turn.ensures.ready c.turn.ensures.goes_on c.turn.ensures.said c.both-round.ensures
