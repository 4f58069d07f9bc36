use Rattle.std.proofs.Common.{◌+◌, refl, sym}
use Rattle.live_queries.proofs.Above.{fewer_above}
use Rattle.live_queries.proofs.LeftAfter.{Seeks, none_left, seeks}
use Rattle.live_queries.proofs.over.left_after.Given.{Over}
use Rattle.live_queries.proofs.over.left_after.Goals as goal
use Rattle.live_queries.proofs.over.left_after.Goals.{In-Some}

one : (g : Over) (c : In-Some g) → Seeks c.args.number (g.W.Reads.world_of c.args.world.now) c.in-Some.callback
one g c = seeks c.args.number c.loop-callback.passed (g.W.Reads.made_of c.args.world.now + 1) (g.W.Reads.world_of c.args.world.now) c.in-Some.callback c.is_reachable.ensures.sound.numbers (sym c.in-Some.ensures) c.loop-callback.invariant

pub loop-callback-init : goal.loop-callback-init
loop-callback-init g c = refl

pub returns-in-Some-left : goal.returns-in-Some-left
returns-in-Some-left g c = (one g (goal.at.returns-in-Some-left g c).In-Some).found c.in-Some-left.left c.in-Some-left.ensures

pub loop-callback-smaller : goal.loop-callback-smaller
loop-callback-smaller g c = fewer_above c.loop-callback.passed (g.W.Reads.made_of c.args.world.now + 1) (g.W.Reads.world_of c.args.world.now).callbacks c.in-Some.callback c.is_reachable.ensures.sound.numbers (sym c.in-Some.ensures)

pub loop-callback-preserved : goal.loop-callback-preserved
loop-callback-preserved g c = (one g (goal.at.loop-callback-preserved g c).In-Some).others c.in_default-left.ensures

pub returns : goal.returns
returns g c = none_left c.args.number c.loop-callback.passed (g.W.Reads.world_of c.args.world.now) (sym c.in_default.ensures) c.loop-callback.invariant
