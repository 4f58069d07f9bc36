use Rattle.std.proofs.Common.{◌+◌, length, ap, filter, arith}
use Rattle.std.specs.Option.{option_copied}
use Rattle.live_world.specs.Invariant.{is_pending_callback, is_running_callback}
use Rattle.live_world.specs.Waiting.{outstanding_of}
use Rattle.live_world.proofs.Walks.{rest}
use Rattle.live_world.proofs.Along.{CountsOne, after_here, counting_first, counts_one, few, first_here, number_of, there_here}
use Rattle.live_world.proofs.LiveWorld.cancel_counts.Goals as goal
use Rattle.live_world.proofs.LiveWorld.cancel_counts.Goals.{In-Some}

one : (c : In-Some) → CountsOne c.args.self.now.world c.args.object c.in-Some.callback.now (option_copied c.loop-next.next) c.loop-next.count.cancelled c.loop-next.count.covered
one c =
    counts_one c.args.self.now.world (c.args.self.now.made + 1) c.args.object c.in-Some.callback.now (option_copied c.loop-next.next) c.loop-next.count.cancelled c.loop-next.count.covered c.is_reachable.ensures.sound.numbers (ap option_copied c.in-Some.is) c.loop-next.invariant

pub loop-next-init : goal.loop-next-init
loop-next-init c =
    counting_first c.args.self.now.world (c.args.self.now.made + 1) c.args.object (option_copied c.first_outstanding-next.result) c.is_reachable.ensures.sound.numbers (first_here c.self.inside c.self.view_is c.args.object c.first_outstanding-next.ensures)

pub counted_with-count-requires-clause-covered : goal.counted_with-count-requires-clause-covered
counted_with-count-requires-clause-covered c = few c.args.self.now.world c.args.object is_running_callback c.loop-next.count.covered (omega (arith, c.loop-next.invariant.running_counted)) (omega (arith, c.is_reachable.ensures.bounded.slots_most, c.is_reachable.ensures.bounded.limits.slots_most))

pub counted_with-count-requires-clause-cancelled : goal.counted_with-count-requires-clause-cancelled
counted_with-count-requires-clause-cancelled c = few c.args.self.now.world c.args.object is_pending_callback c.loop-next.count.cancelled (omega (arith, c.loop-next.invariant.pending_counted)) (omega (arith, c.is_reachable.ensures.bounded.slots_most, c.is_reachable.ensures.bounded.limits.slots_most))

pub next_outstanding-next-requires : goal.next_outstanding-next-requires
next_outstanding-next-requires c = there_here c.self.inside c.self.view_is c.in-Some.callback.now ((one (goal.at.next_outstanding-next-requires c).In-Some).at.there)

pub loop-next-smaller : goal.loop-next-smaller
loop-next-smaller c = (one (goal.at.loop-next-smaller c).In-Some).at.later (option_copied c.next_outstanding-next.result) (after_here c.self.inside c.self.view_is c.in-Some.callback.now c.next_outstanding-next.ensures)

pub loop-next-preserved : goal.loop-next-preserved
loop-next-preserved c =
    let follows = after_here c.self.inside c.self.view_is c.in-Some.callback.now c.next_outstanding-next.ensures in
    (one (goal.at.loop-next-preserved c).In-Some).goes_on (option_copied c.next_outstanding-next.result) c.counted_with-count.result.cancelled c.counted_with-count.result.covered follows c.counted_with-count.ensures.cancelled c.counted_with-count.ensures.covered

pub returns-clause-cancelled : goal.returns-clause-cancelled
returns-clause-cancelled c = omega (arith, c.loop-next.invariant.pending_counted, ap (λ o. length (filter is_pending_callback (rest number_of (outstanding_of c.args.self.now.world c.args.object) o))) (ap option_copied c.in_default.is))

pub returns-clause-covered : goal.returns-clause-covered
returns-clause-covered c = omega (arith, c.loop-next.invariant.running_counted, ap (λ o. length (filter is_running_callback (rest number_of (outstanding_of c.args.self.now.world c.args.object) o))) (ap option_copied c.in_default.is))
