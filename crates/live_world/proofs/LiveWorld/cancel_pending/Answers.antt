use Rattle.std.proofs.Common.{◌+◌, length, sym, ap, ◌∙◌, arith}
use Rattle.live_world.proofs.Along.{after_here, first_here, there_here}
use Rattle.live_world.proofs.Cancelled.{CancelsNext, cancelling_first, cancelling_ended, cancels_next}
use Rattle.live_world.proofs.LiveWorld.cancel_pending.Goals as goal
use Rattle.live_world.proofs.LiveWorld.cancel_pending.Goals.{After-is_reachable-in-Some}

one : (c : After-is_reachable-in-Some) → CancelsNext c.args.object c.args.self.now c.loop-next.self c.in-Some.callback c.loop-next.next
one c = cancels_next c.args.object (c.loop-next.self.made + 1) c.loop-next.self c.in-Some.callback c.is_reachable-in-Some.ensures.sound.numbers c.args.self.now c.loop-next.next c.in-Some.is c.loop-next.invariant

pub loop-next-init : goal.loop-next-init
loop-next-init c = cancelling_first c.args.object (c.args.self.now.made + 1) c.args.self.now c.copied-next.result c.is_reachable.ensures.sound.numbers (first_here c.self.inside c.self.view_is c.args.object (c.copied-next.ensures ∙ c.first_outstanding.ensures))

pub next_outstanding-requires : goal.next_outstanding-requires
next_outstanding-requires c = there_here c.self-in-Some.inside c.self-in-Some.view_is c.in-Some.callback ((one (goal.at.next_outstanding-requires c).After-is_reachable-in-Some).seeks.at.there)

pub cancel_callback-requires-clause-found : goal.cancel_callback-requires-clause-found
cancel_callback-requires-clause-found c = (one (goal.at.cancel_callback-requires-clause-found c).After-is_reachable-in-Some).found (sym c.is_pending.ensures ∙ c.if-is_pending.true)

pub loop-next-smaller-then-is_pending : goal.loop-next-smaller-then-is_pending
loop-next-smaller-then-is_pending c =
    let o = one (goal.at.loop-next-smaller-then-is_pending c).After-is_reachable-in-Some in
    let follows = after_here c.self-in-Some.inside c.self-in-Some.view_is c.in-Some.callback (c.copied-next-in-Some.ensures ∙ c.next_outstanding.ensures) in
    omega (arith, ap length (o.same c.copied-next-in-Some.result follows c.cancel_callback.new.self c.cancel_callback.ensures), o.seeks.at.later c.copied-next-in-Some.result follows)

pub loop-next-preserved-then-is_pending : goal.loop-next-preserved-then-is_pending
loop-next-preserved-then-is_pending c =
    let follows = after_here c.self-in-Some.inside c.self-in-Some.view_is c.in-Some.callback (c.copied-next-in-Some.ensures ∙ c.next_outstanding.ensures) in
    (one (goal.at.loop-next-preserved-then-is_pending c).After-is_reachable-in-Some).cancels (sym c.is_pending.ensures ∙ c.if-is_pending.true) c.copied-next-in-Some.result follows c.cancel_callback.new.self c.cancel_callback.ensures

pub loop-next-smaller : goal.loop-next-smaller
loop-next-smaller c =
    let follows = after_here c.self-in-Some.inside c.self-in-Some.view_is c.in-Some.callback (c.copied-next-in-Some.ensures ∙ c.next_outstanding.ensures) in
    (one (goal.at.loop-next-smaller c).After-is_reachable-in-Some).seeks.at.later c.copied-next-in-Some.result follows

pub loop-next-preserved : goal.loop-next-preserved
loop-next-preserved c =
    let follows = after_here c.self-in-Some.inside c.self-in-Some.view_is c.in-Some.callback (c.copied-next-in-Some.ensures ∙ c.next_outstanding.ensures) in
    (one (goal.at.loop-next-preserved c).After-is_reachable-in-Some).passes (sym c.is_pending.ensures ∙ c.if-is_pending.false) c.copied-next-in-Some.result follows

pub returns : goal.returns
returns c = cancelling_ended c.args.object c.args.self.now c.loop-next.self c.loop-next.next c.in_default.is c.is_reachable-2.ensures.living c.loop-next.invariant
