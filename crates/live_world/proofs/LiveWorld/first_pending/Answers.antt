use Rattle.std.proofs.Common.{ap, ◌+◌, sym, ◌∙◌}
use Rattle.std.specs.Option.{option_copied}
use Rattle.live_world.proofs.Along.{Seeks, after_here, first_here, seeking_first, seeks, there_here}
use Rattle.live_world.proofs.LiveWorld.first_pending.Goals as goal
use Rattle.live_world.proofs.LiveWorld.first_pending.Goals.{In-Some}

one : (c : In-Some) → Seeks c.args.object c.args.self.now.world c.in-Some.callback.now (option_copied c.loop-next.next)
one c = seeks c.args.self.now.world (c.args.self.now.made + 1) c.args.object c.in-Some.callback.now (option_copied c.loop-next.next) c.is_reachable.ensures.sound.numbers (ap option_copied c.in-Some.is) c.loop-next.invariant

pub loop-next-init : goal.loop-next-init
loop-next-init c = seeking_first c.args.self.now.world (c.args.self.now.made + 1) c.args.object (option_copied c.first_outstanding-next.result) c.is_reachable.ensures.sound.numbers (first_here c.self.inside c.self.view_is c.args.object c.first_outstanding-next.ensures)

pub returns-then-is_pending : goal.returns-then-is_pending
returns-then-is_pending c = sym ((one (goal.at.returns-then-is_pending c).In-Some).first (sym c.is_pending.ensures ∙ c.if-is_pending.true))

pub next_outstanding-next-requires : goal.next_outstanding-next-requires
next_outstanding-next-requires c = there_here c.self.inside c.self.view_is c.in-Some.callback.now ((one (goal.at.next_outstanding-next-requires c).In-Some).at.there)

pub loop-next-smaller : goal.loop-next-smaller
loop-next-smaller c = (one (goal.at.loop-next-smaller c).In-Some).at.later (option_copied c.next_outstanding-next.result) (after_here c.self.inside c.self.view_is c.in-Some.callback.now c.next_outstanding-next.ensures)

pub loop-next-preserved : goal.loop-next-preserved
loop-next-preserved c =
    let follows = after_here c.self.inside c.self.view_is c.in-Some.callback.now c.next_outstanding-next.ensures in
    (one (goal.at.loop-next-preserved c).In-Some).others (sym c.is_pending.ensures ∙ c.if-is_pending.false) (option_copied c.next_outstanding-next.result) follows
