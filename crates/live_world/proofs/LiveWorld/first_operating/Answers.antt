use Rattle.std.proofs.Common.{◌+◌, cond, find, nat_lt, sym, ap, ◌∙◌}
use Rattle.tp_base.specs.declared.rows.CallbackRow.{CallbackRow}
use Rattle.tp_model.specs.Groups.{first_operating}
use Rattle.live_world.specs.Closing.{lesser, operates}
use Rattle.live_world.specs.Live.{Live}
use Rattle.live_world.specs.View.{shown}
use Rattle.live_world.proofs.Along.{after_of, number_of}
use Rattle.live_world.proofs.LeastOperating.{LeastNext, least_after, least_first, least_next, none_operates}
use Rattle.live_world.proofs.Walks.{rest}
use Rattle.live_world.proofs.LiveWorld.first_operating.Goals as goal
use Rattle.live_world.proofs.LiveWorld.first_operating.Goals.{In-Some}

next : (c : In-Some) → LeastNext c.args.self.now.world c.args.group.0 c.in-Some.callback c.loop-next.next c.loop-next.least
next c = least_next c.args.self.now.world c.args.group.0 (c.args.self.now.made + 1) c.in-Some.callback c.loop-next.next c.loop-next.least c.is_reachable.ensures.sound.numbers c.in-Some.is c.loop-next.invariant

pub loop-next-init : goal.loop-next-init
loop-next-init c = least_first c.args.self.now.world c.args.group.0 (c.args.self.now.made + 1) c.after-next.result c.is_reachable.ensures.sound.numbers (c.after-next.ensures ∙ ap (λ (l : Live). find (λ (x : CallbackRow). nat_lt 0 x.number) l.world.callbacks) c.self.view_is)

pub loop-next-smaller : goal.loop-next-smaller
loop-next-smaller c = (next (goal.at.loop-next-smaller c).In-Some).later c.after-next-in-Some.result (c.after-next-in-Some.ensures ∙ ap (λ (l : Live). after_of l.world.callbacks c.in-Some.callback) c.self.view_is)

pub loop-next-preserved : goal.loop-next-preserved
loop-next-preserved c =
    (next (goal.at.loop-next-preserved c).In-Some).goes_on c.after-next-in-Some.result c.least_with-least.result (c.after-next-in-Some.ensures ∙ ap (λ (l : Live). after_of l.world.callbacks c.in-Some.callback) c.self.view_is)
    (c.least_with-least.ensures ∙ ap (λ (l : Live). cond (operates l.world.objects c.args.group.0 c.in-Some.callback) (lesser c.loop-next.least c.in-Some.callback.object.0) c.loop-next.least) c.self.view_is)

pub returns-then-not-are_operating : goal.returns-then-not-are_operating
returns-then-not-are_operating c =
    none_operates (shown c.self.inside).world c.args.group.0 (sym c.are_operating.ensures ∙ c.if-not-are_operating.true)
    ∙ ap (λ (l : Live). first_operating l.world c.args.group.0) c.self.view_is

pub returns : goal.returns
returns c = ap (λ o. least_after c.args.self.now.world c.args.group.0 c.loop-next.least (rest number_of c.args.self.now.world.callbacks o)) (sym c.in_default.is) ∙ c.loop-next.invariant.left
