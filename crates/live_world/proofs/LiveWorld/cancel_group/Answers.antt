use Rattle.std.proofs.Common.{◌≡◌, ◌+◌, List, length, sym, ap, ◌∙◌, arith, find}
use Rattle.tp_base.specs.declared.rows.CallbackRow.{CallbackRow}
use Rattle.live_world.specs.Closing.{is_of_group}
use Rattle.live_world.specs.Live.{Live}
use Rattle.live_world.proofs.GroupWalks.{InGroup, in_group, CancelsRow, cancelling_group, group_cancelled, cancels_row}
use Rattle.live_world.proofs.LiveWorld.cancel_group.Goals as goal
use Rattle.live_world.proofs.LiveWorld.cancel_group.Goals.{After-is_reachable-in-Some}

one : (c : After-is_reachable-in-Some) → CancelsRow c.args.group c.args.self.now c.loop-next.self c.in-Some.callback c.loop-next.next
one c = cancels_row c.args.group (c.loop-next.self.made + 1) c.loop-next.self c.in-Some.callback c.is_reachable-in-Some.ensures.sound.numbers c.is_reachable-in-Some.ensures.living c.args.self.now c.loop-next.next c.in-Some.is c.loop-next.invariant

here : (c : After-is_reachable-in-Some) → (kept : List CallbackRow) → kept ≡ c.loop-next.self.world.callbacks → InGroup c.args.group kept c.loop-next.self.world.callbacks c.in-Some.callback
here c kept same = in_group c.args.group (c.loop-next.self.made + 1) kept c.loop-next.self.world.callbacks c.in-Some.callback c.loop-next.next same c.is_reachable-in-Some.ensures.sound.numbers c.in-Some.is c.loop-next.invariant.among

pub loop-next-init : goal.loop-next-init
loop-next-init c =
    cancelling_group c.args.group (c.args.self.now.made + 1) c.args.self.now c.copied-next.result c.is_reachable.ensures.sound.numbers
    ((c.copied-next.ensures ∙ c.first_of_group.ensures) ∙ ap (λ (l : Live). find (is_of_group c.args.group) l.world.callbacks) c.self.view_is)

pub next_of_group-requires : goal.next_of_group-requires
next_of_group-requires c = (here (goal.at.next_of_group-requires c).After-is_reachable-in-Some c.self-in-Some.inside.callbacks.rows (ap (λ (l : Live). l.world.callbacks) c.self-in-Some.view_is)).there

pub cancel_callback-requires-clause-found : goal.cancel_callback-requires-clause-found
cancel_callback-requires-clause-found c = (one (goal.at.cancel_callback-requires-clause-found c).After-is_reachable-in-Some).there

pub loop-next-smaller-then-is_pending : goal.loop-next-smaller-then-is_pending
loop-next-smaller-then-is_pending c =
    let at = (goal.at.loop-next-smaller-then-is_pending c).After-is_reachable-in-Some in
    let o = one at in
    let follows = (here at c.self-in-Some.inside.callbacks.rows (ap (λ (l : Live). l.world.callbacks) c.self-in-Some.view_is)).next c.copied-next-in-Some.result (c.copied-next-in-Some.ensures ∙ c.next_of_group.ensures) in
    omega (arith, ap length (o.same c.copied-next-in-Some.result follows c.cancel_callback.new.self c.cancel_callback.ensures), o.at.later c.copied-next-in-Some.result follows)

pub loop-next-preserved-then-is_pending : goal.loop-next-preserved-then-is_pending
loop-next-preserved-then-is_pending c =
    let at = (goal.at.loop-next-preserved-then-is_pending c).After-is_reachable-in-Some in
    let o = one at in
    let follows = (here at c.self-in-Some.inside.callbacks.rows (ap (λ (l : Live). l.world.callbacks) c.self-in-Some.view_is)).next c.copied-next-in-Some.result (c.copied-next-in-Some.ensures ∙ c.next_of_group.ensures) in
    o.cancels (sym c.is_pending.ensures ∙ c.if-is_pending.true) c.copied-next-in-Some.result follows c.cancel_callback.new.self c.cancel_callback.ensures

pub loop-next-smaller : goal.loop-next-smaller
loop-next-smaller c =
    let at = (goal.at.loop-next-smaller c).After-is_reachable-in-Some in
    let o = one at in
    let follows = (here at c.self-in-Some.inside.callbacks.rows (ap (λ (l : Live). l.world.callbacks) c.self-in-Some.view_is)).next c.copied-next-in-Some.result (c.copied-next-in-Some.ensures ∙ c.next_of_group.ensures) in
    o.at.later c.copied-next-in-Some.result follows

pub loop-next-preserved : goal.loop-next-preserved
loop-next-preserved c =
    let at = (goal.at.loop-next-preserved c).After-is_reachable-in-Some in
    let o = one at in
    let follows = (here at c.self-in-Some.inside.callbacks.rows (ap (λ (l : Live). l.world.callbacks) c.self-in-Some.view_is)).next c.copied-next-in-Some.result (c.copied-next-in-Some.ensures ∙ c.next_of_group.ensures) in
    o.passed (sym c.is_pending.ensures ∙ c.if-is_pending.false) c.copied-next-in-Some.result follows

pub returns : goal.returns
returns c = group_cancelled c.args.group c.args.self.now c.loop-next.self c.loop-next.next c.in_default.is c.is_reachable-2.ensures.living c.loop-next.invariant
