use Rattle.std.proofs.Common.{◌+◌, ◌&&◌, Bool, ap, find, nat_lt, sym, ◌∙◌}
use Rattle.std.specs.List.{list_any}
use Rattle.tp_base.specs.declared.rows.CallbackRow.{CallbackRow}
use Rattle.tp_model.specs.Calls.Waits.{is_starved}
use Rattle.tp_model.specs.Laws.Entries.{is_among}
use Rattle.live_world.specs.Live.{Live}
use Rattle.live_world.specs.Waiting.{held_by}
use Rattle.live_world.proofs.Along.{after_of, first_row_is, number_of, row_at, rows_rise}
use Rattle.live_world.proofs.Looking.{Looks, looking_first, looks}
use Rattle.live_world.proofs.Starving.{any_starved}
use Rattle.live_world.proofs.Walks.{rest}
use Rattle.live_world.proofs.LiveWorld.holds_any_starved.Goals as goal
use Rattle.live_world.proofs.LiveWorld.holds_any_starved.Goals.{In-Some}

-- the row is starved, and its number held
abbrev test : In-Some → CallbackRow → Bool
test c x = is_starved c.args.self.now.world c.args.room x && is_among x.number (held_by c.args.self.now.world c.args.who)

one : (c : In-Some) → Looks number_of (test c) c.args.self.now.world.callbacks c.in-Some.callback c.loop-next.next
one c =
    looks number_of (test c) c.args.self.now.world.callbacks 1 c.in-Some.callback c.loop-next.next (rows_rise 1 (c.args.self.now.made + 1) c.args.self.now.world.callbacks c.is_reachable.ensures.sound.numbers) c.in-Some.is c.loop-next.invariant

pub loop-next-init : goal.loop-next-init
loop-next-init c =
    let rows = c.args.self.now.world.callbacks in
    looking_first number_of (λ x. is_starved c.args.self.now.world c.args.room x && is_among x.number (held_by c.args.self.now.world c.args.who)) rows 1 c.after-next.result (rows_rise 1 (c.args.self.now.made + 1) rows c.is_reachable.ensures.sound.numbers)
    (first_row_is (c.args.self.now.made + 1) rows c.after-next.result c.is_reachable.ensures.sound.numbers (c.after-next.ensures ∙ ap (λ (x : Live). find (λ (r : CallbackRow). nat_lt 0 r.number) x.world.callbacks) c.self.view_is))

pub is_held_starved-requires-clause-found : goal.is_held_starved-requires-clause-found
is_held_starved-requires-clause-found c =
    (row_at (c.args.self.now.made + 1) c.args.self.now.world.callbacks c.in-Some.callback c.loop-next.next c.is_reachable.ensures.sound.numbers c.in-Some.is c.loop-next.invariant.among).found

pub returns-then-is_held_starved : goal.returns-then-is_held_starved
returns-then-is_held_starved c =
    let w = c.args.self.now.world in
    sym ((one (goal.at.returns-then-is_held_starved c).In-Some).passes (sym c.is_held_starved.ensures ∙ c.if-is_held_starved.true))
    ∙ any_starved w (c.args.self.now.made + 1) c.args.room c.is_reachable.ensures.sound.numbers (held_by w c.args.who)

pub loop-next-smaller : goal.loop-next-smaller
loop-next-smaller c = (one (goal.at.loop-next-smaller c).In-Some).later c.after-next-in-Some.result (c.after-next-in-Some.ensures ∙ ap (λ (x : Live). after_of x.world.callbacks c.in-Some.callback) c.self.view_is)

pub loop-next-preserved : goal.loop-next-preserved
loop-next-preserved c =
    (one (goal.at.loop-next-preserved c).In-Some).others (sym c.is_held_starved.ensures ∙ c.if-is_held_starved.false) c.after-next-in-Some.result (c.after-next-in-Some.ensures ∙ ap (λ (x : Live). after_of x.world.callbacks c.in-Some.callback) c.self.view_is)

pub returns : goal.returns
returns c =
    let w = c.args.self.now.world in
    let q : CallbackRow → Bool = λ x. is_starved w c.args.room x && is_among x.number (held_by w c.args.who) in
    ap (λ o. list_any q (rest number_of w.callbacks o)) (sym c.in_default.is) ∙ c.loop-next.invariant.left ∙ any_starved w (c.args.self.now.made + 1) c.args.room c.is_reachable.ensures.sound.numbers (held_by w c.args.who)
