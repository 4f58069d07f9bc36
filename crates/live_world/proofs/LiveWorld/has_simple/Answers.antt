use Rattle.std.proofs.Common.{◌+◌, ◌==◌, filter, find, sym, ap, ◌∙◌, eq-eqb, ne_eqb}
use Rattle.std.specs.Option.{option_copied}
use Rattle.std.specs.List.{list_any}
use Rattle.tp_base.specs.declared.rows.CallbackRow.{CallbackRow}
use Rattle.tp_model.specs.World.{World}
use Rattle.live_world.specs.Closing.{is_of_group}
use Rattle.live_world.specs.Live.{Live}
use Rattle.live_world.proofs.Walks.{Rises, rest, rises_filter}
use Rattle.live_world.proofs.Along.{first_filtered, number_of, rows_rise}
use Rattle.live_world.proofs.GroupWalks.{InGroup, in_group}
use Rattle.live_world.proofs.Looking.{Looks, looking_first, looks, simple_live}
use Rattle.live_world.proofs.LiveWorld.has_simple.Goals as goal
use Rattle.live_world.proofs.LiveWorld.has_simple.Goals.{In-Some}

here : (c : In-Some) → InGroup c.args.group c.self.inside.callbacks.rows c.args.self.now.world.callbacks c.in-Some.callback.now
here c =
    in_group c.args.group (c.args.self.now.made + 1) c.self.inside.callbacks.rows c.args.self.now.world.callbacks c.in-Some.callback.now (option_copied c.loop-next.next) (ap (λ (l : Live). l.world.callbacks) c.self.view_is)
    c.is_reachable.ensures.sound.numbers (ap option_copied c.in-Some.is) c.loop-next.invariant.among

rising : (c : In-Some) → Rises number_of 1 (filter (is_of_group c.args.group) c.args.self.now.world.callbacks)
rising c = rises_filter number_of (is_of_group c.args.group) 1 c.args.self.now.world.callbacks (rows_rise 1 (c.args.self.now.made + 1) c.args.self.now.world.callbacks c.is_reachable.ensures.sound.numbers)

one : (c : In-Some) → Looks number_of (λ x. x.object.0 == 0) (filter (is_of_group c.args.group) c.args.self.now.world.callbacks) c.in-Some.callback.now (option_copied c.loop-next.next)
one c = looks number_of (λ x. x.object.0 == 0) (filter (is_of_group c.args.group) c.args.self.now.world.callbacks) 1 c.in-Some.callback.now (option_copied c.loop-next.next) (rising c) (ap option_copied c.in-Some.is) c.loop-next.invariant

pub loop-next-init : goal.loop-next-init
loop-next-init c =
    let rows = c.args.self.now.world.callbacks in
    looking_first number_of (λ x. x.object.0 == 0) (filter (is_of_group c.args.group) rows) 1 (option_copied c.first_of_group-next.result)
    (rises_filter number_of (is_of_group c.args.group) 1 rows (rows_rise 1 (c.args.self.now.made + 1) rows c.is_reachable.ensures.sound.numbers))
    (c.first_of_group-next.ensures ∙ ap (λ (l : Live). find (is_of_group c.args.group) l.world.callbacks) c.self.view_is ∙ first_filtered (is_of_group c.args.group) rows)

pub returns-then-callback-eq0 : goal.returns-then-callback-eq0
returns-then-callback-eq0 c =
    sym ((one (goal.at.returns-then-callback-eq0 c).In-Some).passes (eq-eqb c.in-Some.callback.now.object.0 0 c.if-callback-eq0.true))
    ∙ simple_live c.args.group c.args.self.now.world.callbacks (ap (λ (w : World). w.callbacks) c.is_reachable.ensures.living)

pub next_of_group-next-requires : goal.next_of_group-next-requires
next_of_group-next-requires c = (here (goal.at.next_of_group-next-requires c).In-Some).there

pub loop-next-preserved : goal.loop-next-preserved
loop-next-preserved c =
    (one (goal.at.loop-next-preserved c).In-Some).others (ne_eqb c.in-Some.callback.now.object.0 0 c.if-callback-eq0.false) (option_copied c.next_of_group-next.result)
    ((here (goal.at.loop-next-preserved c).In-Some).next (option_copied c.next_of_group-next.result) c.next_of_group-next.ensures)

pub loop-next-smaller : goal.loop-next-smaller
loop-next-smaller c = (one (goal.at.loop-next-smaller c).In-Some).later (option_copied c.next_of_group-next.result) ((here (goal.at.loop-next-smaller c).In-Some).next (option_copied c.next_of_group-next.result) c.next_of_group-next.ensures)

pub returns : goal.returns
returns c =
    ap (λ o. list_any (λ (x : CallbackRow). x.object.0 == 0) (rest number_of (filter (is_of_group c.args.group) c.args.self.now.world.callbacks) o)) (sym (ap option_copied c.in_default.is))
    ∙ c.loop-next.invariant.left
    ∙ simple_live c.args.group c.args.self.now.world.callbacks (ap (λ (w : World). w.callbacks) c.is_reachable.ensures.living)
