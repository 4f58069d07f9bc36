use Rattle.std.proofs.Common.{◌+◌, ◌==◌, sym, ap, ◌∙◌, eq-eqb, ne_eqb}
use Rattle.std.specs.List.{list_any}
use Rattle.tp_base.specs.declared.rows.CallbackRow.{CallbackRow}
use Rattle.tp_model.specs.World.{World}
use Rattle.live_queries.proofs.Above.{Looks, all_live, fewer_above, looks, none_above, passed_none}
use Rattle.live_queries.proofs.pools.has_callback.Given.{Over}
use Rattle.live_queries.proofs.pools.has_callback.Goals as goal
use Rattle.live_queries.proofs.pools.has_callback.Goals.{In-Some}

one : (g : Over) (c : In-Some g) → Looks (λ x. x.pool.0 == c.args.pool.0) (g.W.Reads.world_of c.args.world.now).callbacks c.in-Some.callback
one g c = looks (λ x. x.pool.0 == c.args.pool.0) c.loop-callback.passed (g.W.Reads.made_of c.args.world.now + 1) (g.W.Reads.world_of c.args.world.now).callbacks c.in-Some.callback c.is_reachable.ensures.sound.numbers (sym c.in-Some.ensures) c.loop-callback.invariant

pub loop-callback-init : goal.loop-callback-init
loop-callback-init g c = passed_none (λ x. x.pool.0 == c.args.pool.0) (g.W.Reads.made_of c.args.world.now + 1) (g.W.Reads.world_of c.args.world.now).callbacks c.is_reachable.ensures.sound.numbers

pub returns-then-callback-pool : goal.returns-then-callback-pool
returns-then-callback-pool g c =
    sym ((one g (goal.at.returns-then-callback-pool g c).In-Some).passes (eq-eqb c.in-Some.callback.pool.0 c.args.pool.0 c.if-callback-pool.true))
    ∙ all_live (λ x. x.pool.0 == c.args.pool.0) (g.W.Reads.world_of c.args.world.now).callbacks (ap (λ (w : World). w.callbacks) c.is_reachable.ensures.living)

pub loop-callback-smaller : goal.loop-callback-smaller
loop-callback-smaller g c = fewer_above c.loop-callback.passed (g.W.Reads.made_of c.args.world.now + 1) (g.W.Reads.world_of c.args.world.now).callbacks c.in-Some.callback c.is_reachable.ensures.sound.numbers (sym c.in-Some.ensures)

pub loop-callback-preserved : goal.loop-callback-preserved
loop-callback-preserved g c = (one g (goal.at.loop-callback-preserved g c).In-Some).others (ne_eqb c.in-Some.callback.pool.0 c.args.pool.0 c.if-callback-pool.false)

pub returns : goal.returns
returns g c =
    ap (list_any (λ (x : CallbackRow). x.pool.0 == c.args.pool.0)) (sym (none_above c.loop-callback.passed (g.W.Reads.world_of c.args.world.now).callbacks (sym c.in_default.ensures)))
    ∙ c.loop-callback.invariant
    ∙ all_live (λ x. x.pool.0 == c.args.pool.0) (g.W.Reads.world_of c.args.world.now).callbacks (ap (λ (w : World). w.callbacks) c.is_reachable.ensures.living)
