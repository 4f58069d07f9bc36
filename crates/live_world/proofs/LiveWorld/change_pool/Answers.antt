use Rattle.std.proofs.Common.{sym, ap, ◌∙◌}
use Rattle.pool_rows.specs.Pools.{with_pool}
use Rattle.tp_model.specs.Changes.{pool_after}
use Rattle.live_world.proofs.PoolsMade.{pool_changed}
use Rattle.live_world.proofs.LiveWorld.change_pool.Goals as goal

pub invariant_of-self : goal.invariant_of-self
invariant_of-self c =
    let i = c.self.inside in
    (pool_changed i c.args.self.now c.args.pool c.args.how c.close.new.self c.self.view_is c.self.invariant c.requires (c.close.ensures ∙ ap (λ how. with_pool c.args.pool.0 (pool_after how) i.pools) (sym c.in-Close.is))).keeps

pub invariant_of-self-in-Maximum : goal.invariant_of-self-in-Maximum
invariant_of-self-in-Maximum c =
    let i = c.self.inside in
    (pool_changed i c.args.self.now c.args.pool c.args.how c.set_maximum.new.self c.self.view_is c.self.invariant c.requires (c.set_maximum.ensures ∙ ap (λ how. with_pool c.args.pool.0 (pool_after how) i.pools) (sym c.in-Maximum.is))).keeps

pub invariant_of-self-in-Minimum : goal.invariant_of-self-in-Minimum
invariant_of-self-in-Minimum c =
    let i = c.self.inside in
    (pool_changed i c.args.self.now c.args.pool c.args.how c.set_minimum.new.self c.self.view_is c.self.invariant c.requires (c.set_minimum.ensures ∙ ap (λ how. with_pool c.args.pool.0 (pool_after how) i.pools) (sym c.in-Minimum.is))).keeps
