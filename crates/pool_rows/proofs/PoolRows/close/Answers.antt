use Rattle.std.proofs.Common.{List, true, ap}
use Rattle.tp_base.specs.declared.rows.PoolRow.{PoolRow}
use Rattle.pool_rows.specs.Pools.{Pools}
use Rattle.pool_rows.proofs.Entries.{rows_changed}
use Rattle.pool_rows.proofs.PoolRows.close.Goals as goal

pub returns : goal.returns
returns c =
    let there = rw (← c.self.view_is) at c.requires in
    let read = c.index_mut.ensures.value in
    rw (← c.self.view_is) (ap (λ (rows : List PoolRow). let r : Pools = record { limit = c.self.inside.limit; pools = rows; workers = c.self.inside.workers.items } in r)
    (rows_changed (λ row. record row { closed = true }) c.self.inside.pools.items c.args.pool.0 _ c.index_mut.result.now there (cc)))
