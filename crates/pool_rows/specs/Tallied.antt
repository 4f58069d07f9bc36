-- What the rows of pools and workers keep between calls.
use Rattle.std.specs.Prelude.{◌≡◌, ◌<◌, ◌≤◌, ◌^◌, filter, length}
use Rattle.std.specs.Vec.{vec_capacity, vec_len}
use Rattle.pool_rows.specs.Tallies.{AreTallied}
use Rattle.pool_rows.specs.Workers.{runs}
use Rattle.pool_rows.specs.declared.PoolRows.TheInside.{Inside}

-- each pool's tally is that of the workers, those that run a callback are counted, and there is memory for all pools
pub record IsTallied (a : Inside) : Type 0 where
  pub limit_fits : a.limit < 2 ^ 32
  pub workers_fit : vec_len a.workers < 2 ^ 32
  pub limited : vec_len a.pools ≤ a.limit
  pub reserved : a.limit ≤ vec_capacity a.pools
  pub tallied : AreTallied a.pools.items a.workers.items
  pub busy : a.busy ≡ length (filter runs a.workers.items)
