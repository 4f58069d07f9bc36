-- What bounds the numbers of a live world.
use Rattle.std.specs.Prelude.{◌≡◌, ℕ, ◌+◌, ◌≤◌, length}
use Rattle.tp_base.specs.Ranges.{AreLimitsInRange}
use Rattle.tp_model.specs.World.{World}
use Rattle.tp_model.specs.Counts.{running}

pub record IsBounded (w : World) : Type 0 where
  pub limits : AreLimitsInRange w.limits
  pub client_count : length w.clients ≡ w.limits.clients
  pub worker_count : length w.workers ≡ w.limits.workers
  pub pools_least : 1 ≤ length w.pools
  pub pools_most : length w.pools ≤ w.limits.pools
  -- a callback has a slot, and so has an armed wait
  pub slots_most : length w.callbacks + length w.armings ≤ w.limits.slots
  pub running_most : (pool : ℕ) → running w pool ≤ 65535
