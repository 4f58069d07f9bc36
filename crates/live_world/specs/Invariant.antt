-- What the parts of a live world keep between calls: what each of them says of the others. Each record speaks of the parts
-- that it ties and of no others.
use Rattle.std.specs.Prelude.{◌≡◌, ◌≢◌, ℕ, ◌+◌, ◌<◌, ◌≤◌, Bool, false, List, length, Some, IfSome, slice_index_or}
use Rattle.std.specs.List.{filter, find, AllByRecursion}
use Rattle.tp_base.specs.declared.ids.Who.{Who}
use Rattle.tp_base.specs.declared.ids.PoolId.{PoolId}
use Rattle.tp_base.specs.declared.limits.Limits.{Limits}
use Rattle.tp_base.specs.declared.rows.ClientRow.{ClientRow}
use Rattle.tp_base.specs.declared.rows.CallbackRow.{CallbackRow}
use Rattle.tp_base.specs.declared.rows.ObjectRow.{ObjectRow}
use Rattle.tp_base.specs.declared.rows.Arming.{Arming}
use Rattle.tp_base.specs.Ranges.{AreLimitsInRange}
use Rattle.live_callbacks.specs.Callbacks.{Callbacks}
use Rattle.object_rows.specs.Objects.{ObjectTable}
use Rattle.pool_rows.specs.Pools.{Pools}
use Rattle.pool_rows.specs.Workers.{runs_in, runs_long_in}
use Rattle.pool_rows.specs.declared.WorkerRow.{WorkerRow}
use Rattle.sources.specs.Rows.{SourceRows}
use Rattle.tp_model.specs.Counts.{has_number, is_pending, is_running, is_running_in, is_running_long_in}
use Rattle.begun_waits.specs.Begun.{Begun, place_of, wait_among}
use Rattle.tp_model.specs.Support.Remembered.{lives}
use Rattle.tp_model.specs.World.{BegunWait}
use Rattle.begun_waits.specs.Covers.{Covering, bound_of, listed_of}
use Rattle.live_world.specs.Covers.{IsCover}
use Rattle.live_world.specs.Parts.{is_timed}

abbrev pub is_pending_callback : CallbackRow → Bool
is_pending_callback c = is_pending c.status

abbrev pub is_running_callback : CallbackRow → Bool
is_running_callback c = is_running c.status

-- a worker's pool was made
abbrev pub IsHome : ℕ → WorkerRow → Type 0
IsHome pools worker = IfSome worker.pool (λ (pool : PoolId). pool.0 < pools)

-- there are as many of each thing as the limits say, or no more
pub record AreSized (limits : Limits) (pools : Pools) (rows : ObjectTable) (clients : List ClientRow) : Type 0 where
  pub in_range : AreLimitsInRange limits
  pub pool_limit : pools.limit ≡ limits.pools
  pub pools_least : 1 ≤ length pools.pools
  pub pools_within : length pools.pools ≤ limits.pools
  pub worker_count : length pools.workers ≡ limits.workers
  pub homes : AllByRecursion (IsHome (length pools.pools)) pools.workers
  pub group_limit : rows.group_limit ≡ limits.groups
  pub object_limit : rows.object_limit ≡ limits.objects
  pub objects_within : length rows.objects ≤ limits.objects
  pub client_count : length clients ≡ limits.clients

-- no callback that is over is kept
pub record AreLive (limits : Limits) (callbacks : Callbacks) : Type 0 where
  pub slot_limit : callbacks.slots ≡ limits.slots
  pub pool_limit : callbacks.pools ≡ limits.pools
  pub object_limit : callbacks.objects ≡ limits.objects
  pub live : filter lives callbacks.rows ≡ callbacks.rows

-- what a worker runs is kept, and the worker has its long mark
abbrev pub IsMarked : List CallbackRow → WorkerRow → Type 0
IsMarked callbacks worker = worker.callback ≢ 0 → (c : CallbackRow) × (find (has_number worker.callback) callbacks ≡ Some c) × (worker.long ≡ c.long)

abbrev pub AreMarked : List CallbackRow → List WorkerRow → Type 0
AreMarked callbacks workers = AllByRecursion (IsMarked callbacks) workers

-- as many workers are at work in a pool as callbacks run in it
pub record AreTallied (callbacks : List CallbackRow) (workers : List WorkerRow) : Type 0 where
  pub marked : AreMarked callbacks workers
  pub run : (pool : ℕ) → length (filter (is_running_in pool) callbacks) ≡ length (filter (runs_in pool) workers)
  pub run_long : (pool : ℕ) → length (filter (is_running_long_in pool) callbacks) ≡ length (filter (runs_long_in pool) workers)

-- the begun waits are those of this machine, and by the place of each actor stands what its wait covers
pub record AreCovered (limits : Limits) (made : ℕ) (callbacks : List CallbackRow) (waits : Begun) (covers : Covering) : Type 0 where
  pub wait_limits : waits.limits ≡ limits
  pub bounds : length covers.bounds ≡ limits.clients + limits.workers
  pub lists : length covers.listed ≡ limits.clients + limits.workers
  pub room : covers.room ≡ limits.slots
  pub covered : (who : Who) (place : ℕ) (b : BegunWait) → place_of limits who ≡ Some place → wait_among waits.waits who ≡ Some b → IsCover made callbacks (bound_of covers place) (listed_of covers place) b

-- what may have a setting are the timers and the wait objects that aren't released
pub record AreTimed (limits : Limits) (objects : List ObjectRow) (sources : SourceRows) : Type 0 where
  pub object_limit : sources.objects ≡ limits.objects
  pub kernel_limit : sources.most_kernels ≡ limits.kernels
  pub places : length sources.there ≡ limits.objects + 1
  pub there : (number : ℕ) → slice_index_or sources.there number false ≡ is_timed objects number

-- there is a slot for each callback and each armed wait
pub record AreSlotted (limits : Limits) (callbacks : List CallbackRow) (armings : List Arming) : Type 0 where
  pub slots : length callbacks + length armings ≤ limits.slots
