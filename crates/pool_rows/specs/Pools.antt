-- The pools that were made, and all workers.
use Rattle.std.specs.Prelude.{ℕ, ◌-◌, ◌<◌, ◌==◌, false, List, length, filter, min, max, Option, None, slice_get, slice_set, if◌then◌else◌}
use Rattle.std.specs.Option.{option_map, option_map_or}
use Rattle.tp_base.specs.declared.rows.PoolRow.{PoolRow}
use Rattle.pool_rows.specs.declared.Counts.{Counts}
use Rattle.pool_rows.specs.declared.WorkerRow.{WorkerRow}
use Rattle.pool_rows.specs.Workers.{is_attached_to, is_occupied_in, is_persistent_in, runs_in, runs_long_in}

-- how many pools may be made; pool p at place p; worker n at place n - 1
pub record Pools : Type 0 where
  pub limit : ℕ
  pub pools : List PoolRow
  pub workers : List WorkerRow

-- a pool of this number was made
abbrev pub IsMade : ℕ → Pools → Type 0
IsMade pool rows = pool < length rows.pools

-- the worker of this number, if there is one
abbrev pub worker_of : ℕ → Pools → Option WorkerRow
worker_of number rows = if number == 0 then None else slice_get rows.workers (number - 1)

-- what a pool allows, and how many workers it has
abbrev pub counts_of : ℕ → Pools → Option Counts
counts_of pool rows = option_map (λ (row : PoolRow). record {
  minimum = row.minimum;
  maximum = row.maximum;
  closed = row.closed;
  running = length (filter (runs_in pool) rows.workers);
  attached = length (filter (is_attached_to pool) rows.workers);
  long = length (filter (runs_long_in pool) rows.workers);
  persistent = length (filter (is_persistent_in pool) rows.workers);
  occupied = length (filter (is_occupied_in pool) rows.workers);
}) (slice_get rows.pools pool)

-- the row of this pool is changed by f, and nothing else
abbrev pub with_pool : ℕ → (PoolRow → PoolRow) → Pools → Pools
with_pool pool f rows =
    record rows {
      pools = option_map_or (λ row. slice_set rows.pools pool (f row)) (slice_get rows.pools pool) rows.pools;
    }

-- the row of this worker is changed by f, and nothing else
abbrev pub with_worker : ℕ → (WorkerRow → WorkerRow) → Pools → Pools
with_worker number f rows =
    record rows {
      workers = option_map_or (λ worker. slice_set rows.workers (number - 1) (f worker)) (worker_of number rows) rows.workers;
    }

-- a pool as it is made: a minimum of 0 and a maximum of all workers
abbrev pub made_pool : ℕ → PoolRow
made_pool workers = record { minimum = 0; maximum = workers; closed = false }

-- the maximum is this value, or 1 for 0, and the minimum no more than that
abbrev pub with_maximum : ℕ → PoolRow → PoolRow
with_maximum value row = record row { minimum = min row.minimum (max value 1); maximum = max value 1 }

-- the minimum is this value, and the maximum no less than that
abbrev pub with_minimum : ℕ → PoolRow → PoolRow
with_minimum value row = record row { minimum = value; maximum = max row.maximum value }
