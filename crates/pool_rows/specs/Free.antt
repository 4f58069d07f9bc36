-- Who could join another pool.
use Rattle.std.specs.Prelude.{ℕ, Bool, true, false, not, ◌&&◌, ◌||◌, List, slice_get}
use Rattle.std.specs.Option.{option_map_or}
use Rattle.tp_base.specs.declared.ids.PoolId.{PoolId}
use Rattle.tp_base.specs.declared.rows.PoolRow.{PoolRow}
use Rattle.pool_rows.specs.declared.WorkerRow.{WorkerRow}
use Rattle.pool_rows.specs.Workers.{runs}

abbrev pub is_closed : List PoolRow → ℕ → Bool
is_closed pools pool = option_map_or (λ (row : PoolRow). row.closed) (slice_get pools pool) false

-- it runs nothing, and hasn't the mark, or its pool is closed
abbrev pub is_free : List PoolRow → WorkerRow → Bool
is_free pools worker = not (runs worker) && (not worker.persistent || option_map_or (λ (pool : PoolId). is_closed pools pool.0) worker.pool true)

-- it runs nothing, and has the mark of an open pool
abbrev pub is_held : List PoolRow → WorkerRow → Bool
is_held pools worker = not (runs worker) && (worker.persistent && option_map_or (λ (pool : PoolId). not (is_closed pools pool.0)) worker.pool false)
