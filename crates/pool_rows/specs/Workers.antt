-- Workers by what they do.
use Rattle.std.specs.Prelude.{◌≡◌, ℕ, Bool, false, ◌&&◌, ◌||◌, ◌==◌, nat_lt, None, Some, IsSome}
use Rattle.std.specs.Option.{option_map_or}
use Rattle.tp_base.specs.declared.ids.PoolId.{PoolId}
use Rattle.pool_rows.specs.declared.WorkerRow.{WorkerRow}

-- it is attached to this pool
abbrev pub is_attached_to : ℕ → WorkerRow → Bool
is_attached_to pool worker = option_map_or (λ (p : PoolId). p.0 == pool) worker.pool false

-- it runs a callback
abbrev pub runs : WorkerRow → Bool
runs worker = nat_lt 0 worker.callback

-- in this pool
abbrev pub runs_in : ℕ → WorkerRow → Bool
runs_in pool worker = is_attached_to pool worker && runs worker

-- it runs a callback with the long mark in this pool
abbrev pub runs_long_in : ℕ → WorkerRow → Bool
runs_long_in pool worker = runs_in pool worker && worker.long

-- it is attached to this pool and has the mark of a persistent worker
abbrev pub is_persistent_in : ℕ → WorkerRow → Bool
is_persistent_in pool worker = is_attached_to pool worker && worker.persistent

-- and runs a callback
abbrev pub is_occupied_in : ℕ → WorkerRow → Bool
is_occupied_in pool worker = is_persistent_in pool worker && runs worker

-- it is attached and runs nothing
pub record IsIdle (worker : WorkerRow) : Type 0 where
  pub attached : IsSome worker.pool
  pub nothing : worker.callback ≡ 0

-- a worker of no pool
abbrev pub unattached : WorkerRow
unattached = record { pool = None; callback = 0; long = false; persistent = false }

-- a worker of this pool that runs nothing
abbrev pub idle_in : PoolId → WorkerRow
idle_in pool = record { pool = Some pool; callback = 0; long = false; persistent = false }

-- a worker as it runs a callback, with the mark from its first persistent one on
abbrev pub after_take : ℕ → Bool → Bool → WorkerRow → WorkerRow
after_take callback long persistent worker = record worker { callback = callback; long = long; persistent = worker.persistent || persistent }
