-- The tallies of pools: how many workers are attached to each, how many run a callback in it, and how many have the
-- mark of a persistent worker.
use Rattle.std.specs.Prelude.{◌≡◌, ℕ, ◌+◌, ◌<◌, ◌≤◌, ◌^◌, ◌&&◌, nat_lt, List, length, filter, slice_get}
use Rattle.std.specs.Int.{from_bool}
use Rattle.std.specs.Option.{option_map_or}
use Rattle.pool_rows.specs.declared.WorkerRow.{WorkerRow}
use Rattle.pool_rows.specs.declared.tallies.Tally.{Tally}
use Rattle.pool_rows.specs.declared.tallies.PoolEntry.{PoolEntry}
use Rattle.pool_rows.specs.Workers.{is_attached_to, is_occupied_in, is_persistent_in, runs_in, runs_long_in}

-- the tally of a pool without workers
abbrev pub no_workers : Tally
no_workers = record { attached = 0; running = 0; long = 0; persistent = 0; occupied = 0 }

-- the pool's tally, none for a pool that was never made
abbrev pub tally_at : List PoolEntry → ℕ → Tally
tally_at entries pool = option_map_or (λ (e : PoolEntry). e.tally) (slice_get entries pool) no_workers

-- what the pool's tally has to be
abbrev pub tally_of : ℕ → List WorkerRow → Tally
tally_of pool workers = record {
  attached = length (filter (is_attached_to pool) workers);
  running = length (filter (runs_in pool) workers);
  long = length (filter (runs_long_in pool) workers);
  persistent = length (filter (is_persistent_in pool) workers);
  occupied = length (filter (is_occupied_in pool) workers);
}

-- each pool's tally is that of the workers
abbrev pub AreTallied : List PoolEntry → List WorkerRow → Type 0
AreTallied entries workers = (pool : ℕ) → tally_at entries pool ≡ tally_of pool workers

-- this pool's tally with one worker more, which may be of another pool
abbrev pub with_one : ℕ → WorkerRow → Tally → Tally
with_one pool worker t = record {
  attached = t.attached + from_bool (is_attached_to pool worker);
  running = t.running + from_bool (runs_in pool worker);
  long = t.long + from_bool (runs_long_in pool worker);
  persistent = t.persistent + from_bool (is_persistent_in pool worker);
  occupied = t.occupied + from_bool (is_occupied_in pool worker);
}

-- a tally with one worker of its pool more
abbrev pub with_own : WorkerRow → Tally → Tally
with_own worker t = record {
  attached = t.attached + 1;
  running = t.running + from_bool (nat_lt 0 worker.callback);
  long = t.long + from_bool (nat_lt 0 worker.callback && worker.long);
  persistent = t.persistent + from_bool worker.persistent;
  occupied = t.occupied + from_bool (worker.persistent && nat_lt 0 worker.callback);
}

-- the numbers fit
pub record FitsTally (t : Tally) : Type 0 where
  pub attached : t.attached < 2 ^ 32
  pub running : t.running < 2 ^ 32
  pub long : t.long < 2 ^ 32
  pub persistent : t.persistent < 2 ^ 32
  pub occupied : t.occupied < 2 ^ 32

-- no number of the first is above that of the second
pub record IsWithinTally (t u : Tally) : Type 0 where
  pub attached : t.attached ≤ u.attached
  pub running : t.running ≤ u.running
  pub long : t.long ≤ u.long
  pub persistent : t.persistent ≤ u.persistent
  pub occupied : t.occupied ≤ u.occupied
