-- What is counted of a pool, whether it was made or not.
use Rattle.std.specs.Prelude.{ℕ, Bool, ◌&&◌, is_some}
use Rattle.std.specs.List.{list_any}
use Rattle.tp_base.specs.declared.rows.WorkerRow.{WorkerRow}
use Rattle.tp_model.specs.World.{World}
use Rattle.tp_model.specs.Counts.{attached, available, idle, is_persistent_in, maximum, minimum, pending, running}
use Rattle.world_reads.specs.declared.tally.Tally.{Tally}

-- the pool's persistent worker runs a callback
abbrev pub is_occupied : World → ℕ → Bool
is_occupied w pool = list_any (λ (r : WorkerRow). is_persistent_in pool r && is_some r.callback) w.workers

abbrev pub tally_of : World → ℕ → Tally
tally_of w pool = record {
  minimum = minimum w pool;
  maximum = maximum w pool;
  pending = pending w pool;
  running = running w pool;
  attached = attached w pool;
  idle = idle w pool;
  available = available w pool;
  occupied = is_occupied w pool;
}
