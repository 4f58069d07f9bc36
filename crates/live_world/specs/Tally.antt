-- What is counted of a pool, by its counters.
use Rattle.std.specs.Prelude.{ℕ, ◌-◌, nat_lt, if◌then◌else◌}
use Rattle.pool_rows.specs.declared.Counts.{Counts}
use Rattle.world_reads.specs.declared.tally.Tally.{Tally}

-- of a pool that was made, where so many callbacks wait
abbrev pub tally_shown : ℕ → Counts → Tally
tally_shown waiting counts = record {
  minimum = if counts.closed then 0 else counts.minimum;
  maximum = counts.maximum;
  pending = waiting;
  running = counts.running;
  attached = counts.attached;
  idle = counts.attached - counts.running;
  available = counts.attached - counts.long;
  occupied = nat_lt 0 counts.occupied;
}
