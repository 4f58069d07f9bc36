use Rattle.std.proofs.Common.{◌≡◌, ◌≤◌, replicate, vec_capacity}
use Rattle.pool_rows.specs.Workers.{unattached}
use Rattle.pool_rows.proofs.PoolRows.open.Given as goal

abbrev pub invariant-loop : goal.invariant-loop
invariant-loop l = record { made : l.rows.items ≡ replicate l.counter unattached; room : l.workers ≤ vec_capacity l.rows }
