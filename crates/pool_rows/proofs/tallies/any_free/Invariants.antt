use Rattle.std.proofs.Common.{◌≡◌, map, length}
use Rattle.std.specs.Prelude.{filter}
use Rattle.pool_rows.proofs.Free.{held_below}
use Rattle.pool_rows.proofs.tallies.any_free.Given as goal

abbrev pub invariant-loop-entry : goal.invariant-loop-entry
invariant-loop-entry l = l.held ≡ length (filter (held_below (map (λ e. e.row) l.entries) l.entry-index) l.workers)
