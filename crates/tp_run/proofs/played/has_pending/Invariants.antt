use Rattle.std.proofs.Common.{◌≡◌, drop}
use Rattle.std.specs.Prelude.{map}
use Rattle.tp_model.specs.Over.{row_of}
use Rattle.tp_run.specs.Played.{has_pending}
use Rattle.tp_run.proofs.played.has_pending.Given as goal

abbrev pub invariant-loop-row : goal.invariant-loop-row
invariant-loop-row l = has_pending (map row_of l.rows) ≡ has_pending (map row_of (drop l.row-index l.rows))
