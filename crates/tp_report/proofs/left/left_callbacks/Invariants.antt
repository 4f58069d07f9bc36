use Rattle.std.proofs.Common.{◌-◌, length}
use Rattle.std.specs.Prelude.{map}
use Rattle.recorded.specs.Recordings.{world_behind}
use Rattle.tp_model.specs.Laws.Once.{left}
use Rattle.tp_model.specs.Over.{row_of}
use Rattle.recorded.proofs.Walks.{IsWalked}
use Rattle.tp_report.proofs.left.left_callbacks.Given as goal

abbrev pub invariant-loop-row : goal.invariant-loop-row
invariant-loop-row g l = IsWalked (left (world_behind (g.B.Recorded.recording l.book))) (map row_of l.rows.items) l.number

abbrev pub decreases-loop-row : goal.decreases-loop-row
decreases-loop-row g l = length (left (world_behind (g.B.Recorded.recording l.book))) - length l.rows.items
