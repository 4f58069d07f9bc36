use Rattle.std.proofs.Common.{◌≡◌, ℕ, ◌+◌, ◌≤◌, filter, length}
use Rattle.recorded.specs.Recordings.{world_behind}
use Rattle.tp_model.specs.Laws.Once.{left}
use Rattle.tp_library.specs.Rows.{is_above, rows_in}
use Rattle.tp_library.specs.Tallies.{at}
use Rattle.tp_library.specs.declared.TheConstants.{LIBRARY_LIMIT}
use Rattle.tp_library.proofs.book.count_above.Given as goal

abbrev pub invariant-loop-callback : goal.invariant-loop-callback
invariant-loop-callback g l = record {
  counted : (k : ℕ) → k ≤ LIBRARY_LIMIT → at l.counts.left k + rows_in l.shelf.shelf k l.number (left (world_behind (g.B.Recorded.recording l.book)))
      ≡ at l.fn.counts.left k + rows_in l.shelf.shelf k l.fn.number (left (world_behind (g.B.Recorded.recording l.book)));
  many : length l.counts.left ≡ LIBRARY_LIMIT + 1;
  same : l.counts ≡ record l.fn.counts { left = l.counts.left };
}

abbrev pub decreases-loop-callback : goal.decreases-loop-callback
decreases-loop-callback g l = length (filter (is_above l.number) (left (world_behind (g.B.Recorded.recording l.book))))
