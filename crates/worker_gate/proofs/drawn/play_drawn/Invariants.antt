use Rattle.std.proofs.Common.{◌≡◌}
use Rattle.worker_gate.specs.Drawn.{open_places}
use Rattle.part_places.specs.Places.{given}
use Rattle.worker_gate.specs.Rounds.{scene}
use Rattle.worker_gate.proofs.DrawnRun.{PassesSoFar}
use Rattle.worker_gate.proofs.Lasting.{rounds_left}
use Rattle.worker_gate.proofs.drawn.play_drawn.Given as goal

abbrev pub invariant-loop-book : goal.invariant-loop-book
invariant-loop-book g l = record {
  so : PassesSoFar (given g.R.Routines.next_of g.R.Routines.after_of l.fn.routines) (g.B.Recorded.recording l.fn.book) (g.B.Recorded.recording l.book) l.fn.roles.items l.roles.items l.fn.seed l.lots.draws;
  going : l.lots.going.items ≡ open_places l.roles.items;
}

-- a pass adds an entry or ends a role, or the next one does
abbrev pub decreases-loop-book : goal.decreases-loop-book
decreases-loop-book g l =
    let now = g.B.Recorded.recording l.book in
    rounds_left (given g.R.Routines.next_of g.R.Routines.after_of l.fn.routines) now.limits now.capacity (scene now.history l.roles.items)
