use Rattle.std.proofs.Common.{◌≡◌, true}
use Rattle.worker_gate.specs.Drawn.{open_places}
use Rattle.part_places.specs.Places.{given}
use Rattle.worker_gate.specs.Rounds.{scene}
use Rattle.worker_gate.proofs.DrawnPass.{turns_left, PassSoFar}
use Rattle.worker_gate.proofs.drawn.play_pass.Given as goal

abbrev pub invariant-loop-outcome : goal.invariant-loop-outcome
invariant-loop-outcome g l = record {
  so : PassSoFar (given g.R.Routines.next_of g.R.Routines.after_of l.fn.routines) (g.B.Recorded.recording l.fn.book) (g.B.Recorded.recording l.book) l.fn.roles.items l.roles.items l.lots.ready.items l.fn.lots.draws l.lots.draws;
  going : l.lots.going.items ≡ open_places l.roles.items;
  whole : l.lots.whole ≡ true → l.lots.ready.items ≡ l.lots.going.items;
}

-- an entry or an end is a step forward, and behind another turn fewer may be drawn
abbrev pub decreases-loop-outcome : goal.decreases-loop-outcome
decreases-loop-outcome g l =
    let now = g.B.Recorded.recording l.book in
    turns_left now.limits now.capacity (scene now.history l.roles.items) l.lots.ready.items
