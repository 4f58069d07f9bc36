use Rattle.part_places.specs.Places.{given}
use Rattle.worker_gate.specs.Rounds.{scene}
use Rattle.worker_gate.proofs.Lasting.{rounds_left, RoundsSoFar}
use Rattle.worker_gate.proofs.rounds.play_alone.Given as goal

abbrev pub invariant-loop : goal.invariant-loop
invariant-loop g l = RoundsSoFar (given g.R.Routines.next_of g.R.Routines.after_of l.fn.routines) (g.B.Recorded.recording l.fn.book) (g.B.Recorded.recording l.book) l.fn.roles.items l.roles.items

-- a round adds an entry or ends a role, or the next one does
abbrev pub decreases-loop : goal.decreases-loop
decreases-loop g l =
    let now = g.B.Recorded.recording l.book in
    rounds_left (given g.R.Routines.next_of g.R.Routines.after_of l.fn.routines) now.limits now.capacity (scene now.history l.roles.items)
