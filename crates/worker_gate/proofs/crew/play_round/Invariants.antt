use Rattle.part_places.specs.Places.{given}
use Rattle.worker_gate.proofs.Crews.{RoundSoFar}
use Rattle.worker_gate.proofs.crew.play_round.Given as goal

abbrev pub invariant-loop-place : goal.invariant-loop-place
invariant-loop-place g l = RoundSoFar (given g.R.Routines.next_of g.R.Routines.after_of l.fn.routines) l.fn.pool l.fn.crew.items l.crew.items l.place l.round
