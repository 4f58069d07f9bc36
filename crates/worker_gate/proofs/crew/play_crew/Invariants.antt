use Rattle.std.proofs.Common.{◌-◌, ◌+◌, ◌*◌}
use Rattle.worker_gate.specs.Crews.{spare}
use Rattle.part_places.specs.Places.{given}
use Rattle.worker_gate.proofs.Crews.{CrewSoFar}
use Rattle.worker_gate.proofs.crew.play_crew.Given as goal

abbrev pub invariant-loop-idle : goal.invariant-loop-idle
invariant-loop-idle g l = CrewSoFar (given g.R.Routines.next_of g.R.Routines.after_of l.fn.routines) l.fn.pool l.fn.crew.items l.crew.items l.idle

-- a move leaves fewer entries to make
abbrev pub decreases-loop-idle : goal.decreases-loop-idle
decreases-loop-idle g l = spare l.crew.items * 10001 + (10000 - l.idle)
