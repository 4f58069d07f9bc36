use Rattle.part_places.specs.Places.{given}
use Rattle.worker_gate.proofs.SettingUp.{spare_of, AloneSoFar}
use Rattle.worker_gate.proofs.rounds.set_up.Given as goal

abbrev pub invariant-loop : goal.invariant-loop
invariant-loop g l = AloneSoFar (given g.R.Routines.next_of g.R.Routines.after_of l.fn.routines) (g.B.Recorded.recording l.fn.book) (g.B.Recorded.recording l.book) l.fn.role l.role

-- a turn adds an entry, or sets the mark
abbrev pub decreases-loop : goal.decreases-loop
decreases-loop g l = spare_of (g.B.Recorded.recording l.book) l.role
