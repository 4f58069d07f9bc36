use Rattle.part_places.specs.Places.{given}
use Rattle.tp_explore.proofs.Replaying.{IsAlong}
use Rattle.tp_explore.proofs.replayed.replay.Given as goal

abbrev pub invariant-loop-by : goal.invariant-loop-by
invariant-loop-by g l = IsAlong (given g.R.Routines.next_of g.R.Routines.after_of l.routines) (g.B.Recorded.recording l.fn.book) l.moves l.by-index (g.B.Recorded.recording l.book) l.limits l.places.items
