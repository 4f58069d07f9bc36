use Rattle.worker_gate.specs.Acting.{GoesOn, IsReady}
use Rattle.part_places.specs.Places.{given}
use Rattle.worker_gate.proofs.telling.finish.Given as goal

abbrev pub invariant-loop : goal.invariant-loop
invariant-loop g l =
    (goal.iterator-loop g).can_next l.iterator' × (goal.iterator-loop g).is_finite l.iterator'
    × IsReady (given g.R.Routines.next_of g.R.Routines.after_of l.fn.routines) l.fn.pool l.actor × GoesOn l.fn.actor l.actor
