use Rattle.shutdown_by_threads.specs.Seats.{Stays}
use Rattle.shutdown_by_threads.proofs.shutdown.retry.Given as goal

abbrev pub invariant-loop : goal.invariant-loop
invariant-loop g l =
    (goal.iterator-loop g).can_next l.iterator' × (goal.iterator-loop g).is_finite l.iterator' × Stays l.fn.pool l.fn.seat l.seat
