use Rattle.std.proofs.Common.{◌≡◌}
use Rattle.shared_pool.specs.Pools.{IsPlayer}
use Rattle.turn_lock.specs.Seats.{number_of}
use Rattle.machine_tests.proofs.sharing.make_groups.Given as goal

abbrev pub invariant-loop : goal.invariant-loop
invariant-loop g l = IsPlayer l.pool l.seat × (number_of l.seat ≡ number_of l.fn.seat)
