use Rattle.std.proofs.Common.{◌≡◌, ◌++◌, map, take, drop, length}
use Rattle.worker_gate.specs.Rounds.{awake}
use Rattle.worker_gate.proofs.rounds.wake_all.Given as goal

abbrev pub invariant-loop-place : goal.invariant-loop-place
invariant-loop-place l = (length l.roles.items ≡ length l.fn.roles.items) × (l.roles.items ≡ map awake (take l.place l.fn.roles.items) ++ drop l.place l.fn.roles.items)
