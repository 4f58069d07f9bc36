use Rattle.std.proofs.Common.{◌≡◌, ◌+◌, ◌≤◌, vec_capacity}
use Rattle.worker_gate.specs.Alone.{new_roles}
use Rattle.worker_gate.proofs.run.new_roles.Given as goal

abbrev pub invariant-loop-place : goal.invariant-loop-place
invariant-loop-place l = record {
  made : l.roles.items ≡ new_roles l.limits 1 l.place;
  fits : l.limits.clients + l.limits.workers ≤ vec_capacity l.roles;
}
