use Rattle.std.proofs.Common.{◌≡◌, ◌++◌, drop, map}
use Rattle.port_calls.proofs.Making.{operation_calls}
use Rattle.port_calls.proofs.add_operations.Given as goal

abbrev pub invariant-loop : goal.invariant-loop
invariant-loop l = l.calls.items ++ operation_calls (map (λ operation. l.object) (drop l.index l.operations)) ≡ l.fn.calls.items ++ operation_calls (map (λ operation. l.object) l.operations)
