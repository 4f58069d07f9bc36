use Rattle.std.proofs.Common.{◌≡◌, ◌++◌}
use Rattle.port_calls.proofs.Making.{object_calls}
use Rattle.port_calls.proofs.add_objects.Given as goal

abbrev pub invariant-loop : goal.invariant-loop
invariant-loop l = l.calls.items ≡ l.fn.calls.items ++ object_calls l.counter
