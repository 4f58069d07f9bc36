use Rattle.std.proofs.Common.{◌≡◌, ◌+◌, ◌++◌, drop, length}
use Rattle.port_lines.specs.Texts.{lists_of}
use Rattle.port_calls.specs.PortCalls.{objects_from, objects_of}
use Rattle.port_calls.proofs.Making.{object_calls, operation_calls}
use Rattle.port_calls.proofs.set_up_calls.Given as goal

abbrev pub invariant-loop-operations : goal.invariant-loop-operations
invariant-loop-operations l =
    (l.calls.items ++ operation_calls (objects_from l.object (drop l.operations-index (lists_of l.devices))) ≡ object_calls (length l.devices) ++ operation_calls (objects_of (lists_of l.devices)))
    × (l.object ≡ l.operations-index + 1)
