use Rattle.std.proofs.Common.{◌≡◌, ◌+◌, ◌≤◌, ◌++◌, drop}
use Rattle.port_lines.specs.Texts.{lists_of, operation_count}
use Rattle.port_calls.specs.PortCalls.{completions_in, numbered, numbered_from}
use Rattle.port_calls.proofs.completions_of.Given as goal

abbrev pub invariant-loop-operations : goal.invariant-loop-operations
invariant-loop-operations l =
    (completions_in l.lists.items ++ numbered_from l.callback (drop l.operations-index (lists_of l.devices)) ≡ numbered (lists_of l.devices))
    × (l.callback + operation_count (drop l.operations-index (lists_of l.devices)) ≤ 8193)
