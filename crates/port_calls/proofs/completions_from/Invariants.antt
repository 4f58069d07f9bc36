use Rattle.std.proofs.Common.{◌≡◌, ◌+◌, ◌++◌, drop}
use Rattle.port_calls.specs.PortCalls.{completions_from}
use Rattle.port_calls.proofs.completions_from.Given as goal

abbrev pub invariant-loop-operation : goal.invariant-loop-operation
invariant-loop-operation l =
    (l.list.items ++ completions_from l.callback (drop l.operation-index l.operations) ≡ completions_from l.first l.operations)
    × (l.callback ≡ l.first + l.operation-index)
