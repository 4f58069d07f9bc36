use Rattle.std.proofs.Common.{◌≡◌, ◌+◌, ◌++◌, drop, map}
use Rattle.std.specs.Prelude.{All}
use Rattle.port_facts.specs.Accepted.{call_of}
use Rattle.port_facts.specs.Completions.{completions}
use Rattle.port_calls.specs.PortCalls.{completions_in, in_turn, posted_from, IsInRange}
use Rattle.port_calls.proofs.completion_calls.Given as goal

abbrev pub invariant-loop-list : goal.invariant-loop-list
invariant-loop-list l =
    (l.calls.items ++ map call_of (completions (posted_from l.device (drop l.list-index (completions_in l.lists)))) ≡ map call_of (completions (in_turn (completions_in l.lists))))
    × (l.device ≡ l.list-index + 1)
    × All IsInRange l.calls.items
