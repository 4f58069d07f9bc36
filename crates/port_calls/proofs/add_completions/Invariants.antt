use Rattle.std.proofs.Common.{◌≡◌, ◌++◌, drop, map}
use Rattle.std.specs.Prelude.{All}
use Rattle.port_facts.specs.Accepted.{call_of}
use Rattle.port_facts.specs.Completions.{completions}
use Rattle.port_calls.specs.PortCalls.{posted_by, IsInRange}
use Rattle.port_calls.proofs.add_completions.Given as goal

abbrev pub invariant-loop-completion : goal.invariant-loop-completion
invariant-loop-completion l =
    (l.calls.items ++ map call_of (completions (posted_by l.device (drop l.completion-index l.list))) ≡ l.fn.calls.items ++ map call_of (completions (posted_by l.device l.list)))
    × All IsInRange l.calls.items
