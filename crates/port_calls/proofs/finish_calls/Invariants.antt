use Rattle.std.proofs.Common.{◌≡◌, map}
use Rattle.std.specs.Prelude.{All}
use Rattle.port_facts.specs.Accepted.{call_of}
use Rattle.port_facts.specs.SetUp.{finishes}
use Rattle.port_calls.specs.PortCalls.{IsInRange}
use Rattle.port_calls.proofs.finish_calls.Given as goal

abbrev pub invariant-loop-place : goal.invariant-loop-place
invariant-loop-place l = (l.calls.items ≡ map call_of (finishes 2 l.place)) × All IsInRange l.calls.items
