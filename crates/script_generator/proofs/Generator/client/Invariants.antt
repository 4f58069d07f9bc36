use Rattle.std.proofs.Common.{◌≡◌}
use Rattle.script_generator.specs.Scripts.{with_lines}
use Rattle.script_generator.proofs.Generator.client.Given as goal

abbrev pub invariant-loop : goal.invariant-loop
invariant-loop l = l.self ≡ with_lines l.works l.counter l.initial.self
