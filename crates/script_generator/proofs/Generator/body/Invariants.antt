use Rattle.std.proofs.Common.{◌≡◌}
use Rattle.script_generator.specs.Scripts.{with_clients, with_works}
use Rattle.script_generator.proofs.Generator.body.Given as goal

abbrev pub invariant-loop-index : goal.invariant-loop-index
invariant-loop-index l = l.self ≡ with_works l.index l.initial.self

abbrev pub invariant-loop : goal.invariant-loop
invariant-loop l = l.self ≡ with_clients l.works l.length l.counter l.initial.self
