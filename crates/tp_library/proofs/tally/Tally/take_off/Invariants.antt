use Rattle.std.proofs.Common.{◌≡◌, ℕ, ◌-◌, ◌<◌, ◌≤◌, length}
use Rattle.tp_library.specs.Tallies.{at}
use Rattle.tp_library.proofs.tally.Tally.take_off.Given as goal

abbrev pub invariant-loop-library : goal.invariant-loop-library
invariant-loop-library l = record {
  many : length l.self-inside.numbers.items ≡ length l.less;
  done : (k : ℕ) → k < l.library → at l.self-inside.numbers.items k ≡ at l.initial.self-inside.numbers.items k - at l.less k;
  rest : (k : ℕ) → l.library ≤ k → at l.self-inside.numbers.items k ≡ at l.initial.self-inside.numbers.items k;
}
