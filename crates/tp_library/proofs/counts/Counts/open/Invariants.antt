use Rattle.std.proofs.Common.{◌≡◌, ◌+◌}
use Rattle.std.specs.Prelude.{replicate, vec_capacity, vec_len}
use Rattle.tp_library.specs.Tallied.{none_held}
use Rattle.tp_library.proofs.counts.Counts.open.Given as goal

abbrev pub invariant-loop : goal.invariant-loop
invariant-loop l = record {
  items : l.own.items ≡ replicate l.counter none_held;
  many : vec_len l.own ≡ l.counter;
  room : vec_capacity l.own ≡ l.groups + 1;
}
