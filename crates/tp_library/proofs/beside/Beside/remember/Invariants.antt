use Rattle.std.proofs.Common.{◌≡◌, ℕ, ◌+◌, ◌<◌, nat_lt, length}
use Rattle.tp_library.specs.Kept.{held_by}
use Rattle.tp_library.specs.Seen.{was_held}
use Rattle.tp_library.specs.declared.TheConstants.{LIBRARY_LIMIT}
use Rattle.tp_library.proofs.beside.Beside.remember.Given as goal

abbrev pub invariant-loop-library : goal.invariant-loop-library
invariant-loop-library l = record {
  held : (k : ℕ) → k < l.library → was_held l.self.before.items k ≡ nat_lt 0 (held_by l.initial.self k);
  many : length l.self.before.items ≡ LIBRARY_LIMIT + 1;
  shelf : l.self.shelf ≡ l.initial.self.shelf;
  counts : l.self.counts ≡ l.initial.self.counts;
  actors : l.self.actors ≡ l.initial.self.actors;
}
