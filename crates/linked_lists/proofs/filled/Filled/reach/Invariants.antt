use Rattle.std.proofs.Common.{◌≡◌, ◌+◌, ◌-◌, ℕ, ◌≤◌, get_or, length, max, min, vec_capacity}
use Rattle.linked_lists.proofs.filled.Filled.reach.Given as goal

abbrev pub invariant-loop-self : goal.invariant-loop-self
invariant-loop-self l = record {
  room : l.self-inside.room ≡ l.initial.self-inside.room;
  fill : l.self-inside.fill ≡ l.initial.self-inside.fill;
  least : length l.initial.self-inside.items.items ≤ length l.self-inside.items.items;
  within : length l.self-inside.items.items ≤ max (length l.initial.self-inside.items.items) (min l.self-inside.room (l.index + 1));
  same : (k : ℕ) → get_or l.self-inside.items.items k l.self-inside.fill ≡ get_or l.initial.self-inside.items.items k l.self-inside.fill;
  capacity : vec_capacity l.self-inside.items ≡ vec_capacity l.initial.self-inside.items;
}

abbrev pub decreases-loop-self : goal.decreases-loop-self
decreases-loop-self l = l.index + 1 - length l.self-inside.items.items
