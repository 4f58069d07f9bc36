use Rattle.std.proofs.Common.{◌≡◌, ◌+◌, ◌-◌, ℕ, ◌≤◌, get_or, length, max, vec_capacity}
use Rattle.timer_heap.proofs.filled.fill_to.Given as goal

abbrev pub invariant-loop-value : goal.invariant-loop-value
invariant-loop-value g l = record {
  least : length l.fn.items.items ≤ length l.items.items;
  many : length l.items.items ≤ max (length l.fn.items.items) (l.place + 1);
  same : (k : ℕ) → get_or l.items.items k l.value ≡ get_or l.fn.items.items k l.value;
  capacity : vec_capacity l.items ≡ vec_capacity l.fn.items;
}

abbrev pub decreases-loop-value : goal.decreases-loop-value
decreases-loop-value g l = l.place + 1 - length l.items.items
