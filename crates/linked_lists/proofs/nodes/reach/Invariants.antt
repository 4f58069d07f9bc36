use Rattle.std.proofs.Common.{◌≡◌, ◌+◌, ◌-◌, ℕ, ◌≤◌, length, max, vec_capacity}
use Rattle.linked_lists.specs.Nodes.{node_at}
use Rattle.linked_lists.proofs.nodes.reach.Given as goal

abbrev pub invariant-loop-nodes : goal.invariant-loop-nodes
invariant-loop-nodes l = record {
  least : length l.fn.nodes.items ≤ length l.nodes.items;
  many : length l.nodes.items ≤ max (length l.fn.nodes.items) (l.place + 1);
  same : (k : ℕ) → node_at l.nodes.items k ≡ node_at l.fn.nodes.items k;
  capacity : vec_capacity l.nodes ≡ vec_capacity l.fn.nodes;
}

abbrev pub decreases-loop-nodes : goal.decreases-loop-nodes
decreases-loop-nodes l = l.place + 1 - length l.nodes.items
