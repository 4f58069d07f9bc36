use Rattle.std.proofs.Common.{◌≡◌, ◌++◌, drop}
use Rattle.std.specs.Prelude.{flat_map}
use Rattle.order_lines.specs.Explored.{begun_text}
use Rattle.order_lines.proofs.explored.append_waiting.Given as goal

abbrev pub invariant-loop-begun : goal.invariant-loop-begun
invariant-loop-begun l = l.text.items ++ flat_map begun_text (drop l.begun-index l.waiting) ≡ l.initial.text.items ++ flat_map begun_text l.waiting
