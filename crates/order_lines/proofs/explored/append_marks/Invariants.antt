use Rattle.std.proofs.Common.{◌≡◌, ◌++◌, drop}
use Rattle.std.specs.Prelude.{flat_map}
use Rattle.order_lines.specs.Explored.{happened_text}
use Rattle.order_lines.proofs.explored.append_marks.Given as goal

abbrev pub invariant-loop-mark : goal.invariant-loop-mark
invariant-loop-mark l = l.text.items ++ flat_map (happened_text l.script) (drop l.mark-index l.happened) ≡ l.initial.text.items ++ flat_map (happened_text l.script) l.happened
