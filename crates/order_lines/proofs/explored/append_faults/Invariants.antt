use Rattle.std.proofs.Common.{◌≡◌, ◌++◌, drop}
use Rattle.std.specs.Prelude.{flat_map}
use Rattle.order_lines.specs.Explored.{told_line}
use Rattle.order_lines.proofs.explored.append_faults.Given as goal

abbrev pub invariant-loop-fault : goal.invariant-loop-fault
invariant-loop-fault l = l.text.items ++ flat_map (told_line l.script) (drop l.fault-index l.told) ≡ l.initial.text.items ++ flat_map (told_line l.script) l.told
