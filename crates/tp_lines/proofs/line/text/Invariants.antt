use Rattle.std.proofs.Common.{◌≡◌, ◌+◌, ◌++◌, take}
use Rattle.tp_lines.proofs.line.text.Given as goal

abbrev pub invariant-loop-index : goal.invariant-loop-index
invariant-loop-index l = (l.end ≡ l.at + l.index) × (take l.end l.out ≡ take l.at l.initial.out ++ take l.index l.text)
