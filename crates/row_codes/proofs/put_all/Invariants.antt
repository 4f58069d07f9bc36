use Rattle.std.proofs.Common.{◌≡◌, ◌++◌, length, take}
use Rattle.short_codes.specs.Codes.{each, number}
use Rattle.row_codes.proofs.put_all.Given as goal

abbrev pub invariant-loop-item : goal.invariant-loop-item
invariant-loop-item g l = l.text.items ≡ (l.fn.text.items ++ number (length l.items)) ++ each g.T.Coded.code (take l.item-index l.items)
