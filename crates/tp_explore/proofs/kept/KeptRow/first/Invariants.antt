use Rattle.std.proofs.Common.{◌≡◌, take}
use Rattle.tp_explore.proofs.kept.KeptRow.first.Given as goal

abbrev pub invariant-loop-place : goal.invariant-loop-place
invariant-loop-place l = l.kept.items ≡ take l.place-index l.place-items
