use Rattle.std.proofs.Common.{◌≡◌, take}
use Rattle.tp_explore.specs.Keys.{used}
use Rattle.tp_explore.proofs.keys.used.Given as goal

abbrev pub invariant-loop-place : goal.invariant-loop-place
invariant-loop-place l = l.used ≡ used (take l.place l.names)
