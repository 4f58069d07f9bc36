use Rattle.std.proofs.Common.{◌≡◌, ◌++◌, drop}
use Rattle.plain_worlds.proofs.waits.copy_waits.Given as goal

abbrev pub invariant-loop-wait : goal.invariant-loop-wait
invariant-loop-wait l = l.copies.items ++ drop l.wait-index l.waits ≡ l.waits
