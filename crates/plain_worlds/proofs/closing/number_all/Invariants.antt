use Rattle.std.proofs.Common.{◌+◌, length, ◌≡◌, ◌++◌, take, drop}
use Rattle.plain_worlds.specs.Closing.{numbered_from}
use Rattle.plain_worlds.proofs.closing.number_all.Given as goal

abbrev pub invariant-loop-index : goal.invariant-loop-index
invariant-loop-index l =
    (length l.callbacks.items ≡ length l.initial.callbacks.items)
    × (take l.index l.callbacks.items ++ numbered_from (l.index + 1) (drop l.index l.callbacks.items) ≡ numbered_from 1 l.initial.callbacks.items)
