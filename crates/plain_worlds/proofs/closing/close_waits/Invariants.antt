use Rattle.std.proofs.Common.{length, map, ◌≡◌, ◌++◌, take, drop}
use Rattle.plain_worlds.specs.Closing.{closed_wait}
use Rattle.plain_worlds.proofs.closing.close_waits.Given as goal

abbrev pub invariant-loop-index : goal.invariant-loop-index
invariant-loop-index l =
    (length l.waits.items ≡ length l.initial.waits.items)
    × (take l.index l.waits.items ++ map (closed_wait l.callbacks) (drop l.index l.waits.items) ≡ map (closed_wait l.callbacks) l.initial.waits.items)
