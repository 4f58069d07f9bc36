use Rattle.std.proofs.Common.{length, map, ◌≡◌, ◌++◌, take, drop}
use Rattle.renamed_worlds.specs.Closed.{place_of}
use Rattle.renamed_worlds.specs.Renamed.{renamed_worker}
use Rattle.plain_worlds.proofs.closing.close_workers.Given as goal

abbrev pub invariant-loop-index : goal.invariant-loop-index
invariant-loop-index l =
    (length l.workers.items ≡ length l.initial.workers.items)
    × (take l.index l.workers.items ++ map (renamed_worker (place_of l.callbacks)) (drop l.index l.workers.items) ≡ map (renamed_worker (place_of l.callbacks)) l.initial.workers.items)
