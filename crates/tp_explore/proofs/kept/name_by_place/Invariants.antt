use Rattle.std.proofs.Common.{length, map, ◌≡◌, ◌++◌, take, drop}
use Rattle.renamed_worlds.specs.Closed.{place_of}
use Rattle.tp_explore.proofs.kept.name_by_place.Given as goal

abbrev pub invariant-loop-index : goal.invariant-loop-index
invariant-loop-index l =
    (length l.numbers ≡ length l.initial.numbers)
    × (take l.index l.numbers ++ map (place_of l.callbacks) (drop l.index l.numbers) ≡ map (place_of l.callbacks) l.initial.numbers)
