use Rattle.std.proofs.Common.{◌≡◌, take}
use Rattle.renamed_worlds.specs.Closed.{place_of}
use Rattle.tp_explore.specs.Closing.{named_row}
use Rattle.tp_explore.proofs.kept.KeptRow.close.Given as goal

abbrev pub invariant-loop-kept : goal.invariant-loop-kept
invariant-loop-kept l = (l.number ≡ l.kept-index) × (l.places.items ≡ named_row l.limits (place_of l.callbacks) 0 (take l.kept-index l.kept-items))
