use Rattle.std.proofs.Common.{◌≡◌, drop}
use Rattle.tp_explore.specs.Exchanging.{rearranged_noted}
use Rattle.tp_explore.proofs.notes.Notes.rearranged.Given as goal

abbrev pub invariant-loop-at : goal.invariant-loop-at
invariant-loop-at l = rearranged_noted (drop l.at-index l.order) l.notes ≡ rearranged_noted l.order l.self
