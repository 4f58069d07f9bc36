use Rattle.std.proofs.Common.{◌≡◌, drop}
use Rattle.tp_explore.specs.Exchanging.{rearranged_places}
use Rattle.tp_explore.proofs.kept.KeptRow.rearranged.Given as goal

abbrev pub invariant-loop-at : goal.invariant-loop-at
invariant-loop-at l = rearranged_places l.limits (drop l.at-index l.order) l.places.items ≡ rearranged_places l.limits l.order l.self
