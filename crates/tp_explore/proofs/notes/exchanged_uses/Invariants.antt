use Rattle.std.proofs.Common.{◌≡◌, drop, fold}
use Rattle.tp_explore.specs.Exchanging.{exchanged_uses, with_exchanged}
use Rattle.tp_explore.proofs.notes.exchanged_uses.Given as goal

abbrev pub invariant-loop-begun : goal.invariant-loop-begun
invariant-loop-begun l = fold (with_exchanged l.at) l.exchanged.items (drop l.begun-index l.uses) ≡ exchanged_uses l.at l.uses
