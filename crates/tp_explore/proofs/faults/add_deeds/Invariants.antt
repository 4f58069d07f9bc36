use Rattle.std.proofs.Common.{◌≡◌, ◌++◌, drop}
use Rattle.std.specs.List.{fold}
use Rattle.tp_explore.specs.Faults.{behind, deed_faults}
use Rattle.tp_explore.proofs.faults.add_deeds.Given as goal

abbrev pub invariant-loop-deed : goal.invariant-loop-deed
invariant-loop-deed g l = record {
  told : l.faults.items ++ deed_faults (g.V.Reads.world_of l.world) l.notes (drop l.deed-index l.deeds) ≡ l.initial.faults.items ++ deed_faults (g.V.Reads.world_of l.world) l.initial.notes l.deeds;
  noted : fold behind l.notes (drop l.deed-index l.deeds) ≡ fold behind l.initial.notes l.deeds;
}
