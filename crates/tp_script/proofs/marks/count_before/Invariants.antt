use Rattle.std.proofs.Common.{◌≡◌, drop}
use Rattle.std.specs.List.{filter}
use Rattle.tp_script.specs.Kept.{AreRising}
use Rattle.tp_script.specs.Parts.{is_within}
use Rattle.tp_script.proofs.marks.count_before.Given as goal

-- no mark so far stands within
abbrev pub invariant-loop-index : goal.invariant-loop-index
invariant-loop-index l = record {
  same : filter (is_within l.first l.last) (drop l.index l.marks) ≡ filter (is_within l.first l.last) l.marks;
  rising : AreRising (drop l.index l.marks);
}
