use Rattle.std.proofs.Common.{◌≡◌, ◌++◌, drop, take}
use Rattle.std.specs.List.{filter}
use Rattle.tp_script.specs.Kept.{AreFrom, AreRising}
use Rattle.tp_script.specs.Parts.{is_within}
use Rattle.tp_script.proofs.marks.count_within.Given as goal

-- all marks so far stand within
abbrev pub invariant-loop-index : goal.invariant-loop-index
invariant-loop-index l = record {
  all : filter (is_within l.first l.last) l.marks ≡ take l.index l.marks ++ filter (is_within l.first l.last) (drop l.index l.marks);
  rising : AreRising (drop l.index l.marks);
  behind : AreFrom l.first (drop l.index l.marks);
}
