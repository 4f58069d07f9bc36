use Rattle.std.proofs.Common.{◌≡◌, ◌≤◌, ◌++◌, drop}
use Rattle.tp_script.specs.Parsed.{marks_from}
use Rattle.tp_script.proofs.numbered.marks_of.Given as goal

-- the marks so far and those of the rows that are left are all
abbrev pub invariant-loop-row : goal.invariant-loop-row
invariant-loop-row l = record {
  all : l.marks.items ++ marks_from l.place (drop l.row-index l.rows) ≡ marks_from 0 l.rows;
  few : l.place ≤ l.row-index;
}
