use Rattle.std.proofs.Common.{◌≡◌, ◌≤◌, ◌++◌, drop, vec_len}
use Rattle.tp_script.specs.Parsed.{played}
use Rattle.tp_script.proofs.numbered.played_lines.Given as goal

-- the lines so far and those of the rows that are left are all
abbrev pub invariant-loop-row : goal.invariant-loop-row
invariant-loop-row l = record {
  all : l.lines.items ++ played (drop l.row-index l.rows) ≡ played l.rows;
  few : vec_len l.lines ≤ l.row-index;
}
