use Rattle.std.proofs.Common.{◌≡◌, ◌≤◌, ◌++◌, drop, vec_len}
use Rattle.tp_script.specs.Parsed.{numbers_among}
use Rattle.tp_script.proofs.numbered.numbers_among.Given as goal

-- the numbers so far and those of the rows that are left are all
abbrev pub invariant-loop-row : goal.invariant-loop-row
invariant-loop-row l = record {
  all : l.numbers.items ++ numbers_among l.among (drop l.row-index l.rows) ≡ numbers_among l.among l.rows;
  few : vec_len l.numbers ≤ l.row-index;
}
