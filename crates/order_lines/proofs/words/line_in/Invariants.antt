use Rattle.std.proofs.Common.{◌≡◌, ◌≤◌, drop, length}
use Rattle.script_lines.specs.Texts.{lines_of}
use Rattle.order_lines.proofs.words.line_in.Given as goal

-- the lines that are left are those behind the ones that were passed
abbrev pub invariant-loop : goal.invariant-loop
invariant-loop l = record {
  left : lines_of l.rest ≡ drop l.counter (lines_of l.text);
  within : length l.rest ≤ length l.text;
}
