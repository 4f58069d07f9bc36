use Rattle.std.proofs.Common.{◌≡◌, ◌+◌, ◌≤◌, length}
use Rattle.script_lines.specs.Texts.{lines_of}
use Rattle.tp_script.specs.Named.{text_from}
use Rattle.tp_script.proofs.named.name_on.Given as goal

-- the line is among those that are left
abbrev pub invariant-loop-found : goal.invariant-loop-found
invariant-loop-found l = record {
  same : text_from l.number (lines_of l.rest) l.line ≡ text_from 1 (lines_of l.text) l.line;
  begun : 1 ≤ l.number;
  fits : l.number + length l.rest ≤ length l.text + 1;
}

abbrev pub decreases-loop-found : goal.decreases-loop-found
decreases-loop-found l = length l.rest
