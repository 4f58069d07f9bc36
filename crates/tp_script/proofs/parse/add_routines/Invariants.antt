use Rattle.std.proofs.Common.{◌≡◌, ◌+◌, ◌≤◌, length}
use Rattle.script_lines.specs.Texts.{lines_of}
use Rattle.tp_script.specs.Scripts.{with_routines}
use Rattle.tp_script.proofs.parse.add_routines.Given as goal

abbrev pub invariant-loop-text : goal.invariant-loop-text
invariant-loop-text l = record {
  told : with_routines l.routines (lines_of l.rest) ≡ with_routines l.initial.routines (lines_of l.bytes);
  fits : l.lines + length l.rest ≤ length l.bytes;
}

abbrev pub decreases-loop-text : goal.decreases-loop-text
decreases-loop-text l = length l.rest
