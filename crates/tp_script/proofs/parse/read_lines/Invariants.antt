use Rattle.std.proofs.Common.{ℕ, ◌+◌, ◌≤◌, List, ◌++◌, length, vec_len}
use Rattle.script_lines.specs.declared.fault.ScriptKind.{ScriptKind}
use Rattle.script_lines.specs.declared.judge.Known.{Known}
use Rattle.tp_script.specs.declared.numbered.NumberedLine.{NumberedLine}
use Rattle.script_lines.specs.Texts.{lines_of}
use Rattle.tp_script.specs.Scripts.{Faults, Reads, first_known}
use Rattle.tp_script.proofs.parse.read_lines.Given as goal

-- where the texts that are left lead, behind the lines so far, all lead; and their fault is that of all
abbrev pub invariant-loop-text : goal.invariant-loop-text
invariant-loop-text l = record {
  reads : (more : List NumberedLine) (end : Known) → Reads l.known l.number (lines_of l.rest) more end → Reads (first_known (lines_of l.bytes)) 1 (lines_of l.bytes) (l.rows.items ++ more) end;
  faults : (line column : ℕ) (kind : ScriptKind) → Faults l.known l.number (lines_of l.rest) line column kind → Faults (first_known (lines_of l.bytes)) 1 (lines_of l.bytes) line column kind;
  fits : l.number + length l.rest ≤ length l.bytes + 1;
  few : vec_len l.rows + length l.rest ≤ length l.bytes;
}

abbrev pub decreases-loop-text : goal.decreases-loop-text
decreases-loop-text l = length l.rest
