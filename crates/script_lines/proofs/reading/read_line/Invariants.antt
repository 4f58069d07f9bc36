use Rattle.std.proofs.Common.{◌+◌, ◌<◌, ◌^◌, ℕ, length}
use Rattle.script_lines.specs.declared.fault.ScriptKind.{ScriptKind}
use Rattle.script_lines.specs.Readings.{Fails, Goes, Trail, first_trail}
use Rattle.script_lines.specs.Seen.{seen}
use Rattle.script_lines.specs.Texts.{words_from}
use Rattle.script_lines.proofs.reading.read_line.Given as goal

-- where the words that are left lead, all words lead; and their fault is that of all
abbrev pub invariant-loop-spot : goal.invariant-loop-spot
invariant-loop-spot l = record {
  goes : (end : Trail) → Goes l.known (seen l.trail) (words_from l.column l.rest) end → Goes l.known first_trail (words_from 1 l.text) end;
  fails : (column : ℕ) (kind : ScriptKind) → Fails l.known l.column (seen l.trail) (words_from l.column l.rest) column kind → Fails l.known 1 first_trail (words_from 1 l.text) column kind;
  fits : l.column + length l.rest < 2 ^ 32;
}

abbrev pub decreases-loop-spot : goal.decreases-loop-spot
decreases-loop-spot l = length l.rest
