use Rattle.std.proofs.Common.{◌≡◌, ◌++◌, take}
use Rattle.std.specs.Prelude.{map}
use Rattle.line_grammar.specs.Traces.{trace_text}
use Rattle.tp_model.specs.Over.{row_of}
use Rattle.tp_report.specs.Summaries.{left_line}
use Rattle.tp_report.proofs.summary.append_left.Given as goal

abbrev pub invariant-loop-row : goal.invariant-loop-row
invariant-loop-row l = l.text.items ≡ l.fn.text.items ++ trace_text (map left_line (map row_of (take l.row-index l.rows)))
