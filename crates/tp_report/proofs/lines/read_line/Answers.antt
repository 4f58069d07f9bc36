use Rattle.std.proofs.Common.{sym, subst}
use Rattle.std.specs.Prelude.{None}
use Rattle.line_grammar.specs.Language.{IsRead}
use Rattle.tp_report.specs.Histories.{Lines}
use Rattle.line_grammar.specs.Traces.{Ended}
use Rattle.tp_report.specs.Readings.{read_as}
use Rattle.tp_report.proofs.LineFacts.{one_read}
use Rattle.tp_report.proofs.lines.read_line.Goals as goal

pub returns-in-One-clause-read : goal.returns-in-One-clause-read
returns-in-One-clause-read c =
    let entry = c.read_entry_line.new.entry in
    subst (λ f. IsRead (Ended (Lines f)) c.args.text.now (read_as (record { moment = None; entry = entry }) c.read_entry_line.result)) (sym c.in-One.is)
    (one_read c.args.text.now entry c.read_entry_line.result c.read_entry_line.ensures)
