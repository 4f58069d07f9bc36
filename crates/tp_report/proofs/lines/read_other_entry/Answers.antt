use Rattle.tp_lines.specs.Answers.{EntryLines}
use Rattle.line_grammar.proofs.EndedFacts.{ahead_read}
use Rattle.tp_report.proofs.Places.{entry_part}
use Rattle.tp_report.proofs.lines.read_other_entry.Goals as goal

pub returns-in-Some : goal.returns-in-Some
returns-in-Some c = ahead_read EntryLines entry_part c.args.text.now c.read_rare_entry.new.entry c.in-Some.size c.in-Some.ensures
