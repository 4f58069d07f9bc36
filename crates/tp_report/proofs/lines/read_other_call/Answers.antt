use Rattle.tp_lines.specs.Calls.{CallLines}
use Rattle.line_grammar.proofs.EndedFacts.{ahead_read}
use Rattle.tp_report.proofs.Places.{call_part}
use Rattle.tp_report.proofs.lines.read_other_call.Goals as goal

pub returns-in-Some : goal.returns-in-Some
returns-in-Some c = ahead_read CallLines call_part c.args.text.now c.read_rare_call.new.made c.in-Some.size c.in-Some.ensures
