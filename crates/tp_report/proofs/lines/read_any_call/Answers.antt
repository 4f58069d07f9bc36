use Rattle.tp_lines.specs.Calls.{CallLines}
use Rattle.line_grammar.proofs.EndedFacts.{ended_stuck, ended_open, ended_read}
use Rattle.tp_report.proofs.Places.{call_part}
use Rattle.tp_report.proofs.lines.read_any_call.Goals as goal

pub returns-in-Err : goal.returns-in-Err
returns-in-Err c = ended_stuck CallLines call_part c.args.text.now c.in-Err.place c.in-Err.ensures

pub returns-in-Some : goal.returns-in-Some
returns-in-Some c =
    ended_read CallLines call_part c.args.text.now c.in-Ok.value c.in-Ok.size c.in-Ok.ensures c.split_at.result.1.now c.in-Some.field-0.now c.split_at.ensures.back c.in-Some.ensures

pub returns-in-None : goal.returns-in-None
returns-in-None c = ended_open CallLines call_part c.args.text.now c.in-Ok.value c.in-Ok.size c.in-Ok.ensures c.split_at.result.1.now c.split_at.ensures.back c.in-None.ensures
