use Rattle.tp_lines.proofs.WhoFacts.{line_read, line_stuck_first, line_stuck_second}
use Rattle.tp_lines.proofs.calls.read_call_line.Goals as goal

pub returns-in-Err : goal.returns-in-Err
returns-in-Err c = line_stuck_first c.args.text.now c.in-Err.place c.in-Err.ensures

pub returns-in-Err-read_call : goal.returns-in-Err-read_call
returns-in-Err-read_call c =
    line_stuck_second c.args.text.now c.in-Ok.who c.in-Ok.size c.in-Ok.ensures c.split_at.result.1.now c.split_at.ensures.back c.in-Err-read_call.place c.in-Err-read_call.ensures

pub returns-in-Ok-read_call : goal.returns-in-Ok-read_call
returns-in-Ok-read_call c =
    line_read c.args.text.now c.in-Ok.who c.in-Ok.size c.in-Ok.ensures c.split_at.result.1.now c.split_at.ensures.back c.in-Ok-read_call.call c.in-Ok-read_call.more c.in-Ok-read_call.ensures
