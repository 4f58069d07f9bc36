use Rattle.tp_legacy.proofs.LineFacts.{old_line_read, old_stuck_first, old_stuck_second}
use Rattle.tp_legacy.proofs.lines.read_old_line.Goals as goal

pub returns-in-Err : goal.returns-in-Err
returns-in-Err c = old_stuck_first c.args.text.now c.in-Err.place c.in-Err.ensures

pub returns-in-Err-read_old_call : goal.returns-in-Err-read_old_call
returns-in-Err-read_old_call c =
    old_stuck_second c.args.text.now c.in-Ok.who c.in-Ok.size c.in-Ok.ensures c.split_at.result.1.now c.split_at.ensures.back c.in-Err-read_old_call.place c.in-Err-read_old_call.ensures

pub returns-in-Ok-read_old_call : goal.returns-in-Ok-read_old_call
returns-in-Ok-read_old_call c =
    old_line_read c.args.text.now c.in-Ok.who c.in-Ok.size c.in-Ok.ensures c.split_at.result.1.now c.split_at.ensures.back c.in-Ok-read_old_call.call c.in-Ok-read_old_call.more c.in-Ok-read_old_call.ensures
