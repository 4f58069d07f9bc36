use Rattle.tp_coalesce.proofs.LineFacts.{own_line_read, own_stuck_first, own_stuck_second}
use Rattle.tp_coalesce.proofs.lines.read_own_line.Goals as goal

pub returns-in-Err : goal.returns-in-Err
returns-in-Err c = own_stuck_first c.args.text.now c.in-Err.place c.in-Err.ensures

pub returns-in-Err-read_sleep : goal.returns-in-Err-read_sleep
returns-in-Err-read_sleep c =
    own_stuck_second c.args.text.now c.in-Ok.who c.in-Ok.size c.in-Ok.ensures c.split_at.result.1.now c.split_at.ensures.back c.in-Err-read_sleep.place c.in-Err-read_sleep.ensures

pub returns-in-Ok-read_sleep : goal.returns-in-Ok-read_sleep
returns-in-Ok-read_sleep c =
    own_line_read c.args.text.now c.in-Ok.who c.in-Ok.size c.in-Ok.ensures c.split_at.result.1.now c.split_at.ensures.back c.in-Ok-read_sleep.call c.in-Ok-read_sleep.more c.in-Ok-read_sleep.ensures
