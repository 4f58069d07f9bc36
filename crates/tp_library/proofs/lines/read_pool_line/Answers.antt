use Rattle.tp_library.proofs.LineFacts.{pool_read, pool_stuck_first, pool_stuck_second}
use Rattle.tp_library.proofs.lines.read_pool_line.Goals as goal

pub returns-in-Err : goal.returns-in-Err
returns-in-Err c = pool_stuck_first c.args.text.now c.in-Err.place c.in-Err.ensures

pub returns-in-Err-read_suffix : goal.returns-in-Err-read_suffix
returns-in-Err-read_suffix c =
    pool_stuck_second c.args.text.now c.in-Ok.who c.in-Ok.call c.in-Ok.size c.in-Ok.ensures c.split_at.result.1.now c.split_at.ensures.back c.may_have_library.result c.may_have_library.ensures
    c.in-Err-read_suffix.place c.in-Err-read_suffix.ensures

pub returns-in-Ok-read_suffix : goal.returns-in-Ok-read_suffix
returns-in-Ok-read_suffix c =
    pool_read c.args.text.now c.in-Ok.who c.in-Ok.call c.in-Ok.size c.in-Ok.ensures c.split_at.result.1.now c.split_at.ensures.back c.may_have_library.result c.may_have_library.ensures
    c.in-Ok-read_suffix.library c.in-Ok-read_suffix.more c.in-Ok-read_suffix.ensures c.unwrap_or.result c.unwrap_or.ensures
