use Rattle.tp_report.proofs.HeaderFacts.{sizes_stuck_first, sizes_stuck_second, sizes_read}
use Rattle.tp_report.proofs.headers.read_sizes.Goals as goal

pub returns-in-Err : goal.returns-in-Err
returns-in-Err c = sizes_stuck_first c.args.format c.args.text.now c.in-Err.place c.in-Err.ensures

pub returns-in-Err-read_rooms : goal.returns-in-Err-read_rooms
returns-in-Err-read_rooms c =
    sizes_stuck_second c.args.format c.args.text.now c.in-Ok.workers c.in-Ok.size c.in-Ok.ensures c.split_at.result.1.now c.split_at.ensures.back c.in-Err-read_rooms.place c.in-Err-read_rooms.ensures

pub returns-in-Ok-read_rooms : goal.returns-in-Ok-read_rooms
returns-in-Ok-read_rooms c =
    sizes_read c.args.format c.args.text.now c.in-Ok.workers c.in-Ok.size c.in-Ok.ensures c.split_at.result.1.now c.split_at.ensures.back c.in-Ok-read_rooms.rooms c.in-Ok-read_rooms.more c.in-Ok-read_rooms.ensures
