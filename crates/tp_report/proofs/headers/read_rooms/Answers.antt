use Rattle.tp_report.proofs.HeaderFacts.{rooms_stuck_first, rooms_stuck_second, rooms_read}
use Rattle.tp_report.proofs.headers.read_rooms.Goals as goal

pub returns-in-Err : goal.returns-in-Err
returns-in-Err c = rooms_stuck_first c.args.format c.args.text.now c.in-Err.place c.in-Err.ensures

pub returns-in-Err-read_objects : goal.returns-in-Err-read_objects
returns-in-Err-read_objects c =
    rooms_stuck_second c.args.format c.args.text.now c.in-Ok.events c.in-Ok.size c.in-Ok.ensures c.split_at.result.1.now c.split_at.ensures.back c.in-Err-read_objects.place c.in-Err-read_objects.ensures

pub returns-in-Ok-read_objects : goal.returns-in-Ok-read_objects
returns-in-Ok-read_objects c =
    rooms_read c.args.format c.args.text.now c.in-Ok.events c.in-Ok.size c.in-Ok.ensures c.split_at.result.1.now c.split_at.ensures.back c.in-Ok-read_objects.objects c.in-Ok-read_objects.more c.in-Ok-read_objects.ensures
