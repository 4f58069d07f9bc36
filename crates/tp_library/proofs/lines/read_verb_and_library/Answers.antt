use Rattle.tp_library.proofs.LineFacts.{named_read, named_stuck_first, named_stuck_second}
use Rattle.tp_library.proofs.lines.read_verb_and_library.Goals as goal

pub returns-in-Err : goal.returns-in-Err
returns-in-Err c = named_stuck_first c.args.text.now c.in-Err.place c.in-Err.ensures

pub returns-in-Err-read_library : goal.returns-in-Err-read_library
returns-in-Err-read_library c =
    named_stuck_second c.args.text.now c.in-Ok.verb c.in-Ok.size c.in-Ok.ensures c.split_at.result.1.now c.split_at.ensures.back c.in-Err-read_library.place c.in-Err-read_library.ensures

pub returns-in-Ok-read_library : goal.returns-in-Ok-read_library
returns-in-Ok-read_library c =
    named_read c.args.text.now c.in-Ok.verb c.in-Ok.size c.in-Ok.ensures c.split_at.result.1.now c.split_at.ensures.back c.in-Ok-read_library.library c.in-Ok-read_library.more c.in-Ok-read_library.ensures
