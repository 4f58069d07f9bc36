use Rattle.tp_lines.proofs.EntryFacts.{entry_read, entry_stuck_first, entry_stuck_second}
use Rattle.tp_lines.proofs.entries.read_entry.Goals as goal

pub returns-in-Err : goal.returns-in-Err
returns-in-Err c = entry_stuck_first c.args.text.now c.in-Err.place c.in-Err.ensures

pub returns-in-Err-read_arrow : goal.returns-in-Err-read_arrow
returns-in-Err-read_arrow c =
    entry_stuck_second c.args.text.now c.in-Ok.who c.in-Ok.call c.in-Ok.size c.in-Ok.ensures c.split_at.result.1.now c.split_at.ensures.back
    c.in-Err-read_arrow.place c.in-Err-read_arrow.ensures

pub returns-in-Ok-read_arrow : goal.returns-in-Ok-read_arrow
returns-in-Ok-read_arrow c =
    entry_read c.args.text.now c.in-Ok.who c.in-Ok.call c.in-Ok.size c.in-Ok.ensures c.split_at.result.1.now c.split_at.ensures.back
    c.in-Ok-read_arrow.answer c.in-Ok-read_arrow.more c.in-Ok-read_arrow.ensures
