use Rattle.port_lines.proofs.LineFacts.{fields_stuck_first, fields_stuck_second, fields_read}
use Rattle.port_lines.proofs.lines.read_fields.Goals as goal

pub returns-in-Err : goal.returns-in-Err
returns-in-Err c = fields_stuck_first c.args.text.now c.in-Err.place c.in-Err.ensures

pub returns-in-Err-read_byte_count : goal.returns-in-Err-read_byte_count
returns-in-Err-read_byte_count c =
    fields_stuck_second c.args.text.now c.in-Ok.error c.in-Ok.size c.in-Ok.ensures c.split_at.result.1.now c.split_at.ensures.back c.in-Err-read_byte_count.place c.in-Err-read_byte_count.ensures

pub returns-in-Ok-read_byte_count : goal.returns-in-Ok-read_byte_count
returns-in-Ok-read_byte_count c =
    fields_read c.args.text.now c.in-Ok.error c.in-Ok.size c.in-Ok.ensures c.split_at.result.1.now c.split_at.ensures.back c.in-Ok-read_byte_count.last c.in-Ok-read_byte_count.more c.in-Ok-read_byte_count.ensures
