use Rattle.port_lines.proofs.LineFacts.{byte_count_stuck_first, byte_count_stuck_second, byte_count_read}
use Rattle.port_lines.proofs.lines.read_byte_count.Goals as goal

pub returns-in-Err : goal.returns-in-Err
returns-in-Err c = byte_count_stuck_first c.args.text.now c.in-Err.place c.in-Err.ensures

pub returns-in-Err-read_bytes : goal.returns-in-Err-read_bytes
returns-in-Err-read_bytes c =
    byte_count_stuck_second c.args.text.now c.in-Ok.bytes c.in-Ok.size c.in-Ok.ensures c.split_at.result.1.now c.split_at.ensures.back c.in-Err-read_bytes.place c.in-Err-read_bytes.ensures

pub returns-in-Ok-read_bytes : goal.returns-in-Ok-read_bytes
returns-in-Ok-read_bytes c =
    byte_count_read c.args.text.now c.in-Ok.bytes c.in-Ok.size c.in-Ok.ensures c.split_at.result.1.now c.split_at.ensures.back c.in-Ok-read_bytes.feed c.in-Ok-read_bytes.more c.in-Ok-read_bytes.ensures
