use Rattle.port_lines.proofs.LineFacts.{operation_stuck_first, operation_stuck_second, operation_read}
use Rattle.port_lines.proofs.lines.read_operation.Goals as goal

pub returns-in-Err : goal.returns-in-Err
returns-in-Err c = operation_stuck_first c.args.text.now c.in-Err.place c.in-Err.ensures

pub returns-in-Err-read_fields : goal.returns-in-Err-read_fields
returns-in-Err-read_fields c =
    operation_stuck_second c.args.text.now c.in-Ok.field-0-0 c.in-Ok.size c.in-Ok.ensures c.split_at.result.1.now c.split_at.ensures.back c.in-Err-read_fields.place c.in-Err-read_fields.ensures

pub returns-in-Ok-read_fields : goal.returns-in-Ok-read_fields
returns-in-Ok-read_fields c =
    operation_read c.args.text.now c.in-Ok.field-0-0 c.in-Ok.size c.in-Ok.ensures c.split_at.result.1.now c.split_at.ensures.back
    c.in-Ok-read_fields.error c.in-Ok-read_fields.bytes c.in-Ok-read_fields.field-0-0-1-1 c.in-Ok-read_fields.more c.in-Ok-read_fields.ensures
