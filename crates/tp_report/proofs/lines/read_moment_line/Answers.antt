use Rattle.tp_report.proofs.LineFacts.{behind_read, behind_stuck, stuck_told}
use Rattle.tp_report.proofs.lines.read_moment_line.Goals as goal

pub returns-in_err-rest-clause-read : goal.returns-in_err-rest-clause-read
returns-in_err-rest-clause-read c = stuck_told c.args.line.now c.args.text.now c.in_err-rest.field-0.0 c.from_residual.result c.from_residual.ensures.1 c.in_err-rest.ensures.err

pub returns-in-Ok-clause-read : goal.returns-in-Ok-clause-read
returns-in-Ok-clause-read c =
    let stamp = c.read_moment.new.stamp in
    behind_read c.args.text.now stamp.moment stamp.text.now c.in_ok-rest.rest.now c.in_ok-rest.ensures.stamp.in_range c.in_ok-rest.ensures.stamp.text_is c.in_ok-rest.ensures.split
    c.read_entry_line.new.entry c.in-Ok.more c.in-Ok.ensures

pub returns-in-Err-clause-read : goal.returns-in-Err-clause-read
returns-in-Err-clause-read c =
    let stamp = c.read_moment.new.stamp in
    behind_stuck c.args.text.now stamp.moment stamp.text.now c.in_ok-rest.rest.now c.in_ok-rest.ensures.stamp.in_range c.in_ok-rest.ensures.stamp.text_is c.in_ok-rest.ensures.split
    c.in-Err.place c.in-Err.ensures
