use Rattle.std.proofs.Common.{arith, subst}
use Rattle.tp_report.specs.Readings.{IsEndRead}
use Rattle.tp_report.proofs.Places.{next_line, next_end, next_stuck}
use Rattle.tp_report.proofs.lines.read_next_line.Goals as goal

pub returns-then-len-header-clause-next : goal.returns-then-len-header-clause-next
returns-then-len-header-clause-next c = c.read_last_line.ensures c.args.line.now

pub returns-in-Ok-clause-next : goal.returns-in-Ok-clause-next
returns-in-Ok-clause-next c = next_line c.args.header.now c.args.len c.args.text.now c.read_line.new.line c.in-Ok.size (omega arith) c.in-Ok.ensures.read

pub returns-in-None-clause-next : goal.returns-in-None-clause-next
returns-in-None-clause-next c =
    let end = subst (λ o. IsEndRead c.args.len c.args.text.now o) c.in-None.is c.in_ok-read_end_line-in-Err.ensures in
    (end.0, next_end c.args.header.now c.args.len c.args.text.now end.0 end.1)

pub returns-in-Some-clause-next : goal.returns-in-Some-clause-next
returns-in-Some-clause-next c =
    let end = subst (λ o. IsEndRead c.args.len c.args.text.now o) c.in-Some.is c.in_ok-read_end_line-in-Err.ensures in
    rw c.max.ensures (next_stuck c.args.header.now c.args.len c.args.text.now c.in-Err.place c.in-Some.other (omega arith) c.in-Err.ensures.read end)
