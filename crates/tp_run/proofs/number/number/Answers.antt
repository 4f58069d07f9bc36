use Rattle.std.proofs.Common.{arith}
use Rattle.tp_run.proofs.Numbers.{number_longer, number_read, number_stuck}
use Rattle.std.proofs.Common.{sym}
use Rattle.tp_run.proofs.number.number.Goals as goal

pub returns-then-size-text : goal.returns-then-size-text
returns-then-size-text c = sym (number_read c.args.text.now c.in-Ok.value c.in-Ok.size c.in-Ok.ensures (omega (arith, c.if-size-text.true)))

pub returns-else-size-text : goal.returns-else-size-text
returns-else-size-text c = sym (number_longer c.args.text.now c.in-Ok.value c.in-Ok.size c.in-Ok.ensures (omega (arith, c.if-size-text.false, c.in-Ok.ensures.within)))

pub returns-in-Err : goal.returns-in-Err
returns-in-Err c = sym (number_stuck c.args.text.now c.in-Err.field-0 c.in-Err.ensures)
