use Rattle.tp_coalesce.proofs.LineFacts.{pool_read, pool_stuck}
use Rattle.tp_coalesce.proofs.lines.read_pool_line.Goals as goal

pub returns-in-Err : goal.returns-in-Err
returns-in-Err c = pool_stuck c.args.text.now c.in-Err.place c.in-Err.ensures

pub returns-in-Ok : goal.returns-in-Ok
returns-in-Ok c = pool_read c.args.text.now c.in-Ok.who c.in-Ok.call c.in-Ok.size c.in-Ok.ensures
