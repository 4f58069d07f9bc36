use Rattle.tp_coalesce.proofs.LineFacts.{line_read}
use Rattle.tp_coalesce.proofs.lines.read_sleep_line.Goals as goal

pub returns : goal.returns
returns c = line_read c.args.text.now c.read_pool_line.result c.read_own_line.result c.further.result c.further.ensures c.read_pool_line.ensures c.read_own_line.ensures
