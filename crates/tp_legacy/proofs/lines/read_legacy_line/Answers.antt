use Rattle.tp_legacy.proofs.LineFacts.{line_read}
use Rattle.tp_legacy.proofs.lines.read_legacy_line.Goals as goal

pub returns : goal.returns
returns c = line_read c.args.text.now c.read_pool_line.result c.read_old_line.result c.further.result c.further.ensures c.read_pool_line.ensures c.read_old_line.ensures
