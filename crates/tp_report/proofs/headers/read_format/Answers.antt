use Rattle.tp_report.proofs.HeaderFacts.{marks_read}
use Rattle.tp_report.proofs.headers.read_format.Goals as goal

pub returns : goal.returns
returns c = marks_read c.args.text.now c.read_bytes.result c.read_bytes-2.result c.further.result c.further.ensures c.read_bytes.ensures c.read_bytes-2.ensures
