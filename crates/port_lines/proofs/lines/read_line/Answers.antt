use Rattle.std.proofs.Common.{arith}
use Rattle.port_lines.proofs.LineFacts.{line_read}
use Rattle.port_lines.proofs.lines.read_line.Goals as goal

pub returns : goal.returns
returns c =
    line_read c.args.devices c.args.operations c.args.text.now c.read_device-2.result c.read_operation-2.result c.further.result (omega arith) (omega arith)
    (omega arith) c.further.ensures c.read_device-2.ensures c.read_operation-2.ensures
