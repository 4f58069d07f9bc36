use Rattle.tp_run.proofs.Devices.{port_of_fault}
use Rattle.tp_run.proofs.replies.port.Goals as goal

pub returns-in_err-devices : goal.returns-in_err-devices
returns-in_err-devices g c =
    port_of_fault c.args.bytes.now c.in_err-devices.field-0.0 c.from_residual.result c.from_residual.ensures.1 c.in_err-devices.ensures.err c.in_err-devices.ensures.only
