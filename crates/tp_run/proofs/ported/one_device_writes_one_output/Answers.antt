use Rattle.tp_run.proofs.Devices.{one_output}
use Rattle.tp_run.proofs.ported.one_device_writes_one_output.Goals as goal

pub returns : goal.returns
returns c = λ devices a b ends other_ends few p q. one_output devices a b ends other_ends (c.port_text_fits.ensures.lists devices) few p q
