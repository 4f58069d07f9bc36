use Rattle.tp_lines.proofs.NamedFacts.{kernel_stuck}
use Rattle.tp_lines.proofs.parts.read_kernel.Goals as goal

pub returns-in-Err : goal.returns-in-Err
returns-in-Err c = kernel_stuck c.args.text.now c.in-Err.place c.in-Err.ensures
