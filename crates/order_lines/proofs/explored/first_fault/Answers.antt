use Rattle.order_lines.proofs.Writing.{first_is}
use Rattle.order_lines.proofs.explored.first_fault.Goals as goal

pub returns : goal.returns
returns c = first_is c.args.told.now _ c.requires
