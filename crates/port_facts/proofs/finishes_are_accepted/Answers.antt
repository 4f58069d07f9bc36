use Rattle.port_facts.proofs.Finishing.{are_finished}
use Rattle.port_facts.proofs.finishes_are_accepted.Goals as goal

pub returns : goal.returns
returns c = are_finished
