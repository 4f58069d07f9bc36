use Rattle.port_facts.proofs.Whole.{lists_are_listed, sets_up}
use Rattle.port_facts.proofs.set_up_is_accepted.Goals as goal

pub returns-clause-accepted : goal.returns-clause-accepted
returns-clause-accepted c = sets_up

pub returns-clause-listed : goal.returns-clause-listed
returns-clause-listed c = lists_are_listed
