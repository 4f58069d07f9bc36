use Rattle.port_facts.proofs.Whole.{by_device_in_all, is_legal_history}
use Rattle.port_facts.proofs.port_history_is_legal.Goals as goal

pub returns-clause-legal : goal.returns-clause-legal
returns-clause-legal c = is_legal_history

pub returns-clause-by_device : goal.returns-clause-by_device
returns-clause-by_device c = by_device_in_all
