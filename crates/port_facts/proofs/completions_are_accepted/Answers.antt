use Rattle.port_facts.proofs.Completing.{are_completed}
use Rattle.port_facts.proofs.Interleaving.{are_interleaved, by_device}
use Rattle.port_facts.proofs.completions_are_accepted.Goals as goal

pub returns-clause-accepted : goal.returns-clause-accepted
returns-clause-accepted c = are_completed

pub returns-clause-interleaved : goal.returns-clause-interleaved
returns-clause-interleaved c = are_interleaved

pub returns-clause-by_device : goal.returns-clause-by_device
returns-clause-by_device c = by_device
