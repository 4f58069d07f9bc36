use Rattle.port_facts.proofs.Following.{legal_accepted, legal_first, legal_rest}
use Rattle.port_facts.proofs.legal_is_answered.Goals as goal

pub returns-clause-all : goal.returns-clause-all
returns-clause-all c = legal_accepted

pub returns-clause-first : goal.returns-clause-first
returns-clause-first c = legal_first

pub returns-clause-rest : goal.returns-clause-rest
returns-clause-rest c = legal_rest
