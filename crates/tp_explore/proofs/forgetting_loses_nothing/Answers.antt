use Rattle.tp_explore.proofs.Alike.{forgets_faults, forgets_orders}
use Rattle.tp_explore.proofs.forgetting_loses_nothing.Goals as goal

pub returns-clause-orders : goal.returns-clause-orders
returns-clause-orders c = forgets_orders

pub returns-clause-faults : goal.returns-clause-faults
returns-clause-faults c = forgets_faults
