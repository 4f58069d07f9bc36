use Rattle.renamed_worlds.proofs.Exchange.Changes.{by_exchanged, by_worker, changed_exchanged}
use Rattle.renamed_worlds.proofs.Exchange.Closing.{closed_exchanged}
use Rattle.renamed_worlds.proofs.Exchange.Plans.{plan_exchanged}
use Rattle.renamed_worlds.proofs.workers_are_names.Goals as goal

pub returns-clause-plans : goal.returns-clause-plans
returns-clause-plans c = plan_exchanged

pub returns-clause-changes : goal.returns-clause-changes
returns-clause-changes c = changed_exchanged

pub returns-clause-by_worker : goal.returns-clause-by_worker
returns-clause-by_worker c = by_worker

pub returns-clause-by_other : goal.returns-clause-by_other
returns-clause-by_other c = by_exchanged

pub returns-clause-closes : goal.returns-clause-closes
returns-clause-closes c = closed_exchanged
