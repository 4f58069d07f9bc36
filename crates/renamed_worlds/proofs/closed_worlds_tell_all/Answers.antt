use Rattle.renamed_worlds.proofs.Closing.{closed_again}
use Rattle.renamed_worlds.proofs.Nameless.{changed_closed, comes_to_one, plan_closed}
use Rattle.renamed_worlds.proofs.closed_worlds_tell_all.Goals as goal

pub returns-clause-plans : goal.returns-clause-plans
returns-clause-plans c = plan_closed

pub returns-clause-changes : goal.returns-clause-changes
returns-clause-changes c = changed_closed

pub returns-clause-alike : goal.returns-clause-alike
returns-clause-alike c = comes_to_one

pub returns-clause-again : goal.returns-clause-again
returns-clause-again c = closed_again
