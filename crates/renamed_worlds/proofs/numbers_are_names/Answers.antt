use Rattle.renamed_worlds.proofs.Changes.{changed_renamed}
use Rattle.renamed_worlds.proofs.Plans.{plan_renamed}
use Rattle.renamed_worlds.proofs.numbers_are_names.Goals as goal

pub returns-clause-plans : goal.returns-clause-plans
returns-clause-plans c = plan_renamed

pub returns-clause-changes : goal.returns-clause-changes
returns-clause-changes c = changed_renamed
