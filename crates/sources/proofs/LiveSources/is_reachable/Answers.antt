use Rattle.std.proofs.Common.{◌≤◌, length, subst}
use Rattle.sources.specs.Rows.{SourceRows}
use Rattle.sources.proofs.Keeping.{armed_few}
use Rattle.sources.proofs.LiveSources.is_reachable.Goals as goal

pub returns-clause-most : goal.returns-clause-most
returns-clause-most c = subst (λ (r : SourceRows). length r.sources.armings ≤ r.objects) c.self.view_is (armed_few c.self.inside c.self.invariant)
