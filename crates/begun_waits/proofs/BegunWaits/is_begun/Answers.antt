use Rattle.std.proofs.Common.{ap, is_some, ◌∙◌}
use Rattle.begun_waits.proofs.Keeping.{purpose_begun}
use Rattle.begun_waits.proofs.BegunWaits.is_begun.Goals as goal

pub returns : goal.returns
returns g c = c.is_some.ensures ∙ ap is_some c.purpose.ensures ∙ purpose_begun c.args.self.now.waits c.args.who
