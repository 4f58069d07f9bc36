use Rattle.std.proofs.Common.{}
use Rattle.sources.proofs.Keeping.{entered_kept}
use Rattle.sources.proofs.LiveSources.enter.Goals as goal

pub invariant_of-self : goal.invariant_of-self
invariant_of-self c = entered_kept c.self.inside c.args.object c.create.new.self c.self.invariant c.requires.least c.create.ensures
