use Rattle.std.proofs.Common.{}
use Rattle.sources.proofs.Keeping.{none_less, one_less, struck_kept}
use Rattle.sources.proofs.LiveSources.strike.Goals as goal

pub invariant_of-self : goal.invariant_of-self
invariant_of-self c =
    let told = c.disarm.ensures.was in
    struck_kept c.self.inside c.args.object c.disarm.result c.self.invariant told c.close.new.self c.disarm.new.self _ c.close.ensures.after c.disarm.ensures.after
    (one_less c.self.inside c.args.object c.disarm.result c.self.invariant told c.if-disarm.true)

pub invariant_of-self-else-disarm : goal.invariant_of-self-else-disarm
invariant_of-self-else-disarm c =
    let told = c.disarm.ensures.was in
    struck_kept c.self.inside c.args.object c.disarm.result c.self.invariant told c.close.new.self c.disarm.new.self _ c.close.ensures.after c.disarm.ensures.after
    (none_less c.self.inside c.args.object c.disarm.result c.self.invariant told c.if-disarm.false)
