use Rattle.std.proofs.Common.{refl}
use Rattle.sources.proofs.Keeping.{disarmed_kept, none_less, one_less}
use Rattle.sources.proofs.LiveSources.disarm.Goals as goal

pub invariant_of-self : goal.invariant_of-self
invariant_of-self c =
    let told = c.disarm.ensures.was in
    disarmed_kept c.self.inside c.args.object c.disarm.result c.self.invariant told c.unset.new.self c.disarm.new.self _ c.self.inside.kernels.rows _ c.unset.ensures.after c.disarm.ensures.after refl
    (one_less c.self.inside c.args.object c.disarm.result c.self.invariant told c.if-disarm.true)

pub invariant_of-self-else-disarm : goal.invariant_of-self-else-disarm
invariant_of-self-else-disarm c =
    let told = c.disarm.ensures.was in
    disarmed_kept c.self.inside c.args.object c.disarm.result c.self.invariant told c.unset.new.self c.disarm.new.self _ c.self.inside.kernels.rows _ c.unset.ensures.after c.disarm.ensures.after refl
    (none_less c.self.inside c.args.object c.disarm.result c.self.invariant told c.if-disarm.false)
