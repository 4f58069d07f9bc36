use Rattle.std.proofs.Common.{◌-◌, cond, refl, sym, ap, ◌∙◌}
use Rattle.tp_base.specs.declared.answers.TakeResult.TheVariants.{Plain, WaitTimeout}
use Rattle.sources.proofs.Expiring.{expired_fires, nothing_fires}
use Rattle.sources.proofs.Keeping.{disarmed_kept, none_less, one_less}
use Rattle.sources.proofs.LiveSources.expire.Goals as goal

pub returns-in_err-object : goal.returns-in_err-object
returns-in_err-object c =
    rw c.from_residual.ensures
    (nothing_fires c.self.inside c.args.self.now c.expire.new.self c.self.view_is (sym c.expire.ensures.first ∙ c.in_err-object.was) c.expire.ensures.after c.in_err-object.ensures.fired c.in_err-object.ensures.done)

pub invariant_of-self-then-disarm : goal.invariant_of-self-then-disarm
invariant_of-self-then-disarm c =
    let told = c.disarm.ensures.was in
    disarmed_kept c.self.inside c.in_ok-object.object c.disarm.result c.self.invariant told c.expire.new.self c.disarm.new.self _ c.self.inside.kernels.rows _ c.expire.ensures.after c.disarm.ensures.after refl
    (one_less c.self.inside c.in_ok-object.object c.disarm.result c.self.invariant told c.if-disarm.true)

pub invariant_of-self-else-disarm : goal.invariant_of-self-else-disarm
invariant_of-self-else-disarm c =
    let told = c.disarm.ensures.was in
    disarmed_kept c.self.inside c.in_ok-object.object c.disarm.result c.self.invariant told c.expire.new.self c.disarm.new.self _ c.self.inside.kernels.rows _ c.expire.ensures.after c.disarm.ensures.after refl
    (none_less c.self.inside c.in_ok-object.object c.disarm.result c.self.invariant told c.if-disarm.false)

pub returns-then-disarm : goal.returns-then-disarm
returns-then-disarm c =
    expired_fires c.self.inside c.args.self.now c.expire.new.self c.disarm.new.self (c.self.inside.armed - 1) c.in_ok-object.field-0-0 c.in_ok-object.object c.disarm.result WaitTimeout c.self.view_is c.self.invariant
    (sym c.expire.ensures.first ∙ c.in_ok-object.was) c.expire.ensures.after c.in_ok-object.ensures.fired c.expire.ensures.left c.len.ensures.distinct c.len.ensures.alive c.disarm.ensures.was c.disarm.ensures.after
    (sym (ap (λ b. cond b WaitTimeout Plain) c.if-disarm.true))

pub returns-else-disarm : goal.returns-else-disarm
returns-else-disarm c =
    expired_fires c.self.inside c.args.self.now c.expire.new.self c.disarm.new.self c.self.inside.armed c.in_ok-object.field-0-0 c.in_ok-object.object c.disarm.result Plain c.self.view_is c.self.invariant
    (sym c.expire.ensures.first ∙ c.in_ok-object.was) c.expire.ensures.after c.in_ok-object.ensures.fired c.expire.ensures.left c.len.ensures.distinct c.len.ensures.alive c.disarm.ensures.was c.disarm.ensures.after
    (sym (ap (λ b. cond b WaitTimeout Plain) c.if-disarm.false))
