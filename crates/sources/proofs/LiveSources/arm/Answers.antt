use Rattle.std.proofs.Common.{sym, ap, ◌∙◌, arith}
use Rattle.tp_base.specs.Armings.{is_armed}
use Rattle.sources.specs.Rows.{SourceRows, is_there}
use Rattle.sources.proofs.Keeping.{armed_kept, one_more}
use Rattle.sources.proofs.LiveSources.arm.Goals as goal

pub overflow_add-self : goal.overflow_add-self
overflow_add-self c =
    let there = ap (λ (r : SourceRows). is_there r c.args.object.0) c.self.view_is ∙ c.requires.there in
    let unarmed = ap (λ (r : SourceRows). is_armed c.args.object.0 r.sources.armings) c.self.view_is ∙ c.requires.unarmed in
    omega (arith, one_more c.self.inside c.args.object c.args.kernel c.self.invariant there unarmed)

pub invariant_of-self-3 : goal.invariant_of-self-3
invariant_of-self-3 c =
    let there = ap (λ (r : SourceRows). is_there r c.args.object.0) c.self.view_is ∙ c.requires.there in
    let unarmed = ap (λ (r : SourceRows). is_armed c.args.object.0 r.sources.armings) c.self.view_is ∙ c.requires.unarmed in
    armed_kept c.self.inside c.args.object c.args.kernel c.self.invariant there unarmed c.set.new.self c.arm.new.self _ c.take_signal.new.self _ _
    (sym c.take_signal.ensures.was ∙ c.if-take_signal.false) c.take_signal.ensures.after c.arm.ensures c.set.ensures.after
