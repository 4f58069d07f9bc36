use Rattle.std.proofs.Common.{◌≡◌, ◌-◌, length, sym, ap, ◌∙◌, subst, arith}
use Rattle.tp_base.specs.Armings.{without_arming}
use Rattle.tp_model.proofs.Arming.{one_if}
use Rattle.sources.specs.Rows.{SourceRows}
use Rattle.sources.proofs.Armed.{without_length}
use Rattle.sources.proofs.LiveSources.armed_without.Goals as goal
use Rattle.sources.proofs.LiveSources.armed_without.Goals.{then-is_armed, else-is_armed}

pub returns : goal.returns
returns c =
    let i = c.self.inside in
    let told = c.is_armed.ensures.value in
    let left = without_length c.args.object.0 i.kernels.armed c.self.invariant.once in
    subst (λ (r : SourceRows). i.armed - c.if-is_armed.own ≡ length (without_arming c.args.object.0 r.sources.armings)) c.self.view_is
    (elim c.if-is_armed.branch [
      | then-is_armed w ↦ omega (arith, left, ap one_if (sym told ∙ w.if-is_armed.true), w.own-is, c.self.invariant.counted)
      | else-is_armed w ↦ omega (arith, left, ap one_if (sym told ∙ w.if-is_armed.false), w.own-is, c.self.invariant.counted)
    ])
