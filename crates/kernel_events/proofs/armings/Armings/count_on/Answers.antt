use Rattle.std.proofs.Common.{◌≡◌, ap, arith, length, refl, ◌∙◌}
use Rattle.kernel_events.specs.Armed.{waits_on}
use Rattle.kernel_events.proofs.Shown.{past_list, shown_count}
use Rattle.kernel_events.proofs.armings.Armings.count_on.Goals as goal

pub returns-then-kernel-self : goal.returns-then-kernel-self
returns-then-kernel-self c =
    let none : length (waits_on c.args.kernel.0 c.args.self.now.armed) ≡ 0 =
    rw (← c.self.view_is) (shown_count _ _ _ _ c.self.invariant c.args.kernel.0 ∙ ap length (past_list _ _ _ _ c.self.invariant c.args.kernel.0 c.if-kernel-self.true))
    in
    rw none (grind arith)

pub returns : goal.returns
returns c = rw (← c.self.view_is, shown_count _ _ _ _ c.self.invariant c.args.kernel.0, c.min.ensures, c.len.ensures) refl
