use Rattle.std.proofs.Common.{◌+◌, sym, ◌∙◌, arith, rules}
use Rattle.timer_objects.proofs.Shown.{shown_where}
use Rattle.timer_objects.proofs.TimerObjects.count_due_where.Goals as goal

pub returns : goal.returns
returns g c = λ passes tests.
    let known = rw (← c.self.view_is) at tests in
    rw (← c.self.view_is)
    (c.count_due_where.ensures (λ key. passes (key + 1)) (λ key answer small post. search (rules, known (record { 0 = key + 1 }) answer (omega (arith, small)), c.self.invariant.fits, small))
    ∙ sym (shown_where c.self.inside.paces.items c.args.now passes c.self.inside.dues.entries))
