use Rattle.std.proofs.Common.{ap, option_map, slice_get, sym, ◌∙◌}
use Rattle.kernel_events.specs.Threaded.{object_id}
use Rattle.kernel_events.proofs.Shown.{past_list, shown_first}
use Rattle.kernel_events.proofs.armings.Armings.first_on.Goals as goal

pub returns-then-kernel-self : goal.returns-then-kernel-self
returns-then-kernel-self c =
    let none = ap (λ xs. option_map object_id (slice_get xs 0)) (past_list _ _ _ _ c.self.invariant c.args.kernel.0 c.if-kernel-self.true) in
    rw (← c.self.view_is) (sym none ∙ shown_first _ _ _ _ c.self.invariant c.args.kernel.0)

pub returns-in_err-object : goal.returns-in_err-object
returns-in_err-object c =
    rw (← c.self.view_is) (c.from_residual.ensures ∙ ap (option_map object_id) (sym c.in_err-object.was ∙ c.first.ensures.value) ∙ shown_first _ _ _ _ c.self.invariant c.args.kernel.0)

pub returns : goal.returns
returns c = rw (← c.self.view_is) (ap (option_map object_id) (sym c.in_ok-object.was ∙ c.first.ensures.value) ∙ shown_first _ _ _ _ c.self.invariant c.args.kernel.0)
