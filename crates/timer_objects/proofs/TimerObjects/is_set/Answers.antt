use Rattle.std.proofs.Common.{◌≡◌, ap, sym, ◌∙◌, arith}
use Rattle.std.specs.Prelude.{is_some}
use Rattle.timer_objects.proofs.Shown.{shown_set, none_set}
use Rattle.timer_objects.proofs.TimerObjects.is_set.Goals as goal

pub returns-then-object-gt0 : goal.returns-then-object-gt0
returns-then-object-gt0 c =
    rw (← c.self.view_is) (c.is_some.ensures ∙ ap is_some c.due_of.ensures ∙ shown_set c.self.inside.paces.items _ _ _ c.key_of.ensures)

pub returns-else-object-gt0 : goal.returns-else-object-gt0
returns-else-object-gt0 c =
    let none : c.args.object.0 ≡ 0 = omega (arith, c.if-object-gt0.false) in
    rw (← c.self.view_is, none) (sym (none_set c.self.inside.paces.items c.self.inside.dues.entries))
