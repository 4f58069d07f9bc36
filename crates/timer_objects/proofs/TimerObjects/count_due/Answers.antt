use Rattle.std.proofs.Common.{sym, ◌∙◌}
use Rattle.timer_objects.proofs.Shown.{shown_due}
use Rattle.timer_objects.proofs.TimerObjects.count_due.Goals as goal

pub returns : goal.returns
returns c = rw (← c.self.view_is) (c.count_due.ensures ∙ sym (shown_due c.self.inside.paces.items c.args.now c.self.inside.dues.entries))
