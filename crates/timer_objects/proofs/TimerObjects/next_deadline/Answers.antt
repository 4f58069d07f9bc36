use Rattle.std.proofs.Common.{sym, ◌∙◌, rules}
use Rattle.tp_base.specs.Timers.{deadline}
use Rattle.timer_objects.specs.Kept.{setting_of}
use Rattle.timer_objects.proofs.Deadlines.{deadline_later, shown_deadline}
use Rattle.timer_objects.proofs.TimerObjects.next_deadline.Goals as goal

pub returns : goal.returns
returns c =
    let paces = c.self.inside.paces.items in
    rw (← c.self.view_is)
    (c.least_by.ensures (λ e. deadline (setting_of paces e)) (deadline_later paces) (λ key due answer small fits post. search rules)
    ∙ sym (shown_deadline paces c.self.inside.dues.entries))
