use Rattle.std.proofs.Common.{sym}
use Rattle.kernel_events.proofs.Shown.{shown_armed, shown_distinct, shown_least, shown_most}
use Rattle.kernel_events.proofs.armings.Armings.is_armed.Goals as goal

pub returns-clause-value : goal.returns-clause-value
returns-clause-value c = rw (c.owner.ensures.value, ← c.self.view_is) (sym (shown_armed _ _ _ _ c.self.invariant c.owner.ensures.owned c.args.object.0))

pub returns-clause-distinct : goal.returns-clause-distinct
returns-clause-distinct c = rw (← c.self.view_is) (shown_distinct _ _ _ _ c.self.invariant c.owner.ensures.owned)

pub returns-clause-least : goal.returns-clause-least
returns-clause-least c = rw (← c.self.view_is) (shown_least _ _ _ _ c.self.invariant c.owner.ensures.owned)

pub returns-clause-most : goal.returns-clause-most
returns-clause-most c = rw (← c.self.view_is) (shown_most _ _ _ _ c.self.invariant c.owner.ensures.owned)
