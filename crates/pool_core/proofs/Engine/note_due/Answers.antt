use Rattle.std.proofs.Common.{sym, ap, ◌∙◌, subst}
use Rattle.live_world.specs.Live.{Live}
use Rattle.pool_core.specs.View.{remembered, IsMachine}
use Rattle.pool_core.proofs.Engine.note_due.Goals as goal

pub invariant_of-self : goal.invariant_of-self
invariant_of-self c = subst (λ (l : Live). IsMachine (record c.self.inside { live = l })) (sym c.note_due.ensures) c.self.invariant

pub returns : goal.returns
returns c = ap (λ (l : Live). remembered (record c.self.inside { live = l })) c.note_due.ensures ∙ c.self.view_is
