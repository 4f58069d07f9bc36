use Rattle.std.proofs.Common.{sym, ap, ◌∙◌, subst}
use Rattle.sources.specs.Rows.{SourceRows}
use Rattle.live_world.specs.View.{shown, IsLiveWorld}
use Rattle.live_world.proofs.LiveWorld.note_due.Goals as goal

pub invariant_of-self : goal.invariant_of-self
invariant_of-self c = subst (λ (t : SourceRows). IsLiveWorld (record c.self.inside { sources = t })) (sym c.note_due.ensures) c.self.invariant

pub returns : goal.returns
returns c = ap (λ (t : SourceRows). shown (record c.self.inside { sources = t })) c.note_due.ensures ∙ c.self.view_is
