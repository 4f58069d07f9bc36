use Rattle.std.proofs.Common.{refl, sym, ◌∙◌}
use Rattle.begun_waits.proofs.Keeping.{kept_begun}
use Rattle.begun_waits.proofs.BegunWaits.start.Goals as goal

pub invariant_of-self : goal.invariant_of-self
invariant_of-self g c =
    let i = c.self.inside in
    let idle = rw (← c.self.view_is) at c.requires.idle in
    rw c.begin.ensures (kept_begun i.limits i.purposes.items i.notices i.list.waits i.waiting c.self.invariant _ c.unwrap-place.result (sym c.place_of.ensures ∙ c.unwrap-place.ensures) idle refl _ (rw c.deref.ensures.value at c.waiting_after-self-inside.ensures))
