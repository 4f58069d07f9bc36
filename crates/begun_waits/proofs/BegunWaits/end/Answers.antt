use Rattle.std.proofs.Common.{arith, sym, ◌∙◌}
use Rattle.begun_waits.proofs.Actors.{place_there}
use Rattle.begun_waits.proofs.Keeping.{kept_ended, kept_unended}
use Rattle.begun_waits.proofs.BegunWaits.end.Goals as goal

pub invariant_of-self : goal.invariant_of-self
invariant_of-self g c =
    let i = c.self.inside in
    rw c.end.ensures (kept_unended i.limits i.purposes.items i.notices i.list.waits i.waiting c.self.invariant c.args.who (sym c.place_of.ensures ∙ c.in_default.is))

pub clear-requires : goal.clear-requires
clear-requires g c = omega (arith, place_there c.self.inside.limits c.args.who c.in-Some.place (sym c.place_of.ensures ∙ c.in-Some.is), c.self.invariant.lists)

pub invariant_of-self-2 : goal.invariant_of-self-2
invariant_of-self-2 g c =
    let i = c.self.inside in
    rw (c.clear.ensures, c.end-2.ensures) (kept_ended i.limits i.purposes.items i.notices i.list.waits i.waiting c.self.invariant c.args.who c.in-Some.place (sym c.place_of.ensures ∙ c.in-Some.is) _ (rw c.deref.ensures.value at c.waiting_after-self-inside.ensures))
