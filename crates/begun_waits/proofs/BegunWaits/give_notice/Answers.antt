use Rattle.std.proofs.Common.{arith, sym, ◌∙◌}
use Rattle.begun_waits.proofs.Actors.{place_there}
use Rattle.begun_waits.proofs.Keeping.{kept_given, kept_ungiven}
use Rattle.begun_waits.proofs.BegunWaits.give_notice.Goals as goal

pub invariant_of-self : goal.invariant_of-self
invariant_of-self g c =
    let i = c.self.inside in
    rw c.give_notice.ensures (kept_ungiven i.limits i.purposes.items i.notices i.list.waits i.waiting c.self.invariant c.args.who (sym c.place_of.ensures ∙ c.in_default.is))

pub take_first-requires : goal.take_first-requires
take_first-requires g c = omega (arith, place_there c.self.inside.limits c.args.who c.in-Some.place (sym c.place_of.ensures ∙ c.in-Some.is), c.self.invariant.lists)

pub invariant_of-self-2 : goal.invariant_of-self-2
invariant_of-self-2 g c =
    let i = c.self.inside in
    rw (c.take_first.ensures, c.give_notice-2.ensures) (kept_given i.limits i.purposes.items i.notices i.list.waits i.waiting c.self.invariant c.args.who c.in-Some.place (sym c.place_of.ensures ∙ c.in-Some.is))
