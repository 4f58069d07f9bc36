use Rattle.std.proofs.Common.{ap, arith, slice_get, sym, ◌∙◌}
use Rattle.begun_waits.specs.Begun.{notices_by}
use Rattle.begun_waits.proofs.Actors.{place_there}
use Rattle.begun_waits.proofs.Keeping.{strange}
use Rattle.begun_waits.proofs.BegunWaits.first_notice.Goals as goal

pub returns-in_err-place : goal.returns-in_err-place
returns-in_err-place g c =
    let i = c.self.inside in
    rw (← c.self.view_is) (c.from_residual.ensures ∙ ap (λ o. slice_get (notices_by o) 0) (sym (strange i.limits i.purposes.items i.notices i.list.waits i.waiting c.self.invariant c.args.who (sym c.place_of.ensures ∙ c.in_err-place.was))))

pub first-requires : goal.first-requires
first-requires g c = omega (arith, place_there c.self.inside.limits c.args.who c.in_ok-place.place (sym c.place_of.ensures ∙ c.in_ok-place.was), c.self.invariant.lists)

pub returns : goal.returns
returns g c = rw (← c.self.view_is) (c.first.ensures ∙ ap (λ os. slice_get os 0) (c.self.invariant.noticed c.args.who c.in_ok-place.place (sym c.place_of.ensures ∙ c.in_ok-place.was)))
