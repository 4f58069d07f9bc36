use Rattle.std.proofs.Common.{ap, option_map, sym, ◌∙◌}
use Rattle.tp_model.specs.World.{BegunWait}
use Rattle.begun_waits.proofs.Keeping.{strange}
use Rattle.begun_waits.proofs.BegunWaits.begun.Goals as goal

pub returns-in_err-place-clause-target : goal.returns-in_err-place-clause-target
returns-in_err-place-clause-target g c =
    let i = c.self.inside in
    rw (← c.self.view_is, c.from_residual.ensures) (ap (option_map (λ (b : BegunWait). b.target)) (sym (strange i.limits i.purposes.items i.notices i.list.waits i.waiting c.self.invariant c.args.who (sym c.place_of.ensures ∙ c.in_err-place.was))))
