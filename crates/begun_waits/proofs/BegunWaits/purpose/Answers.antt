use Rattle.std.proofs.Common.{ap, option_map, sym, ◌∙◌}
use Rattle.begun_waits.specs.Kept.{purpose_of}
use Rattle.begun_waits.proofs.Keeping.{strange}
use Rattle.begun_waits.proofs.BegunWaits.purpose.Goals as goal

pub returns-in_err-place : goal.returns-in_err-place
returns-in_err-place g c =
    let i = c.self.inside in
    rw (← c.self.view_is) (c.from_residual.ensures ∙ ap (option_map purpose_of) (sym (strange i.limits i.purposes.items i.notices i.list.waits i.waiting c.self.invariant c.args.who (sym c.place_of.ensures ∙ c.in_err-place.was))))
