use Rattle.std.proofs.Common.{◌∙◌}
use Rattle.tp_base.specs.Actors.{is_same_actor}
use Rattle.tp_model.specs.World.{BegunWait}
use Rattle.begun_waits.proofs.Actors.{some_found}
use Rattle.begun_waits.proofs.Keeping.{acts}
use Rattle.begun_waits.proofs.BegunWaits.place.Goals as goal

pub returns-clause-acts : goal.returns-clause-acts
returns-clause-acts g c =
    let i = c.self.inside in
    rw (← c.self.view_is, c.place_of.ensures) (λ waiting. acts i.limits i.purposes.items i.notices i.list.waits i.waiting c.self.invariant c.args.who (some_found (λ (b : BegunWait). is_same_actor b.actor c.args.who) i.list.waits ∙ waiting))
