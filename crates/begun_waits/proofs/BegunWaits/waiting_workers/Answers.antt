use Rattle.begun_waits.proofs.Keeping.{working}
use Rattle.begun_waits.proofs.BegunWaits.waiting_workers.Goals as goal

pub returns : goal.returns
returns g c =
    let i = c.self.inside in
    rw (← c.self.view_is) (working i.limits i.purposes.items i.notices i.list.waits i.waiting c.self.invariant)
