use Rattle.worker_gate.proofs.Crowds.{taken_new}
use Rattle.worker_gate.proofs.run.open_pool.Goals as goal

pub returns-clause-new : goal.returns-clause-new
returns-clause-new g c =
    let o = c.in-Ok.ensures in
    taken_new c.in-Ok.opened.0 c.args.limits c.args.capacity c.in-Ok.opened.1.items c.in_ok-actors.actors.items o.setup o.dealt o.players c.in_ok-actors.ensures.seats c.in_ok-actors.ensures.new
