use Rattle.std.proofs.Common.{refl}
use Rattle.part_places.specs.Places.{given}
use Rattle.worker_gate.proofs.Acting.{asked_ready, done_ready, paused_ready}
use Rattle.worker_gate.proofs.actor.Actor.turn.Goals as goal

pub plays-requires-clause-ready : goal.plays-requires-clause-ready
plays-requires-clause-ready g c = let asked = c.in-No.ensures.asked in asked_ready (given g.R.Routines.next_of g.R.Routines.after_of c.args.routines.now) c.args.pool.now c.args.self.now c.asks.new.self c.requires.ready c.in-No.ensures.player c.in-No.ensures.role asked.0

pub returns-in-Yes-clause-ready : goal.returns-in-Yes-clause-ready
returns-in-Yes-clause-ready g c = let asked = c.in-Yes.ensures.asked in done_ready (given g.R.Routines.next_of g.R.Routines.after_of c.args.routines.now) c.args.pool.now c.args.self.now c.asks.new.self _ c.requires.ready c.in-Yes.ensures.player c.in-Yes.ensures.role asked.0 asked.2 refl refl

pub returns-in-Busy-clause-ready : goal.returns-in-Busy-clause-ready
returns-in-Busy-clause-ready g c =
    let asked = c.in-Busy.ensures.asked in
    let known = given g.R.Routines.next_of g.R.Routines.after_of c.args.routines.now in
    let ready = asked_ready known c.args.pool.now c.args.self.now c.asks.new.self c.requires.ready c.in-Busy.ensures.player c.in-Busy.ensures.role asked.0 in
    paused_ready known c.args.pool.now c.asks.new.self c.pauses.new.self ready c.pauses.ensures.seat c.pauses.ensures.role
