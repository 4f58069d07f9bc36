use Rattle.live_world.proofs.NewRow.{may_come}
use Rattle.live_world.proofs.CallbackMoves.{queued_by}
use Rattle.live_world.proofs.LiveWorld.queue_callback.Goals as goal

pub push-requires : goal.push-requires
push-requires c =
    let a = c.requires.allowed in
    let may = may_come c.self.inside c.args.self.now c.args.callback c.self.view_is c.self.invariant (record { number = a.number; home = a.home; object = a.object; room = a.room }) in
    record { room = may.room; pool = may.pool; object = may.object; last = may.last }

pub invariant_of-self : goal.invariant_of-self
invariant_of-self c = (queued_by c.self.inside c.args.self.now c.args.callback c.push.new.self c.self.view_is c.self.invariant c.requires.allowed c.push.ensures).keeps

pub returns : goal.returns
returns c = (queued_by c.self.inside c.args.self.now c.args.callback c.push.new.self c.self.view_is c.self.invariant c.requires.allowed c.push.ensures).becomes
