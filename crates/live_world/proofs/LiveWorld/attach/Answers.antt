use Rattle.live_world.proofs.Moving.{attached, away_here}
use Rattle.live_world.proofs.LiveWorld.attach.Goals as goal

pub attach-requires-clause-free : goal.attach-requires-clause-free
attach-requires-clause-free c = away_here c.self.inside c.args.self.now c.args.worker c.args.pool c.self.view_is c.requires

pub invariant_of-self : goal.invariant_of-self
invariant_of-self c = (attached c.self.inside c.args.self.now c.args.worker c.args.pool c.attach.new.self c.self.view_is c.self.invariant c.requires c.attach.ensures).keeps

pub returns : goal.returns
returns c = (attached c.self.inside c.args.self.now c.args.worker c.args.pool c.attach.new.self c.self.view_is c.self.invariant c.requires c.attach.ensures).becomes
