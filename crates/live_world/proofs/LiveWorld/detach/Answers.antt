use Rattle.live_world.proofs.Moving.{detached, idles_here}
use Rattle.live_world.proofs.LiveWorld.detach.Goals as goal

pub detach-requires : goal.detach-requires
detach-requires c = idles_here c.self.inside c.args.self.now c.args.by c.self.view_is c.requires.idles

pub invariant_of-self : goal.invariant_of-self
invariant_of-self c = (detached c.self.inside c.args.self.now c.args.by c.detach.new.self c.self.view_is c.self.invariant c.requires c.detach.ensures).keeps

pub returns : goal.returns
returns c = (detached c.self.inside c.args.self.now c.args.by c.detach.new.self c.self.view_is c.self.invariant c.requires c.detach.ensures).becomes
