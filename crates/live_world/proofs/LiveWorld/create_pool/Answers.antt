use Rattle.std.proofs.Common.{}
use Rattle.live_world.proofs.PoolsMade.{pool_made}
use Rattle.live_world.proofs.LiveWorld.create_pool.Goals as goal

pub invariant_of-self : goal.invariant_of-self
invariant_of-self c = (pool_made c.self.inside c.args.self.now c.create.new.self c.self.view_is c.self.invariant c.requires c.in-Ok.ensures.made).keeps

pub returns : goal.returns
returns c = (pool_made c.self.inside c.args.self.now c.create.new.self c.self.view_is c.self.invariant c.requires c.in-Ok.ensures.made).becomes
