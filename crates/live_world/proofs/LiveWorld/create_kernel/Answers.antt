use Rattle.std.proofs.Common.{}
use Rattle.live_world.proofs.Making.{kernel_made}
use Rattle.live_world.proofs.LiveWorld.create_kernel.Goals as goal

pub invariant_of-self : goal.invariant_of-self
invariant_of-self c = (kernel_made c.self.inside c.args.self.now c.args.state c.create_kernel.new.self c.self.view_is c.self.invariant c.requires c.create_kernel.ensures).keeps
