use Rattle.std.proofs.Common.{}
use Rattle.live_world.proofs.Making.{kernel_moved}
use Rattle.live_world.proofs.LiveWorld.change_kernel.Goals as goal

pub invariant_of-self : goal.invariant_of-self
invariant_of-self c = (kernel_moved c.self.inside c.args.self.now c.args.kernel c.args.how c.change.new.self c.self.view_is c.self.invariant c.requires.allowed c.change.ensures).keeps
