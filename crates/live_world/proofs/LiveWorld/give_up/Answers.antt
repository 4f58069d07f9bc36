use Rattle.live_world.proofs.Moving.{found_here}
use Rattle.live_world.proofs.Operations.{given_up_by}
use Rattle.live_world.proofs.LiveWorld.give_up.Goals as goal

pub remove-requires : goal.remove-requires
remove-requires c = found_here c.self.inside c.args.self.now c.args.callback c.self.view_is c.requires.found

pub invariant_of-self : goal.invariant_of-self
invariant_of-self c = (given_up_by c.self.inside c.args.self.now c.args.callback c.remove.new.self c.self.view_is c.self.invariant c.requires c.remove.ensures).keeps

pub returns : goal.returns
returns c = (given_up_by c.self.inside c.args.self.now c.args.callback c.remove.new.self c.self.view_is c.self.invariant c.requires c.remove.ensures).becomes
