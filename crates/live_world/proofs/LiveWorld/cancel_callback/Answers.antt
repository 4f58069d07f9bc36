use Rattle.live_world.proofs.CallbackMoves.{cancelled_by}
use Rattle.live_world.proofs.Moving.{found_here}
use Rattle.live_world.proofs.LiveWorld.cancel_callback.Goals as goal

pub remove-requires : goal.remove-requires
remove-requires c = found_here c.self.inside c.args.self.now c.args.callback c.self.view_is c.requires.found

pub invariant_of-self : goal.invariant_of-self
invariant_of-self c = (cancelled_by c.self.inside c.args.self.now c.args.callback c.remove.new.self c.self.view_is c.self.invariant c.requires.found c.requires.pending c.remove.ensures).keeps

pub returns : goal.returns
returns c = (cancelled_by c.self.inside c.args.self.now c.args.callback c.remove.new.self c.self.view_is c.self.invariant c.requires.found c.requires.pending c.remove.ensures).becomes
