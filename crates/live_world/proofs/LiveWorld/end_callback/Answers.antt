use Rattle.live_world.proofs.CallbackMoves.{ended_by}
use Rattle.live_world.proofs.Moving.{found_here, runs_here}
use Rattle.live_world.proofs.LiveWorld.end_callback.Goals as goal

pub remove-requires : goal.remove-requires
remove-requires c = found_here c.self.inside c.args.self.now c.args.by.callback c.self.view_is c.requires.found

pub give_back-requires : goal.give_back-requires
give_back-requires c = runs_here c.self.inside c.args.self.now c.args.by c.self.view_is c.requires

pub invariant_of-self : goal.invariant_of-self
invariant_of-self c = (ended_by c.self.inside c.args.self.now c.args.by c.give_back.new.self c.remove.new.self c.self.view_is c.self.invariant c.requires c.give_back.ensures c.remove.ensures).keeps

pub returns : goal.returns
returns c = (ended_by c.self.inside c.args.self.now c.args.by c.give_back.new.self c.remove.new.self c.self.view_is c.self.invariant c.requires c.give_back.ensures c.remove.ensures).becomes
