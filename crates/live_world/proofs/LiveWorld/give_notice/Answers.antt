use Rattle.live_world.proofs.BeginCloseWait.{given_by}
use Rattle.live_world.proofs.LiveWorld.give_notice.Goals as goal

pub invariant_of-self : goal.invariant_of-self
invariant_of-self c = (given_by c.self.inside c.args.self.now c.args.who c.give_notice.new.self c.self.view_is c.self.invariant c.requires c.give_notice.ensures).keeps

pub returns : goal.returns
returns c = (given_by c.self.inside c.args.self.now c.args.who c.give_notice.new.self c.self.view_is c.self.invariant c.requires c.give_notice.ensures).becomes
