use Rattle.live_world.proofs.Firings.{fire_can, fired_by}
use Rattle.live_world.proofs.LiveWorld.fire.Goals as goal

pub fire-self-inside-requires-clause-can : goal.fire-self-inside-requires-clause-can
fire-self-inside-requires-clause-can c = fire_can c.self.inside c.args.self.now c.args.trigger c.args._first c.args.count c.self.view_is c.self.invariant c.requires.allowed

pub invariant_of-self : goal.invariant_of-self
invariant_of-self c =
    (fired_by c.self.inside c.args.self.now c.args.trigger c.args._first c.args.count c.self.view_is c.self.invariant c.requires.allowed
    c.fire-self-inside.new.sources c.fire-self-inside.new.callbacks c.fire-self-inside.result c.fire-self-inside.ensures).keeps

pub returns : goal.returns
returns c =
    (fired_by c.self.inside c.args.self.now c.args.trigger c.args._first c.args.count c.self.view_is c.self.invariant c.requires.allowed
    c.fire-self-inside.new.sources c.fire-self-inside.new.callbacks c.fire-self-inside.result c.fire-self-inside.ensures).becomes
