use Rattle.std.proofs.Common.{is_some, ap, ◌∙◌}
use Rattle.tp_model.specs.Counts.{numbered}
use Rattle.live_world.specs.Live.{Live}
use Rattle.live_world.proofs.Making.{released}
use Rattle.live_world.proofs.LiveWorld.release_object.Goals as goal

pub release-requires : goal.release-requires
release-requires c = record { made = ap (λ (l : Live). is_some (numbered l.world.objects c.args.object.0)) c.self.view_is ∙ ap is_some c.requires.stands }

pub invariant_of-self : goal.invariant_of-self
invariant_of-self c = (released c.self.inside c.args.self.now c.args.object c.release.new.self c.strike.new.self c.self.view_is c.self.invariant c.requires c.release.ensures c.strike.ensures).keeps

pub returns : goal.returns
returns c = (released c.self.inside c.args.self.now c.args.object c.release.new.self c.strike.new.self c.self.view_is c.self.invariant c.requires c.release.ensures c.strike.ensures).becomes
