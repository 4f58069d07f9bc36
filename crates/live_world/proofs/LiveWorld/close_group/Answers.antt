use Rattle.std.proofs.Common.{refl, ap, arith, ◌∙◌}
use Rattle.tp_base.specs.declared.plans.Change.TheVariants as change
use Rattle.tp_model.specs.Groups.{is_group}
use Rattle.live_world.specs.Live.{Live}
use Rattle.live_world.proofs.Making.{groups_changed}
use Rattle.live_world.proofs.LiveWorld.close_group.Goals as goal

pub close_group-requires : goal.close_group-requires
close_group-requires c = ap (λ (x : Live). is_group x.world c.args.group.0) c.self.view_is ∙ c.requires

pub invariant_of-self : goal.invariant_of-self
invariant_of-self c = (groups_changed c.self.inside c.args.self.now (change.CloseGroup c.args.group) _ c.close_group.new.self c.self.view_is c.self.invariant c.requires (omega arith) refl c.close_group.ensures).keeps

pub returns : goal.returns
returns c = (groups_changed c.self.inside c.args.self.now (change.CloseGroup c.args.group) _ c.close_group.new.self c.self.view_is c.self.invariant c.requires (omega arith) refl c.close_group.ensures).becomes
