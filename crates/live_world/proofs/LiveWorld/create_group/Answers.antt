use Rattle.std.proofs.Common.{◌<◌, length, refl, sym, subst, arith}
use Rattle.tp_base.specs.declared.plans.Change.TheVariants as change
use Rattle.live_world.specs.Live.{Live}
use Rattle.live_world.proofs.Making.{groups_changed}
use Rattle.live_world.proofs.LiveWorld.create_group.Goals as goal

pub create_group-requires : goal.create_group-requires
create_group-requires c =
    let fewer = subst (λ (x : Live). length x.world.groups < x.world.limits.groups) (sym c.self.view_is) c.requires in
    omega (arith, fewer, c.self.invariant.sized.group_limit)

pub invariant_of-self : goal.invariant_of-self
invariant_of-self c = (groups_changed c.self.inside c.args.self.now change.CreateGroup _ c.create_group.new.self c.self.view_is c.self.invariant c.requires (omega arith) refl c.create_group.ensures).keeps

pub returns : goal.returns
returns c = (groups_changed c.self.inside c.args.self.now change.CreateGroup _ c.create_group.new.self c.self.view_is c.self.invariant c.requires (omega arith) refl c.create_group.ensures).becomes
