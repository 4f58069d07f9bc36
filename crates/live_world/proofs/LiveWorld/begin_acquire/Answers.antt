use Rattle.std.proofs.Common.{Some, sym, subst, arith, ◌∙◌}
use Rattle.tp_base.specs.declared.plans.Awaited.TheVariants as awaited
use Rattle.tp_model.specs.Support.Allowed.{MayBegin}
use Rattle.live_world.specs.Live.{Live}
use Rattle.begun_waits.proofs.Actors.{place_there}
use Rattle.live_world.proofs.Covered.{actor_somewhere, placed}
use Rattle.live_world.proofs.Beginnings.{acquires}
use Rattle.live_world.proofs.LiveWorld.begin_acquire.Goals as goal

pub unwrap-waiter-requires : goal.unwrap-waiter-requires
unwrap-waiter-requires c =
    let a = subst (λ (x : Live). MayBegin x.world c.args.who (awaited.Kernel c.args.kernel)) (sym c.self.view_is) c.requires in
    rw c.place.ensures.value (actor_somewhere c.self.inside c.args.who c.self.invariant a.actor)

pub begin-requires : goal.begin-requires
begin-requires c =
    let a = subst (λ (x : Live). MayBegin x.world c.args.who (awaited.Kernel c.args.kernel)) (sym c.self.view_is) c.requires in
    record { actor = actor_somewhere c.self.inside c.args.who c.self.invariant a.actor; idle = a.none }

pub cover_up_to-requires : goal.cover_up_to-requires
cover_up_to-requires c =
    let i = c.self.inside in
    let k = c.self.invariant in
    let at = placed c.args.who (Some c.unwrap-waiter.result) (sym c.place.ensures.value ∙ c.unwrap-waiter.ensures) k.covered in
    omega (arith, place_there i.limits c.args.who c.unwrap-waiter.result at, k.covered.bounds)

pub invariant_of-self : goal.invariant_of-self
invariant_of-self c =
    (acquires c.self.inside c.args.self.now c.args.who c.args.kernel c.args.cancel c.unwrap-waiter.result c.cover_up_to.new.self c.begin.new.self c.self.view_is c.self.invariant c.requires
    (sym c.place.ensures.value ∙ c.unwrap-waiter.ensures) c.cover_up_to.ensures c.begin.ensures).keeps

pub returns : goal.returns
returns c =
    (acquires c.self.inside c.args.self.now c.args.who c.args.kernel c.args.cancel c.unwrap-waiter.result c.cover_up_to.new.self c.begin.new.self c.self.view_is c.self.invariant c.requires
    (sym c.place.ensures.value ∙ c.unwrap-waiter.ensures) c.cover_up_to.ensures c.begin.ensures).becomes
