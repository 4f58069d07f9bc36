use Rattle.std.proofs.Common.{length, Some, sym, subst, arith, ◌∙◌}
use Rattle.tp_model.specs.Groups.{notices_of}
use Rattle.tp_model.specs.Support.Allowed.{MayClose}
use Rattle.live_world.specs.Closing.{MayNote}
use Rattle.live_world.specs.Live.{Live}
use Rattle.begun_waits.proofs.Actors.{place_there}
use Rattle.live_world.proofs.Covered.{actor_somewhere, placed}
use Rattle.live_world.proofs.BeginCloseWait.{closes_by, closes_may}
use Rattle.live_world.proofs.LiveWorld.begin_close_wait.Goals as goal

pub unwrap-waiter-requires : goal.unwrap-waiter-requires
unwrap-waiter-requires c =
    let a = subst (λ (x : Live). MayClose x.world c.args.who c.args.group c.args.cancel (length (notices_of x.world c.args.group.0 c.args.cancel))) (sym c.self.view_is) c.requires.allowed in
    rw c.place.ensures.value (actor_somewhere c.self.inside c.args.who c.self.invariant a.actor)

pub cover_up_to-requires : goal.cover_up_to-requires
cover_up_to-requires c =
    let i = c.self.inside in
    let k = c.self.invariant in
    let at = placed c.args.who (Some c.unwrap-waiter.result) (sym c.place.ensures.value ∙ c.unwrap-waiter.ensures) k.covered in
    omega (arith, place_there i.limits c.args.who c.unwrap-waiter.result at, k.covered.bounds)

pub begin_close-requires : goal.begin_close-requires
begin_close-requires c =
    let a = subst (λ (x : Live). MayClose x.world c.args.who c.args.group c.args.cancel (length (notices_of x.world c.args.group.0 c.args.cancel))) (sym c.self.view_is) c.requires.allowed in
    record { actor = actor_somewhere c.self.inside c.args.who c.self.invariant a.actor; idle = a.none }

pub invariant_of-self : goal.invariant_of-self
invariant_of-self c =
    (closes_by c.self.inside c.args.self.now c.args.who c.args.group c.args.cancel c.args.context _ c.unwrap-waiter.result c.cover_up_to.new.self c.begin_close.new.self c.self.view_is c.self.invariant c.requires.allowed c.requires.settled
    (sym c.place.ensures.value ∙ c.unwrap-waiter.ensures) c.cover_up_to.ensures c.begin_close.ensures).keeps

pub returns-clause-begun : goal.returns-clause-begun
returns-clause-begun c =
    (closes_by c.self.inside c.args.self.now c.args.who c.args.group c.args.cancel c.args.context _ c.unwrap-waiter.result c.cover_up_to.new.self c.begin_close.new.self c.self.view_is c.self.invariant c.requires.allowed c.requires.settled
    (sym c.place.ensures.value ∙ c.unwrap-waiter.ensures) c.cover_up_to.ensures c.begin_close.ensures).becomes

pub returns-clause-may : goal.returns-clause-may
returns-clause-may c = λ cancels.
    subst (λ (x : Live). MayNote x.world c.args.who)
    (sym (closes_by c.self.inside c.args.self.now c.args.who c.args.group c.args.cancel c.args.context _ c.unwrap-waiter.result c.cover_up_to.new.self c.begin_close.new.self c.self.view_is c.self.invariant c.requires.allowed c.requires.settled
    (sym c.place.ensures.value ∙ c.unwrap-waiter.ensures) c.cover_up_to.ensures c.begin_close.ensures).becomes)
    (closes_may c.self.inside c.args.self.now c.args.who c.args.group c.args.cancel c.args.context _ c.self.view_is c.self.invariant c.requires.allowed c.requires.settled cancels)
