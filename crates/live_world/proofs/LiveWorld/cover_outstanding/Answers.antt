use Rattle.std.proofs.Common.{◌+◌, ◌&&◌, Some, None, true, refl, sym, subst, ap, arith, ◌∙◌}
use Rattle.tp_base.specs.declared.plans.Awaited.TheVariants as awaited
use Rattle.tp_base.specs.declared.rows.WaitTarget.TheVariants.{Object}
use Rattle.tp_model.specs.Changes.{begin_wait, new_wait}
use Rattle.tp_model.specs.Waits.{covered_of}
use Rattle.tp_model.specs.Support.Allowed.{MayBegin}
use Rattle.begun_waits.specs.Covers.{listed_of, with_cover}
use Rattle.live_world.specs.Live.{Live, with_world}
use Rattle.begun_waits.proofs.Actors.{place_there}
use Rattle.live_world.proofs.Covered.{actor_somewhere, placed}
use Rattle.live_world.proofs.Beginnings.{begun_by, covers_given, covers_listed}
use Rattle.live_world.proofs.Moving.{Becomes}
use Rattle.live_world.proofs.LiveWorld.cover_outstanding.Goals as goal
use Rattle.live_world.proofs.LiveWorld.cover_outstanding.Goals.{After-cover_up_to, After-list_running}

pub unwrap-waiter-requires : goal.unwrap-waiter-requires
unwrap-waiter-requires c =
    let a = subst (λ (x : Live). MayBegin x.world c.args.who (awaited.Object c.args.object)) (sym c.self.view_is) c.requires.allowed in
    rw c.place.ensures.value (actor_somewhere c.self.inside c.args.who c.self.invariant a.actor)

pub begin-requires : goal.begin-requires
begin-requires c =
    let a = subst (λ (x : Live). MayBegin x.world c.args.who (awaited.Object c.args.object)) (sym c.self.view_is) c.requires.allowed in
    record { actor = actor_somewhere c.self.inside c.args.who c.self.invariant a.actor; idle = a.none }

pub list_running-requires : goal.list_running-requires
list_running-requires c =
    let i = c.self.inside in
    let k = c.self.invariant in
    let at = placed c.args.who (Some c.unwrap-waiter.result) (sym c.place.ensures.value ∙ c.unwrap-waiter.ensures) k.covered in
    record {
      there = omega (arith, place_there i.limits c.args.who c.unwrap-waiter.result at, k.covered.bounds);
      lists = omega (arith, place_there i.limits c.args.who c.unwrap-waiter.result at, k.covered.lists);
      room = omega (arith, c.len-few.ensures.limited, k.alive.slot_limit, k.covered.room);
      rising = (i.made + 1, k.sound.numbers);
    }

pub cover_up_to-requires : goal.cover_up_to-requires
cover_up_to-requires c =
    let i = c.self.inside in
    let k = c.self.invariant in
    let at = placed c.args.who (Some c.unwrap-waiter.result) (sym c.place.ensures.value ∙ c.unwrap-waiter.ensures) k.covered in
    omega (arith, place_there i.limits c.args.who c.unwrap-waiter.result at, k.covered.bounds)

-- where it covers what runs
running : (c : After-list_running) → Becomes (record (c.self.inside) { covers = c.list_running.new.covers; waits = c.begin.new.self }) (with_world c.args.self.now (begin_wait c.args.self.now.world c.args.who (Object c.args.object) c.args.cancel c.args.self.now.world.callbacks))
running c =
    let i = c.self.inside in
    let rows = i.callbacks.rows in
    begun_by i c.args.self.now c.args.who c.args.object c.args.cancel c.unwrap-waiter.result None (covered_of (Object c.args.object) c.args.cancel rows) c.list_running.new.covers c.begin.new.self c.self.view_is c.self.invariant c.requires.allowed c.requires.settled
    (sym c.place.ensures.value ∙ c.unwrap-waiter.ensures)
    (covers_listed i.made rows c.self.invariant.sound.numbers (new_wait c.args.who (Object c.args.object) c.args.cancel rows) c.args.cancel refl)
    (c.list_running.ensures ∙ ap (λ b. with_cover i.covers c.unwrap-waiter.result None (covered_of (Object c.args.object) b rows)) (sym c.if-cancel.true)) c.begin.ensures

-- and where it covers all
all : (c : After-cover_up_to) → Becomes (record (c.self.inside) { covers = c.cover_up_to.new.self; waits = c.begin.new.self }) (with_world c.args.self.now (begin_wait c.args.self.now.world c.args.who (Object c.args.object) c.args.cancel c.args.self.now.world.callbacks))
all c =
    let i = c.self.inside in
    let rows = i.callbacks.rows in
    let listed = listed_of i.covers c.unwrap-waiter.result in
    begun_by i c.args.self.now c.args.who c.args.object c.args.cancel c.unwrap-waiter.result (Some i.made) listed c.cover_up_to.new.self c.begin.new.self c.self.view_is c.self.invariant c.requires.allowed c.requires.settled
    (sym c.place.ensures.value ∙ c.unwrap-waiter.ensures)
    (covers_given i.made rows c.self.invariant.sound.numbers (new_wait c.args.who (Object c.args.object) c.args.cancel rows) c.args.cancel refl listed (ap (λ b. b && true) c.if-cancel.false))
    c.cover_up_to.ensures c.begin.ensures

pub invariant_of-self : goal.invariant_of-self
invariant_of-self c = (running (goal.at.invariant_of-self c).After-list_running).keeps

pub returns-then-cancel : goal.returns-then-cancel
returns-then-cancel c = (running (goal.at.returns-then-cancel c).After-list_running).becomes

pub invariant_of-self-else-cancel : goal.invariant_of-self-else-cancel
invariant_of-self-else-cancel c = (all (goal.at.invariant_of-self-else-cancel c).After-cover_up_to).keeps

pub returns-else-cancel : goal.returns-else-cancel
returns-else-cancel c = (all (goal.at.returns-else-cancel c).After-cover_up_to).becomes
