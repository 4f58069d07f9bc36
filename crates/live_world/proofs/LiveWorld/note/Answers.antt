use Rattle.std.proofs.Common.{sym, subst, arith, ap, ◌∙◌}
use Rattle.tp_base.specs.Actors.{is_same_actor}
use Rattle.begun_waits.proofs.Actors.{some_found}
use Rattle.tp_model.specs.World.{BegunWait}
use Rattle.tp_model.specs.Groups.{is_object_that}
use Rattle.tp_model.specs.Support.Sound.{is_told}
use Rattle.tp_model.proofs.Releasing.{that_made}
use Rattle.live_world.specs.Closing.{MayNote}
use Rattle.live_world.specs.Live.{Live}
use Rattle.live_world.specs.View.{shown}
use Rattle.live_world.proofs.BeginCloseWait.{noted_by}
use Rattle.live_world.proofs.LiveWorld.note.Goals as goal

pub note-requires-clause-begun : goal.note-requires-clause-begun
note-requires-clause-begun c =
    some_found (λ (b : BegunWait). is_same_actor b.actor c.args.who) c.self.inside.waits.waits ∙ (subst (λ (x : Live). MayNote x.world c.args.who) (sym c.self.view_is) c.requires.may).begun

pub note-requires-clause-most : goal.note-requires-clause-most
note-requires-clause-most c =
    let i = c.self.inside in
    let told = ap (λ (x : Live). is_object_that is_told x.world.objects c.args.object.0) c.self.view_is ∙ c.requires.told in
    omega (arith, (that_made is_told (shown i).world.objects c.args.object.0 told).1, c.self.invariant.sized.objects_within, ap (λ ls. ls.objects) c.self.invariant.covered.wait_limits)

pub note-requires-clause-free : goal.note-requires-clause-free
note-requires-clause-free c = rw (← c.self.view_is) at c.requires.free

pub invariant_of-self : goal.invariant_of-self
invariant_of-self c = (noted_by c.self.inside c.args.self.now c.args.who c.args.object c.note.new.self c.self.view_is c.self.invariant c.requires.may c.requires.told c.note.ensures).keeps

pub returns : goal.returns
returns c = (noted_by c.self.inside c.args.self.now c.args.who c.args.object c.note.new.self c.self.view_is c.self.invariant c.requires.may c.requires.told c.note.ensures).becomes
