use Rattle.std.proofs.Common.{◌^◌}
use Rattle.tp_model.specs.Sources.{job}
use Rattle.sources.specs.Firing.{rest_of}
use Rattle.live_world.proofs.Fired.{can_first, firing_first, firing_next, firing_over, young_first}
use Rattle.live_world.proofs.firing.fire_all.Goals as goal

pub loop-object-init : goal.loop-object-init
loop-object-init c = firing_first (rest_of c.args.cause c.args.sources.now.sources) c.args.objects.now.objects c.args.made c.args.sources.now c.args.callbacks.now

pub make-made-requires-clause-can : goal.make-made-requires-clause-can
make-made-requires-clause-can c =
    can_first c.loop-object.invariant (job c.in-Some.object c.in-Some.told) (rest_of c.args.cause c.fire_next.new.self.sources) c.in-Some.ensures.rest c.requires.can

pub make-made-requires-clause-young : goal.make-made-requires-clause-young
make-made-requires-clause-young c =
    young_first c.loop-object.invariant (job c.in-Some.object c.in-Some.told) (rest_of c.args.cause c.fire_next.new.self.sources) (2 ^ 63) c.in-Some.ensures.rest c.requires.young

pub loop-object-preserved : goal.loop-object-preserved
loop-object-preserved c =
    firing_next c.loop-object.invariant (job c.in-Some.object c.in-Some.told) (rest_of c.args.cause c.fire_next.new.self.sources) c.make-made.result c.fire_next.new.self c.make-made.new.callbacks
    c.in-Some.ensures.rest c.in-Some.ensures.others c.make-made.ensures.after c.make-made.ensures.number

pub returns : goal.returns
returns c = firing_over c.loop-object.invariant c.fire_next.new.self c.in_default.ensures.rest c.in_default.ensures.idle
