use Rattle.std.proofs.Common.{arith}
use Rattle.std.specs.Prelude.{if◌then◌else◌}
use Rattle.tp_base.specs.Actors.{is_same_actor}
use Rattle.tp_model.specs.World.{BegunWait}
use Rattle.tp_model.specs.Changes.{notified}
use Rattle.plain_worlds.proofs.InPlace.{all_written}
use Rattle.plain_worlds.proofs.waits.give_notice.Goals as goal

pub returns : goal.returns
returns c = all_written (λ (b : BegunWait). if is_same_actor b.actor c.args.who then notified b else b) c.loop-place.waits.items _ c.loop-place.place (omega (arith, c.loop-place.invariant.0, c.loop-place-test.false, c.len-place-end.ensures)) c.loop-place.invariant.1
