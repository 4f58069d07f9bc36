use Rattle.std.proofs.Common.{List, refl}
use Rattle.tp_model.specs.World.{BegunWait}
use Rattle.plain_worlds.proofs.Loops.{all_through}
use Rattle.plain_worlds.proofs.waits.copy_waits.Goals as goal

pub returns : goal.returns
returns c = all_through (λ (v : List BegunWait). v) c.args.waits.now c.loop-wait.copies.items c.args.waits.now c.loop-wait.wait-index refl c.loop-wait-test.false c.loop-wait.invariant
