use Rattle.std.proofs.Common.{arith}
use Rattle.plain_worlds.specs.Closing.{closed_wait}
use Rattle.plain_worlds.proofs.InPlace.{all_written}
use Rattle.plain_worlds.proofs.closing.close_waits.Goals as goal

pub returns : goal.returns
returns c = all_written (closed_wait c.args.callbacks.now) c.loop-index.waits.items _ c.loop-index.index (omega (arith, c.loop-index.invariant.0, c.loop-index-test.false, c.len-index-end.ensures)) c.loop-index.invariant.1
