use Rattle.std.proofs.Common.{arith}
use Rattle.renamed_worlds.specs.Closed.{place_of}
use Rattle.renamed_worlds.specs.Renamed.{renamed_worker}
use Rattle.plain_worlds.proofs.InPlace.{all_written}
use Rattle.plain_worlds.proofs.closing.close_workers.Goals as goal

pub returns : goal.returns
returns c = all_written (renamed_worker (place_of c.args.callbacks.now)) c.loop-index.workers.items _ c.loop-index.index (omega (arith, c.loop-index.invariant.0, c.loop-index-test.false, c.len-index-end.ensures)) c.loop-index.invariant.1
