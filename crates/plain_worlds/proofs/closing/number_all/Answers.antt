use Rattle.std.proofs.Common.{◌∙◌, arith}
use Rattle.std.proofs.lemmas.List.{length-set}
use Rattle.plain_worlds.proofs.Closed.{all_numbered, one_numbered}
use Rattle.plain_worlds.proofs.closing.number_all.Goals as goal

pub loop-index-preserved : goal.loop-index-preserved
loop-index-preserved c = (
  length-set c.loop-index.callbacks.items c.loop-index.index _ ∙ c.loop-index.invariant.0,
  one_numbered c.loop-index.callbacks.items _ c.loop-index.index c.index_mut.result.now _ (omega (arith, c.loop-index.invariant.0, c.loop-index-test.true, c.len-index-end.ensures)) c.index_mut.ensures.value c.loop-index.invariant.1,
)

pub returns : goal.returns
returns c = all_numbered c.loop-index.callbacks.items _ c.loop-index.index (omega (arith, c.loop-index.invariant.0, c.loop-index-test.false, c.len-index-end.ensures)) c.loop-index.invariant.1
