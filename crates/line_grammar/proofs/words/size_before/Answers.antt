use Rattle.std.proofs.Common.{arith}
use Rattle.line_grammar.proofs.WordFacts.{lacks_next}
use Rattle.line_grammar.proofs.words.size_before.Goals as goal

pub loop-index-preserved : goal.loop-index-preserved
loop-index-preserved c = lacks_next c.args.separator c.args.text.now c.loop-index.index (omega arith) c.loop-index.invariant c.if-byte-separator.false
