use Rattle.std.proofs.Common.{arith}
use Rattle.line_grammar.proofs.WordFacts.{solid_next}
use Rattle.line_grammar.proofs.words.word_size.Goals as goal

pub loop-place-preserved : goal.loop-place-preserved
loop-place-preserved c = solid_next c.args.text.now c.loop-place.place (omega arith) c.loop-place.invariant (omega arith)
