use Rattle.std.proofs.Common.{arith, subst, take}
use Rattle.line_grammar.specs.Language.{IsRead}
use Rattle.line_grammar.specs.Words.{Word as OneWord}
use Rattle.tp_lines.specs.declared.words.Word.TheVariants.{CreatePool}
use Rattle.tp_lines.specs.Choices.{default_word}
use Rattle.tp_lines.specs.Shapes.{text_of_word}
use Rattle.tp_lines.proofs.Choices.{met_first, met_next}
use Rattle.tp_lines.proofs.parts.furthest_among.Goals as goal

pub loop-index-init : goal.loop-index-init
loop-index-init c =
    met_first c.args.field (default_word c.args.field) c.args.text.now c.read_bytes-best.result
    (subst (λ w. IsRead (OneWord w (text_of_word w)) c.args.text.now c.read_bytes-best.result) c.default_word-first.ensures
    (subst (λ t. IsRead (OneWord c.default_word-first.result t) c.args.text.now c.read_bytes-best.result) c.word_text.ensures c.read_bytes-best.ensures))

pub loop-index-preserved : goal.loop-index-preserved
loop-index-preserved c =
    met_next c.args.field (default_word c.args.field) c.args.words.now c.loop-index.index CreatePool (omega arith) c.args.text.now c.with_word-best.result
    (c.with_word-best.ensures (take c.loop-index.index c.args.words.now) c.loop-index.invariant)
