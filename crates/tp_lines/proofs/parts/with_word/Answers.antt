use Rattle.std.proofs.Common.{subst}
use Rattle.line_grammar.specs.Language.{IsRead}
use Rattle.line_grammar.specs.Words.{Word as OneWord}
use Rattle.tp_lines.specs.Choices.{default_word}
use Rattle.tp_lines.proofs.Choices.{met_more, met_other, never}
use Rattle.tp_lines.proofs.parts.with_word.Goals as goal

pub returns-then-stands_in : goal.returns-then-stands_in
returns-then-stands_in c = λ words read.
    met_more c.args.field (default_word c.args.field) words c.args.word (c.stands_in.ensures.0 c.if-stands_in.true) c.args.text.now c.args.best c.read_bytes.result c.further.result c.further.ensures read
    (subst (λ t. IsRead (OneWord c.args.word t) c.args.text.now c.read_bytes.result) c.word_text.ensures c.read_bytes.ensures)

pub returns-else-stands_in : goal.returns-else-stands_in
returns-else-stands_in c = λ words read. met_other c.args.field (default_word c.args.field) words c.args.word (λ e. never (c.if-stands_in.ensures.1 e)) c.args.text.now c.args.best read
