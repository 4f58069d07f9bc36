use Rattle.std.proofs.Common.{ap, sym, subst, ◌∙◌}
use Rattle.line_grammar.specs.Language.{IsRead}
use Rattle.line_grammar.specs.Words.{further_of}
use Rattle.tp_library.specs.Lines.{Suffixes}
use Rattle.tp_library.proofs.LineFacts.{suffix_read}
use Rattle.tp_library.proofs.lines.read_suffix.Goals as goal

pub returns-then-may_have : goal.returns-then-may_have
returns-then-may_have c =
    subst (λ b. IsRead (Suffixes b) c.args.text.now c.further.result) (sym c.if-may_have.true)
    (suffix_read c.args.text.now c.read_library.result c.read_bytes-none.result c.further.result
    (c.further.ensures ∙ ap (λ r. further_of r c.read_bytes-none.result) c.something.ensures) c.read_library.ensures c.read_bytes-none.ensures)
