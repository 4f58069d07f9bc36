use Rattle.std.proofs.Common.{ap, codes, ◌∙◌}
use Rattle.line_grammar.specs.Numbers.{Signed}
use Rattle.line_grammar.specs.Words.{further_of}
use Rattle.line_grammar.proofs.WordFacts.{optional_read}
use Rattle.tp_lines.proofs.parts.read_due.Goals as goal

pub returns : goal.returns
returns c =
    optional_read (codes "none") Signed c.args.text.now c.read_signed.result c.read_bytes.result c.further.result
    (c.further.ensures ∙ ap (λ r. further_of r c.read_bytes.result) c.something.ensures) c.read_signed.ensures c.read_bytes.ensures
