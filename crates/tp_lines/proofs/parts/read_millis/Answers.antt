use Rattle.std.proofs.Common.{ap, codes, ◌∙◌}
use Rattle.line_grammar.specs.Numbers.{Numbers}
use Rattle.line_grammar.specs.Words.{further_of}
use Rattle.line_grammar.proofs.WordFacts.{optional_read}
use Rattle.tp_lines.proofs.parts.read_millis.Goals as goal

pub returns : goal.returns
returns c =
    optional_read (codes "none") (Numbers 0 4294967295) c.args.text.now c.read_small.result c.read_bytes-none.result c.further.result
    (c.further.ensures ∙ ap (λ r. further_of r c.read_bytes-none.result) c.something.ensures) c.read_small.ensures c.read_bytes-none.ensures
