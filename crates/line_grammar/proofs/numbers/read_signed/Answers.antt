use Rattle.line_grammar.proofs.NumberFacts.{signed_read}
use Rattle.line_grammar.proofs.numbers.read_signed.Goals as goal

pub returns : goal.returns
returns c = signed_read c.args.text.now c.read_not_negative.result c.read_negative.result c.further.result c.further.ensures c.read_not_negative.ensures c.read_negative.ensures
