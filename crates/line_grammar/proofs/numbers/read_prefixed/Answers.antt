use Rattle.std.specs.Prelude.{decimal}
use Rattle.line_grammar.specs.Numbers.{Numbers}
use Rattle.line_grammar.proofs.Readings.{led_none}
use Rattle.line_grammar.proofs.NumberFacts.{some_number}
use Rattle.line_grammar.proofs.numbers.read_prefixed.Goals as goal

pub returns-in_default : goal.returns-in_default
returns-in_default c =
    led_none c.args.letter (Numbers c.args.least c.args.most) c.args.text.now (decimal c.args.least) (some_number c.args.least c.args.most c.requires.least_most) c.in_default.ensures
