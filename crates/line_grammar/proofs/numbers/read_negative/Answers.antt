use Rattle.line_grammar.proofs.NumberFacts.{negative_stuck}
use Rattle.line_grammar.proofs.numbers.read_negative.Goals as goal

pub returns-in-Err : goal.returns-in-Err
returns-in-Err c = negative_stuck c.args.text.now c.in-Err.place c.in-Err.ensures
