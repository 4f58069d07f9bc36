use Rattle.line_grammar.proofs.TraceFacts.{front_ahead}
use Rattle.tp_lines.specs.Calls.{CallLines}
use Rattle.frequent_lines.proofs.read_rare_call.Goals as goal

pub returns : goal.returns
returns c = front_ahead CallLines c.args.text.now c.rare_line.new.made c.in_ok-rest.rest.now c.in_ok-more.more.now c.in_ok-rest.ensures c.in_ok-more.ensures
