use Rattle.line_grammar.proofs.TraceFacts.{front_ahead}
use Rattle.tp_lines.specs.Answers.{EntryLines}
use Rattle.frequent_lines.proofs.read_rare_entry.Goals as goal

pub returns : goal.returns
returns c = front_ahead EntryLines c.args.text.now c.rare_entry.new.entry c.in_ok-rest.rest.now c.in_ok-more.more.now c.in_ok-rest.ensures c.in_ok-more.ensures
