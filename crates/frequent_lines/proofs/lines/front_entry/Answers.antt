use Rattle.frequent_lines.proofs.Facts.{entry_front, line_front}
use Rattle.frequent_lines.proofs.lines.front_entry.Goals as goal

pub returns : goal.returns
returns c =
    let line = line_front c.args.text.now c.in_ok-who.start.now c.in_ok-arrow.arrow.now c.in_ok-who.who c.front_call.new.call c.in_ok-who.ensures c.in_ok-arrow.ensures in
    entry_front c.args.text.now c.in_ok-who.who c.front_call.new.call c.in_ok-arrow.arrow.now c.in_ok-answer.answer.now line c.in_ok-answer.ensures c.front_answer.new.answer c.in_ok-rest.rest.now c.in_ok-rest.ensures
