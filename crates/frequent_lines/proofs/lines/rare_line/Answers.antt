use Rattle.frequent_lines.proofs.Facts.{line_front}
use Rattle.frequent_lines.proofs.lines.rare_line.Goals as goal

pub returns : goal.returns
returns c =
    line_front c.args.text.now c.in_ok-who.start.now c.in_ok-rest.rest.now c.in_ok-who.who c.other_call.new.call c.in_ok-who.ensures c.in_ok-rest.ensures
