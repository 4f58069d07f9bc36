use Rattle.frequent_lines.proofs.Facts.{client_front, worker_front}
use Rattle.frequent_lines.proofs.lines.front_who.Goals as goal

pub returns-in-Some : goal.returns-in-Some
returns-in-Some c =
    let d = c.in_ok-number.ensures in
    worker_front c.args.text.now c.in-Some.after.now c.in_ok-number.rest.now c.in-Some.ensures c.in_ok-number.number d.0 d.1 d.2

pub returns : goal.returns
returns c =
    let d = c.in_ok-number-2.ensures in
    client_front c.args.text.now c.in_ok-after.after.now c.in_ok-number-2.rest.now c.in_ok-after.ensures c.in_ok-number-2.number d.0 d.1 d.2
