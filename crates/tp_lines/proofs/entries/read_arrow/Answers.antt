use Rattle.tp_lines.proofs.EntryFacts.{arrow_dash, arrow_head, arrow_space, arrow_stuck}
use Rattle.tp_lines.proofs.entries.read_arrow.Goals as goal

pub returns-in_default : goal.returns-in_default
returns-in_default c = arrow_space c.args.text.now c.in_default.ensures

pub returns-in_default-behind : goal.returns-in_default-behind
returns-in_default-behind c = arrow_dash c.args.text.now c.in-Some.dash.now c.in-Some.ensures c.in_default-behind.ensures

pub returns-in_default-behind-2 : goal.returns-in_default-behind-2
returns-in_default-behind-2 c =
    arrow_head c.args.text.now c.in-Some.dash.now c.in-Some-behind.head.now c.in-Some.ensures c.in-Some-behind.ensures c.in_default-behind-2.ensures

pub returns-in-Err : goal.returns-in-Err
returns-in-Err c =
    arrow_stuck c.args.text.now c.in-Some.dash.now c.in-Some-behind.head.now c.in-Some-behind-2.rest.now c.in-Some.ensures c.in-Some-behind.ensures c.in-Some-behind-2.ensures
    c.in-Err.place c.in-Err.ensures
