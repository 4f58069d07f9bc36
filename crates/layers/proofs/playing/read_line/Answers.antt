use Rattle.line_grammar.proofs.EndedFacts.{ended_open, ended_read, ended_stuck}
use Rattle.layers.proofs.playing.read_line.Goals as goal

pub returns-in-Err : goal.returns-in-Err
returns-in-Err g c = ended_stuck g.L.Layer.lines c.requires c.args.text.now c.in-Err.place c.in-Err.ensures

pub returns-in-Some : goal.returns-in-Some
returns-in-Some g c = ended_read g.L.Layer.lines c.requires c.args.text.now _ _ c.in-Ok.ensures c.split_at.result.1.now c.in-Some.field-0.now c.split_at.ensures.back c.in-Some.ensures

pub returns-in-None : goal.returns-in-None
returns-in-None g c = ended_open g.L.Layer.lines c.requires c.args.text.now _ _ c.in-Ok.ensures c.split_at.result.1.now c.split_at.ensures.back c.in-None.ensures
