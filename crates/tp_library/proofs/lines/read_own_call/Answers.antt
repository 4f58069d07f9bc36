use Rattle.tp_library.proofs.LineFacts.{own_none, own_text_read, own_text_stuck}
use Rattle.tp_library.proofs.lines.read_own_call.Goals as goal

pub returns-in_default : goal.returns-in_default
returns-in_default c = own_none c.args.text.now c.in_default.ensures

pub returns-in-Ok : goal.returns-in-Ok
returns-in-Ok c = own_text_read c.args.text.now c.in-Some.rest.now c.in-Some.ensures c.in-Ok.made c.in-Ok.size c.in-Ok.ensures

pub returns-in-Err : goal.returns-in-Err
returns-in-Err c = own_text_stuck c.args.text.now c.in-Some.rest.now c.in-Some.ensures c.in-Err.place c.in-Err.ensures
