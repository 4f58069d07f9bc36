use Rattle.tp_run.proofs.Scripted.{explore_reply, explore_unread}
use Rattle.tp_run.proofs.replies.explore_text.Goals as goal

pub returns-in_err-script : goal.returns-in_err-script
returns-in_err-script g c =
    explore_unread c.args.bytes.now c.args.workers c.args.states c.args.each c.from_residual.result c.in_err-script.field-0.0 c.from_residual.ensures.1 c.in_err-script.ensures.err c.in_err-script.ensures.only

pub returns : goal.returns
returns g c =
    explore_reply c.args.bytes.now c.args.workers c.args.states c.args.each c.in_ok-output.output (c.in_ok-script.script, c.in_ok-script.ensures.parsed, c.in_ok-output.ensures)
