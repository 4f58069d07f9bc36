use Rattle.tp_run.proofs.Scripted.{script_end}
use Rattle.tp_run.proofs.replies.play_turns.Goals as goal

pub returns-in_err-script-clause-err : goal.returns-in_err-script-clause-err
returns-in_err-script-clause-err g c =
    script_end c.args.bytes.now c.in_err-script.field-0.0 c.from_residual.result c.from_residual.ensures.1 c.in_err-script.ensures.err c.in_err-script.ensures.only

pub returns-clause-ok : goal.returns-clause-ok
returns-clause-ok g c = (c.in_ok-script.script, c.in_ok-script.ensures.parsed, c.in_ok-output.ensures)
