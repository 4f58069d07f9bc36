use Rattle.std.proofs.Common.{None}
use Rattle.tp_run.proofs.Scripted.{several_unplayed}
use Rattle.tp_run.proofs.replies.reply_on_several.Goals as goal

pub returns-in_err-script : goal.returns-in_err-script
returns-in_err-script g c =
    several_unplayed c.args.bytes.now c.args.several.threads None c.args.several.machine c.args.several.json c.from_residual.result c.in_err-script.field-0.0 c.from_residual.ensures.1 c.in_err-script.ensures.err c.in_err-script.ensures.only
