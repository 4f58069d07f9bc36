use Rattle.std.proofs.Common.{None, sym, ◌∙◌}
use Rattle.tp_run.specs.Played.{limits_for}
use Rattle.tp_run.proofs.Scripted.{told_played, whole_played}
use Rattle.tp_run.proofs.replies.play_script.Goals as goal

pub returns-in_ok-played : goal.returns-in_ok-played
returns-in_ok-played g c =
    let run = c.in_ok-played in
    let made = c.told_output.ensures in
    told_played c.args.bytes.now c.args.script.now c.args.several.threads None c.args.several.json run.played.book run.played.cut (limits_for c.args.script.now.lines c.args.several.machine) c.args.several.machine.events c.told_output.result
    (sym c.has_marks.ensures ∙ c.if-has_marks.true) run.ensures made.legal made.laws made.output

pub returns-in_ok-played-2 : goal.returns-in_ok-played-2
returns-in_ok-played-2 g c =
    let run = c.in_ok-played-2 in
    let made = c.whole_output.ensures in
    whole_played c.args.bytes.now c.args.script.now c.args.several.threads None c.args.several.json run.played.book run.played.cut (limits_for c.args.script.now.lines c.args.several.machine) c.args.several.machine.events c.whole_output.result
    (sym c.has_marks.ensures ∙ c.if-has_marks.false) run.ensures made.legal made.laws made.output
