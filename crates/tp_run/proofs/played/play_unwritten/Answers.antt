use Rattle.std.proofs.Common.{◌≡◌, [], None, refl, ap, subst, ◌∙◌}
use Rattle.recorded.specs.ProgramLimits.{program_limits}
use Rattle.tp_run.specs.Inputs.{short_layout}
use Rattle.tp_run.specs.Played.{limits_for, routines_of}
use Rattle.tp_run.proofs.Scripted.{never_waits, run_output}
use Rattle.tp_run.proofs.played.play_unwritten.Goals as goal
use Rattle.worker_gate.specs.Alone.{IsAlone}

pub play_routines_alone-requires-clause-calm : goal.play_routines_alone-requires-clause-calm
play_routines_alone-requires-clause-calm g c = never_waits c.args.script.now.lines c.requires.calm

pub returns : goal.returns
returns g c = λ text.
    let script = c.args.script.now in
    let run = c.in_ok-played.played in
    let told = c.in_ok-played.ensures in
    let made = c.short_output.ensures in
    let limits : c.program_limits-limits.result ≡ limits_for script.lines c.args.machine =
    c.program_limits-limits.ensures.value ∙ ap (λ n. program_limits n c.args.machine.workers) c.clients.ensures in
    run_output text script 1 None (short_layout c.args.json) [] [] run.book run.cut (limits_for script.lines c.args.machine) c.args.machine.events c.short_output.result
    (record {
      limits_are = told.limits ∙ limits;
      capacity_is = told.capacity;
      runs = told.runs;
      alone = λ _. subst (λ l. IsAlone (routines_of script.lines) l c.args.machine.events run.book.history) limits told.alone;
      cut_is = told.cut;
    })
    (λ written. refl) refl made.legal made.laws made.output
