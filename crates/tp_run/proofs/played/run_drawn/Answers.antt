use Rattle.std.proofs.Common.{◌≡◌, ap, subst, ◌∙◌}
use Rattle.recorded.specs.ProgramLimits.{program_limits}
use Rattle.tp_run.specs.Played.{limits_for, routines_of}
use Rattle.tp_run.proofs.Scripted.{never_waits}
use Rattle.tp_run.proofs.played.run_drawn.Goals as goal
use Rattle.worker_gate.specs.Drawn.{IsDrawn}

pub play_routines_drawn-requires-clause-calm : goal.play_routines_drawn-requires-clause-calm
play_routines_drawn-requires-clause-calm g c = never_waits c.args.script.now.lines c.requires.calm

pub returns : goal.returns
returns g c =
    let script = c.args.script.now.lines in
    let run = c.in_ok-played.played in
    let told = c.in_ok-played.ensures in
    let limits : c.program_limits-limits.result ≡ limits_for script c.args.machine =
    c.program_limits-limits.ensures.value ∙ ap (λ n. program_limits n c.args.machine.workers) c.clients.ensures in
    record {
      limits_are = told.limits ∙ limits;
      capacity_is = told.capacity;
      runs = told.runs;
      alone = λ _. subst (λ l. IsDrawn c.args.seed (routines_of script) l c.args.machine.events run.book.history) limits told.drawn;
      cut_is = told.cut;
    }
