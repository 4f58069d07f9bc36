use Rattle.std.proofs.Common.{ap, ◌∙◌}
use Rattle.tp_edge.specs.Given.{with_given}
use Rattle.tp_run.proofs.Main.{run_written}
use Rattle.tp_run.proofs.top.write_reply.Goals as goal

pub returns-in-Ok-give_all-clause-run : goal.returns-in-Ok-give_all-clause-run
returns-in-Ok-give_all-clause-run g c = λ command left now taken.
    let held = g.K.Sink.holds c.args.sink.now in
    run_written command left now held (g.K.Sink.holds c.give_all.new.sink) c.in-Ok.output c.into.result (c.in-Ok-give_all.ensures.ok ∙ ap (λ t. with_given t held) c.deref.ensures.value) c.into.ensures c.args.reply
    c.in-Ok.is taken
