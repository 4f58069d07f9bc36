use Rattle.std.proofs.Common.{◌∙◌, ap}
use Rattle.recorded.specs.Recordings.{recorded}
use Rattle.tp_coalesce.proofs.Printing.{pool_told, sleep_printed}
use Rattle.tp_coalesce.proofs.layer.SleepBookLayerTuple2WhoSleepCall.step.Goals as goal

pub returns-in-Pool : goal.returns-in-Pool
returns-in-Pool g c =
    let r = g.B.Recorded.recording c.self.inside.book in
    pool_told c.outcome.result c.args.self.now r (g.B.Recorded.recording c.step-outcome.new.self) c.self.view_is c.args.made.0 c.args.made.1 c.in-Pool.call c.in-Pool.is c.step-outcome.result c.args.out.now c.outcome.new.self
    c.step-outcome.ensures.outcome (c.step-outcome.ensures.history ∙ ap (recorded r c.args.made.0 c.in-Pool.call) c.step-outcome.ensures.outcome) c.outcome.ensures.ok

pub returns-in_ok-slept-in-Sleep : goal.returns-in_ok-slept-in-Sleep
returns-in_ok-slept-in-Sleep g c =
    sleep_printed c.print_slept.result c.args.self.now (g.B.Recorded.recording c.self.inside.book) (g.B.Recorded.recording c.sleep_told.new.book) c.self.view_is c.args.made.0 c.args.made.1 c.in-Sleep.ticks c.in-Sleep.is c.in_ok-slept-in-Sleep.slept c.args.out.now c.sleep_told.new.listener c.print_slept.new.out
    c.in_ok-slept-in-Sleep.ensures.ok c.print_slept.ensures
