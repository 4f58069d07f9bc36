use Rattle.std.proofs.Common.{length, sym, ap, ◌∙◌}
use Rattle.tp_base.specs.declared.rows.WaitTarget.TheVariants.{Object}
use Rattle.tp_model.specs.Calls.Waits.{count_covered, count_cancelled_by}
use Rattle.live_world.specs.View.{shown}
use Rattle.live_world.proofs.Beginnings.{covers_running, cancels_pending, covers_all, cancels_none}
use Rattle.live_world.proofs.LiveWorld.wait_counts.Goals as goal

pub returns-then-cancel-clause-covered : goal.returns-then-cancel-clause-covered
returns-then-cancel-clause-covered c =
    let w = c.args.self.now.world in
    c.cancel_counts.ensures.covered ∙ sym (covers_running c.args.object w.callbacks) ∙ ap (count_covered w (Object c.args.object)) (sym c.if-cancel.true)

pub returns-then-cancel-clause-cancelled : goal.returns-then-cancel-clause-cancelled
returns-then-cancel-clause-cancelled c =
    let w = c.args.self.now.world in
    c.cancel_counts.ensures.cancelled ∙ sym (cancels_pending c.args.object w.callbacks) ∙ ap (count_cancelled_by w (Object c.args.object)) (sym c.if-cancel.true)

pub returns-else-cancel-clause-covered : goal.returns-else-cancel-clause-covered
returns-else-cancel-clause-covered c =
    let cs = c.self.inside.callbacks.rows in
    rw (← c.self.view_is)
    (c.count_outstanding.ensures ∙ sym (covers_all c.args.object cs) ∙ ap (count_covered (shown c.self.inside).world (Object c.args.object)) (sym c.if-cancel.false))

pub returns-else-cancel-clause-cancelled : goal.returns-else-cancel-clause-cancelled
returns-else-cancel-clause-cancelled c =
    let w = c.args.self.now.world in
    sym (ap length (cancels_none c.args.object w.callbacks)) ∙ ap (count_cancelled_by w (Object c.args.object)) (sym c.if-cancel.false)
