use Rattle.std.proofs.Common.{length, sym, ap, ◌∙◌, arith}
use Rattle.tp_base.specs.declared.rows.WaitTarget.TheVariants.{Group}
use Rattle.tp_model.specs.World.{World}
use Rattle.tp_model.specs.Calls.Waits.{count_covered, count_cancelled_by}
use Rattle.live_world.proofs.GroupWalks.{covers_left, covers_whole, cancels_none_of}
use Rattle.live_world.proofs.LiveWorld.close_counts.Goals as goal

pub overflow_sub-result : goal.overflow_sub-result
overflow_sub-result c =
    let w = c.args.self.now.world in
    omega (arith, covers_left c.args.group w.callbacks (ap (λ (x : World). x.callbacks) c.is_reachable.ensures.living), c.count_of_group-count.ensures.all, c.count_of_group-count.ensures.pending)

pub returns-then-cancel-clause-covered : goal.returns-then-cancel-clause-covered
returns-then-cancel-clause-covered c =
    let w = c.args.self.now.world in
    omega (arith, covers_left c.args.group w.callbacks (ap (λ (x : World). x.callbacks) c.is_reachable.ensures.living), c.count_of_group-count.ensures.all, c.count_of_group-count.ensures.pending)
    ∙ ap (count_covered w (Group c.args.group)) (sym c.if-cancel.true)

pub returns-then-cancel-clause-cancelled : goal.returns-then-cancel-clause-cancelled
returns-then-cancel-clause-cancelled c =
    let w = c.args.self.now.world in
    c.count_of_group-count.ensures.pending ∙ ap (count_cancelled_by w (Group c.args.group)) (sym c.if-cancel.true)

pub returns-else-cancel-clause-covered : goal.returns-else-cancel-clause-covered
returns-else-cancel-clause-covered c =
    let w = c.args.self.now.world in
    c.count_of_group-count.ensures.all ∙ sym (covers_whole c.args.group w.callbacks (ap (λ (x : World). x.callbacks) c.is_reachable.ensures.living)) ∙ ap (count_covered w (Group c.args.group)) (sym c.if-cancel.false)

pub returns-else-cancel-clause-cancelled : goal.returns-else-cancel-clause-cancelled
returns-else-cancel-clause-cancelled c =
    let w = c.args.self.now.world in
    sym (ap length (cancels_none_of c.args.group w.callbacks)) ∙ ap (count_cancelled_by w (Group c.args.group)) (sym c.if-cancel.false)
