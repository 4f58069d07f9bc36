use Rattle.std.proofs.Common.{sym, ◌∙◌}
use Rattle.tp_explore.specs.Names.{used_here, used_same}
use Rattle.tp_explore.proofs.keys.used.Goals as goal
use Rattle.tp_explore.proofs.keys.used.Goals.{then-names-place-ne0, else-names-place-ne0}

pub loop-place-preserved : goal.loop-place-preserved
loop-place-preserved c = elim c.if-names-place-ne0.branch [
  | then-names-place-ne0 w ↦ w.used-is ∙ sym (used_here c.args.names.now c.loop-place.place c.loop-place-test.true (w.if-names-place-ne0.true))
  | else-names-place-ne0 w ↦ w.used-is ∙ c.loop-place.invariant ∙ sym (used_same c.args.names.now c.loop-place.place c.loop-place-test.true (w.if-names-place-ne0.false))
]
