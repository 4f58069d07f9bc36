use Rattle.std.proofs.Common.{◌≡◌, ◌+◌, ◌≤◌, is_some, length, nat_lt, sym, ap, ◌∙◌, arith}
use Rattle.tp_base.specs.declared.plans.Trigger.TheVariants as trigger
use Rattle.tp_model.specs.Calls.WaitObjects.{lacks_slots_after}
use Rattle.tp_model.specs.Sources.{slots_after}
use Rattle.tp_model.proofs.Arming.{one_if}
use Rattle.live_world.specs.Live.{Live}
use Rattle.live_world.specs.View.{shown}
use Rattle.live_world.proofs.Due.{fewer_armings, set_needs}
use Rattle.live_world.proofs.LiveWorld.lacks_slots_to_set.Goals.{then-is_some, else-is_some}
use Rattle.live_world.proofs.LiveWorld.lacks_slots_to_set.Goals as goal

pub overflow_add-result : goal.overflow_add-result
overflow_add-result c =
    omega (arith, c.len.ensures.value, c.armed_without.ensures, fewer_armings c.args.object.0 c.self.inside.sources.sources.armings, c.self.invariant.slotted.slots, c.self.invariant.sized.in_range.slots_most)

pub overflow_add-result-2 : goal.overflow_add-result-2
overflow_add-result-2 c =
    let needed : c.if-is_some.needed ≤ 1 = elim c.if-is_some.branch [
      | then-is_some w ↦ omega (arith, w.needed-is)
      | else-is_some w ↦ omega (arith, w.needed-is)
    ] in
    omega (arith, needed, c.len.ensures.value, c.armed_without.ensures, fewer_armings c.args.object.0 c.self.inside.sources.sources.armings, c.self.invariant.slotted.slots, c.self.invariant.sized.in_range.slots_most)

pub returns : goal.returns
returns c =
    let i = c.self.inside in
    let needed : c.if-is_some.needed ≡ one_if (is_some c.args.kernel) = elim c.if-is_some.branch [
      | then-is_some w ↦ w.needed-is ∙ ap one_if (sym w.if-is_some.true ∙ c.is_some.ensures)
      | else-is_some w ↦ w.needed-is ∙ ap one_if (sym w.if-is_some.false ∙ c.is_some.ensures)
    ] in
    let same : c.len.result + c.armed_without.result + c.if-is_some.needed ≡ slots_after (shown i).world (trigger.SetWait c.args.object c.args.kernel c.args.timeout)
    = omega (arith, needed, c.len.ensures.value, c.armed_without.ensures, set_needs c.args.object c.args.kernel c.args.timeout i.sources.sources, ap length c.self.invariant.alive.live) in
    ap (nat_lt i.limits.slots) same ∙ ap (λ (x : Live). lacks_slots_after x.world (trigger.SetWait c.args.object c.args.kernel c.args.timeout)) c.self.view_is
