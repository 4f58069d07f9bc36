use Rattle.std.proofs.Common.{◌+◌, refl, arith}
use Rattle.std.proofs.lemmas.List.{length-set}
use Rattle.timer_objects.specs.declared.Pace.{Pace}
use Rattle.timer_objects.proofs.Kept.{kept_paced, kept_set, key_within, can_begin}
use Rattle.timer_objects.proofs.Padding.{there_filled}
use Rattle.timer_objects.proofs.Shown.{shown_filled, shown_later, shown_again, shown_once}
use Rattle.timer_objects.proofs.TimerObjects.begin.Goals as goal

pub fill_to-requires : goal.fill_to-requires
fill_to-requires c =
    let alive = there_filled (c.self.inside.dues.keys + 1) c.self.inside.there.items _ (rw (← c.self.view_is, c.key_of-key.ensures) at c.requires.there) in
    omega (arith, key_within _ _ _ _ _ _ c.self.invariant alive, c.self.invariant.reserved)

pub index_mut-requires : goal.index_mut-requires
index_mut-requires c = omega (arith, c.fill_to.ensures.many)

pub invariant_of-self : goal.invariant_of-self
invariant_of-self c =
    let alive = there_filled (c.self.inside.dues.keys + 1) c.self.inside.there.items _ (rw (← c.self.view_is, c.key_of-key.ensures) at c.requires.there) in
    let within = key_within _ _ _ _ _ _ c.self.invariant alive in
    let filled = kept_paced _ _ _ _ _ c.self.invariant c.key_of-key.result c.fill_to.new.items.items (omega (arith, c.fill_to.ensures.many)) (omega (arith, c.fill_to.ensures.many, within, c.self.invariant.many)) in
    rw c.fill_to.ensures.capacity
    (kept_set _ _ _ _ _ filled c.key_of-key.result _ _ _ alive c.set.ensures.after (length-set c.fill_to.new.items.items _ _) (omega (arith, c.fill_to.ensures.many)))

pub invariant_of-self-then-period-gt0 : goal.invariant_of-self-then-period-gt0
invariant_of-self-then-period-gt0 c =
    let alive = there_filled (c.self.inside.dues.keys + 1) c.self.inside.there.items _ (rw (← c.self.view_is, c.key_of-key.ensures) at c.requires.there) in
    let within = key_within _ _ _ _ _ _ c.self.invariant alive in
    let filled = kept_paced _ _ _ _ _ c.self.invariant c.key_of-key.result c.fill_to.new.items.items (omega (arith, c.fill_to.ensures.many)) (omega (arith, c.fill_to.ensures.many, within, c.self.invariant.many)) in
    rw c.fill_to.ensures.capacity
    (kept_set _ _ _ _ _ filled c.key_of-key.result _ _ _ alive c.set-then-period-gt0.ensures.after (length-set c.fill_to.new.items.items _ _) (omega (arith, c.fill_to.ensures.many)))

pub invariant_of-self-else-period-gt0 : goal.invariant_of-self-else-period-gt0
invariant_of-self-else-period-gt0 c =
    let alive = there_filled (c.self.inside.dues.keys + 1) c.self.inside.there.items _ (rw (← c.self.view_is, c.key_of-key.ensures) at c.requires.there) in
    let within = key_within _ _ _ _ _ _ c.self.invariant alive in
    let pace : Pace = record { period = c.args.setting.period; window = c.args.setting.window } in
    let long = length-set c.fill_to.new.items.items c.key_of-key.result pace in
    rw c.fill_to.ensures.capacity
    (kept_paced _ _ _ _ _ c.self.invariant c.key_of-key.result _ (omega (arith, long, c.fill_to.ensures.many)) (omega (arith, long, c.fill_to.ensures.many, within, c.self.invariant.many)))

pub returns-then-not-fires-clause-after : goal.returns-then-not-fires-clause-after
returns-then-not-fires-clause-after c =
    let filled = shown_filled c.self.inside.paces.items c.fill_to.new.items.items c.fill_to.ensures.same c.self.inside.dues.entries in
    let unset = can_begin _ _ _ _ _ c.args.setting (omega (arith, c.fill_to.ensures.many)) (rw (← filled) at c.self.view_is) c.key_of-key.ensures c.requires.unset in
    let shown = shown_later _ _ _ _ unset c.args.now c.if-not-fires.true in
    rw (← c.self.view_is, c.set.ensures.after) (rw (shown, filled) refl)

pub returns-then-period-gt0-clause-after : goal.returns-then-period-gt0-clause-after
returns-then-period-gt0-clause-after c =
    let filled = shown_filled c.self.inside.paces.items c.fill_to.new.items.items c.fill_to.ensures.same c.self.inside.dues.entries in
    let unset = can_begin _ _ _ _ _ c.args.setting (omega (arith, c.fill_to.ensures.many)) (rw (← filled) at c.self.view_is) c.key_of-key.ensures c.requires.unset in
    let shown = shown_again _ _ _ _ unset c.args.now _ c.if-not-fires.false c.if-period-gt0.true c.next_due.ensures.value in
    rw (← c.self.view_is, c.set-then-period-gt0.ensures.after) (rw (shown, filled) refl)

pub returns-else-period-gt0-clause-after : goal.returns-else-period-gt0-clause-after
returns-else-period-gt0-clause-after c =
    let filled = shown_filled c.self.inside.paces.items c.fill_to.new.items.items c.fill_to.ensures.same c.self.inside.dues.entries in
    let unset = can_begin _ _ _ _ _ c.args.setting (omega (arith, c.fill_to.ensures.many)) (rw (← filled) at c.self.view_is) c.key_of-key.ensures c.requires.unset in
    let shown = shown_once _ _ _ _ unset c.args.now c.if-not-fires.false c.if-period-gt0.false in
    rw (← c.self.view_is) (rw (shown, filled) refl)
