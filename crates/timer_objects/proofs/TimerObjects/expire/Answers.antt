use Rattle.std.proofs.Common.{◌≡◌, ◌∙◌, refl, sym, arith}
use Rattle.timer_objects.specs.Kept.{settings_of}
use Rattle.timer_objects.specs.Settings.{Timers, after_first}
use Rattle.timer_objects.proofs.Expiry.{none_expired, none_changed, fired_first, left_first}
use Rattle.timer_objects.proofs.Kept.{kept_popped, kept_set, first_alive, first_paced, first_within, first_pace}
use Rattle.timer_objects.proofs.Shown.{popped, shown_none, shown_first, shown_gone, shown_back, shown_in_order}
use Rattle.timer_objects.proofs.TimerObjects.expire.Goals as goal
use Rattle.timer_objects.proofs.TimerObjects.expire.Goals.{then-pace-gt0, else-pace-gt0}

-- nothing is due

pub returns-in_err-due-clause-fired : goal.returns-in_err-due-clause-fired
returns-in_err-due-clause-fired c =
    let order = shown_in_order c.self.inside.paces.items c.self.inside.dues.entries c.pop_due.ensures.in_order in
    let none = shown_none c.self.inside.paces.items c.args.now c.self.inside.dues.entries (sym c.in_err-due.ensures.first) in
    rw (c.from_residual.ensures, ← c.self.view_is) (none_expired _ _ order none.0)

pub returns-in_err-due-clause-done : goal.returns-in_err-due-clause-done
returns-in_err-due-clause-done c =
    let order = shown_in_order c.self.inside.paces.items c.self.inside.dues.entries c.pop_due.ensures.in_order in
    let none = shown_none c.self.inside.paces.items c.args.now c.self.inside.dues.entries (sym c.in_err-due.ensures.first) in
    rw (c.from_residual.ensures, c.pop_due.ensures.after, none.1) (none_changed _ _ order none.0)

-- the first timer expires

pub index-pace-requires : goal.index-pace-requires
index-pace-requires c =
    omega (arith, first_paced _ _ _ _ _ _ _ _ c.self.invariant c.in_ok-due.ensures.distinct (sym c.in_ok-due.ensures.first))

pub set-requires : goal.set-requires
set-requires c =
    rw c.pop_due.ensures.after (first_within _ _ _ _ _ _ _ _ c.self.invariant c.in_ok-due.ensures.distinct (sym c.in_ok-due.ensures.first))

pub overflow_add-result : goal.overflow_add-result
overflow_add-result c =
    omega (arith, c.self.invariant.fits, first_within _ _ _ _ _ _ _ _ c.self.invariant c.in_ok-due.ensures.distinct (sym c.in_ok-due.ensures.first))

pub invariant_of-self-then-pace-gt0 : goal.invariant_of-self-then-pace-gt0
invariant_of-self-then-pace-gt0 c =
    kept_set _ _ _ _ _ (kept_popped _ _ _ _ _ _ _ c.self.invariant c.pop_due.ensures.after) _ _ _ _
    (first_alive _ _ _ _ _ _ _ _ c.self.invariant c.in_ok-due.ensures.distinct (sym c.in_ok-due.ensures.first))
    c.set.ensures.after refl
    (first_paced _ _ _ _ _ _ _ _ c.self.invariant c.in_ok-due.ensures.distinct (sym c.in_ok-due.ensures.first))

pub invariant_of-self-else-pace-gt0 : goal.invariant_of-self-else-pace-gt0
invariant_of-self-else-pace-gt0 c = kept_popped _ _ _ _ _ _ _ c.self.invariant c.pop_due.ensures.after

after : (c : goal.Joined-pace-gt0) → ◌≡◌ {A = Timers} c.if-pace-gt0.self (record c.args.self.now { settings = after_first c.args.now c.args.self.now.settings })
after c =
    let is = popped _ _ _ _ c.in_ok-due.ensures.distinct (sym c.in_ok-due.ensures.first) in
    let pace = first_pace _ _ _ _ _ _ _ _ c.self.invariant c.in_ok-due.ensures.distinct (sym c.in_ok-due.ensures.first) c.index-pace.result.now c.index-pace.ensures in
    elim c.if-pace-gt0.branch [
      | then-pace-gt0 w ↦
          let shown = shown_back c.self.inside.paces.items _ _ _ _ is w.next_due.result (rw pace w.if-pace-gt0.true) (rw pace w.next_due.ensures.value) in
          w.self-is ∙ rw (w.set.ensures.after, c.pop_due.ensures.after, ← c.self.view_is) (rw shown refl)
      | else-pace-gt0 w ↦
          let shown = shown_gone c.self.inside.paces.items _ _ _ _ is (rw pace w.if-pace-gt0.false) in
          w.self-is ∙ rw (c.pop_due.ensures.after, ← c.self.view_is) (rw shown refl)
    ]

pub returns-clause-after : goal.returns-clause-after
returns-clause-after c = after c

pub returns-clause-fired : goal.returns-clause-fired
returns-clause-fired c =
    let is = popped _ _ _ _ c.in_ok-due.ensures.distinct (sym c.in_ok-due.ensures.first) in
    rw (after c, ← c.self.view_is) (fired_first c.args.now (settings_of c.self.inside.paces.items c.self.inside.dues.entries) _ (shown_first c.self.inside.paces.items _ _ _ _ is))

pub returns-clause-left : goal.returns-clause-left
returns-clause-left c = rw (after c) (left_first c.args.now c.args.self.now.settings)
