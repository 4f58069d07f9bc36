use Rattle.std.proofs.Common.{◌≡◌, ◌+◌, ◌-◌, ◌∙◌, refl, sym, ap, ap₂, subst, arith, length, false, true}
use Rattle.tp_base.specs.declared.calls.Call.TheVariants.{Advance}
use Rattle.recorded.specs.Recordings.{next_deadline_behind, now_behind, Recording}
use Rattle.tp_coalesce.specs.Heard.{IsSleeping}
use Rattle.tp_coalesce.specs.Sleeps.{behind, done, is_advanced, is_on_way, is_there, most_wakes, sleep_from, stopped, waking}
use Rattle.tp_coalesce.specs.declared.sleeping.Slept.TheVariants.{Done, Stopped}
use Rattle.tp_coalesce.proofs.Ending.{ends, goes_on, next, one_more, slept_by, sleeps_on, stops, there, there_is, told, waking_is, woken}
use Rattle.tp_coalesce.proofs.sleeping.sleep_to.Goals as goal

pub returns-then-is_there-clause-ok : goal.returns-then-is_there-clause-ok
returns-then-is_there-clause-ok g c =
    let r = g.B.Recorded.recording c.loop-more.book in
    let whole = sleep_from (most_wakes (g.B.Recorded.recording c.args.book.now) + 1) (g.B.Recorded.recording c.args.book.now) c.args.who c.args.target 0 in
    let is : is_there r c.args.target c.loop-more.wakes ≡ true
    = there_is r c.args.target c.loop-more.wakes c.now-now.result c.next_deadline-deadline.result c.is_on_way-on_way.result c.is_there.result true c.next_deadline-deadline.ensures c.is_on_way-on_way.ensures c.now-now.ensures c.is_there.ensures c.if-is_there.true in
    slept_by g.L.Listener.hears whole c.args.listener.now r c.loop-more.listener c.args.who c.args.target c.loop-more.more c.loop-more.wakes c.len-start.result c.loop-more.invariant
    (done r c.loop-more.wakes) (there r c.args.who c.args.target c.loop-more.wakes c.loop-more.more c.loop-more-test.true is) r c.loop-more.listener (Done c.now-now.result c.loop-more.wakes) refl refl (ap (λ n. Done n c.loop-more.wakes) c.now-now.ensures)

pub returns-then-not-is_advanced-clause-ok : goal.returns-then-not-is_advanced-clause-ok
returns-then-not-is_advanced-clause-ok g c =
    let r = g.B.Recorded.recording c.loop-more.book in
    let q = g.B.Recorded.recording c.step-outcome.new.self in
    let whole = sleep_from (most_wakes (g.B.Recorded.recording c.args.book.now) + 1) (g.B.Recorded.recording c.args.book.now) c.args.who c.args.target 0 in
    let is : is_there r c.args.target c.loop-more.wakes ≡ false
    = there_is r c.args.target c.loop-more.wakes c.now-now.result c.next_deadline-deadline.result c.is_on_way-on_way.result c.is_there.result false c.next_deadline-deadline.ensures c.is_on_way-on_way.ensures c.now-now.ensures c.is_there.ensures c.if-is_there.false in
    let w = woken r q c.args.who c.args.target c.saturating_sub-ticks.result c.step-outcome.result
    (waking_is r c.args.target c.now-now.result c.saturating_sub-ticks.result c.goal_of.result c.next_deadline-deadline.result c.next_deadline-deadline.ensures c.goal_of.ensures.value c.now-now.ensures c.saturating_sub-ticks.ensures) c.step-outcome.ensures.outcome c.step-outcome.ensures.history in
    let heard_now : c.hear.new.self ≡ g.L.Listener.hears c.loop-more.listener (told r c.args.who c.args.target c.loop-more.wakes) = c.in_ok-hear.ensures.ok ∙ ap (g.L.Listener.hears c.loop-more.listener) w.1 in
    let advanced : is_advanced (told r c.args.who c.args.target c.loop-more.wakes) ≡ false = ap is_advanced (sym w.1) ∙ sym c.is_advanced.ensures ∙ c.if-not-is_advanced.true in
    slept_by g.L.Listener.hears whole c.args.listener.now r c.loop-more.listener c.args.who c.args.target c.loop-more.more c.loop-more.wakes c.len-start.result c.loop-more.invariant
    (behind c.args.who (waking r c.args.target) (told r c.args.who c.args.target c.loop-more.wakes) (stopped (next r c.args.who c.args.target c.loop-more.wakes) c.loop-more.wakes (told r c.args.who c.args.target c.loop-more.wakes)))
    (stops r c.args.who c.args.target c.loop-more.wakes c.loop-more.more c.loop-more-test.true is advanced) q c.hear.new.self (Stopped c.loop-more.wakes c.step-outcome.result) w.0 heard_now (ap (Stopped c.loop-more.wakes) w.1)

pub returns-then-not-on_way-clause-ok : goal.returns-then-not-on_way-clause-ok
returns-then-not-on_way-clause-ok g c =
    let r = g.B.Recorded.recording c.loop-more.book in
    let q = g.B.Recorded.recording c.step-outcome.new.self in
    let whole = sleep_from (most_wakes (g.B.Recorded.recording c.args.book.now) + 1) (g.B.Recorded.recording c.args.book.now) c.args.who c.args.target 0 in
    let is : is_there r c.args.target c.loop-more.wakes ≡ false
    = there_is r c.args.target c.loop-more.wakes c.now-now.result c.next_deadline-deadline.result c.is_on_way-on_way.result c.is_there.result false c.next_deadline-deadline.ensures c.is_on_way-on_way.ensures c.now-now.ensures c.is_there.ensures c.if-is_there.false in
    let w = woken r q c.args.who c.args.target c.saturating_sub-ticks.result c.step-outcome.result
    (waking_is r c.args.target c.now-now.result c.saturating_sub-ticks.result c.goal_of.result c.next_deadline-deadline.result c.next_deadline-deadline.ensures c.goal_of.ensures.value c.now-now.ensures c.saturating_sub-ticks.ensures) c.step-outcome.ensures.outcome c.step-outcome.ensures.history in
    let heard_now : c.hear.new.self ≡ g.L.Listener.hears c.loop-more.listener (told r c.args.who c.args.target c.loop-more.wakes) = c.in_ok-hear.ensures.ok ∙ ap (g.L.Listener.hears c.loop-more.listener) w.1 in
    let advanced : is_advanced (told r c.args.who c.args.target c.loop-more.wakes) ≡ true = ap is_advanced (sym w.1) ∙ sym c.is_advanced.ensures ∙ c.if-not-is_advanced.false in
    let made_more : length q.history ≡ length r.history + 1 = ap (λ (x : Recording). length x.history) c.step-outcome.ensures.history ∙ one_more r c.args.who (Advance c.saturating_sub-ticks.result) c.step-outcome.result (sym c.is_advanced.ensures ∙ c.if-not-is_advanced.false) in
    let wakes_are : c.len.result - c.len-start.result ≡ c.loop-more.wakes + 1 = omega (arith, made_more, c.loop-more.invariant.entries, c.len.ensures.len) in
    let way : is_on_way (next_deadline_behind r) c.args.target ≡ false = ap (λ d. is_on_way d c.args.target) (sym c.next_deadline-deadline.ensures) ∙ sym c.is_on_way-on_way.ensures ∙ c.if-not-on_way.true in
    slept_by g.L.Listener.hears whole c.args.listener.now r c.loop-more.listener c.args.who c.args.target c.loop-more.more c.loop-more.wakes c.len-start.result c.loop-more.invariant
    (behind c.args.who (waking r c.args.target) (told r c.args.who c.args.target c.loop-more.wakes) (done (next r c.args.who c.args.target c.loop-more.wakes) (c.loop-more.wakes + 1)))
    (ends r c.args.who c.args.target c.loop-more.wakes c.loop-more.more c.loop-more-test.true is advanced way) q c.hear.new.self (Done c.now.result (c.len.result - c.len-start.result)) w.0 heard_now
    (ap₂ (λ n k. Done n k) (c.now.ensures ∙ ap now_behind w.0) wakes_are)

pub loop-more-preserved : goal.loop-more-preserved
loop-more-preserved g c =
    let r = g.B.Recorded.recording c.loop-more.book in
    let q = g.B.Recorded.recording c.step-outcome.new.self in
    let whole = sleep_from (most_wakes (g.B.Recorded.recording c.args.book.now) + 1) (g.B.Recorded.recording c.args.book.now) c.args.who c.args.target 0 in
    let is : is_there r c.args.target c.loop-more.wakes ≡ false
    = there_is r c.args.target c.loop-more.wakes c.now-now.result c.next_deadline-deadline.result c.is_on_way-on_way.result c.is_there.result false c.next_deadline-deadline.ensures c.is_on_way-on_way.ensures c.now-now.ensures c.is_there.ensures c.if-is_there.false in
    let w = woken r q c.args.who c.args.target c.saturating_sub-ticks.result c.step-outcome.result
    (waking_is r c.args.target c.now-now.result c.saturating_sub-ticks.result c.goal_of.result c.next_deadline-deadline.result c.next_deadline-deadline.ensures c.goal_of.ensures.value c.now-now.ensures c.saturating_sub-ticks.ensures) c.step-outcome.ensures.outcome c.step-outcome.ensures.history in
    let heard_now : c.hear.new.self ≡ g.L.Listener.hears c.loop-more.listener (told r c.args.who c.args.target c.loop-more.wakes) = c.in_ok-hear.ensures.ok ∙ ap (g.L.Listener.hears c.loop-more.listener) w.1 in
    let advanced : is_advanced (told r c.args.who c.args.target c.loop-more.wakes) ≡ true = ap is_advanced (sym w.1) ∙ sym c.is_advanced.ensures ∙ c.if-not-is_advanced.false in
    let made_more : length q.history ≡ length r.history + 1 = ap (λ (x : Recording). length x.history) c.step-outcome.ensures.history ∙ one_more r c.args.who (Advance c.saturating_sub-ticks.result) c.step-outcome.result (sym c.is_advanced.ensures ∙ c.if-not-is_advanced.false) in
    let wakes_are : c.len.result - c.len-start.result ≡ c.loop-more.wakes + 1 = omega (arith, made_more, c.loop-more.invariant.entries, c.len.ensures.len) in
    let way : is_on_way (next_deadline_behind r) c.args.target ≡ true = ap (λ d. is_on_way d c.args.target) (sym c.next_deadline-deadline.ensures) ∙ sym c.is_on_way-on_way.ensures ∙ c.if-not-on_way.false in
    let on = sleeps_on g.L.Listener.hears whole c.args.listener.now r c.loop-more.listener c.args.who c.args.target c.loop-more.more c.loop-more.wakes c.len-start.result c.loop-more.invariant
    (waking r c.args.target) (told r c.args.who c.args.target c.loop-more.wakes) (next r c.args.who c.args.target c.loop-more.wakes) c.hear.new.self
    (goes_on r c.args.who c.args.target c.loop-more.wakes c.loop-more.more c.loop-more-test.true is advanced way) heard_now (omega (arith, ap (λ (x : Recording). length x.history) w.0, made_more, c.loop-more.invariant.entries)) in
    subst (λ k. IsSleeping g.L.Listener.hears whole c.args.listener.now q c.hear.new.self c.args.who c.args.target (c.loop-more.more - 1) k c.len-start.result) (sym wakes_are)
    (subst (λ x. IsSleeping g.L.Listener.hears whole c.args.listener.now x c.hear.new.self c.args.who c.args.target (c.loop-more.more - 1) (c.loop-more.wakes + 1) c.len-start.result) (sym w.0) on)
