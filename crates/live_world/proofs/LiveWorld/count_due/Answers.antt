use Rattle.std.proofs.Common.{◌≡◌, ◌+◌, ◌≤◌, Some, true, false, length, refl, sym, ap, ◌∙◌, subst, arith}
use Rattle.std.proofs.lemmas.List.{length-map}
use Rattle.tp_base.specs.Timers.{expired}
use Rattle.tp_base.specs.declared.plans.Trigger.TheVariants.{Advance}
use Rattle.tp_model.specs.Conditions.{lacks_slots_for}
use Rattle.tp_model.specs.Sources.{count_fired, expiry_job}
use Rattle.tp_model.specs.Calls.Timers.{count_expiring}
use Rattle.live_world.specs.Live.{Live}
use Rattle.live_world.specs.View.{shown}
use Rattle.live_world.proofs.Due.{due_most, fewer_lack, more_lack, unarmed_fewer}
use Rattle.live_world.proofs.LiveWorld.count_due.Goals as goal

-- there is a slot for each that is due
pub returns-then-not-lacks_slots : goal.returns-then-not-lacks_slots
returns-then-not-lacks_slots c =
    let w = c.args.self.now.world in
    let due : c.count_due-due.result ≡ length (expired c.args.now w.settings) = c.count_due-due.ensures ∙ ap (λ (l : Live). length (expired c.args.now l.world.settings)) c.self.view_is in
    let enough : lacks_slots_for w c.count_due-due.result ≡ false = sym c.lacks_slots.ensures ∙ c.if-not-lacks_slots.true in
    let all : lacks_slots_for w (count_expiring w c.args.now) ≡ false = fewer_lack w c.count_due-due.result (count_expiring w c.args.now) (omega (arith, due, unarmed_fewer c.args.now w.settings w.armings)) enough in
    let count : c.count_due-due.result ≡ count_fired w (Advance c.args.now) = due ∙ sym (length-map (expired c.args.now w.settings) (expiry_job w.armings)) in
    rw all (ap (λ n. Some n) count)

-- there is none even for all that is due less one for each armed wait
pub returns-then-lacks_slots : goal.returns-then-lacks_slots
returns-then-lacks_slots c =
    let i = c.self.inside in
    let w = c.args.self.now.world in
    let due : c.count_due-due.result ≡ length (expired c.args.now w.settings) = c.count_due-due.ensures ∙ ap (λ (l : Live). length (expired c.args.now l.world.settings)) c.self.view_is in
    let armed : c.armed.result ≡ length w.armings = c.armed.ensures ∙ ap (λ (l : Live). length l.world.armings) c.self.view_is in
    let most : length (expired c.args.now w.settings) ≤ count_expiring w c.args.now + length w.armings
    = subst (λ (l : Live). length (expired c.args.now l.world.settings) ≤ count_expiring l.world c.args.now + length l.world.armings) c.self.view_is (due_most (i.made + 1) c.args.now (shown i).world c.self.invariant.sound) in
    let lacks : lacks_slots_for w c.saturating_sub.result ≡ true = sym c.lacks_slots-2.ensures ∙ c.if-lacks_slots.true in
    rw (more_lack w c.saturating_sub.result (count_expiring w c.args.now) (omega (arith, c.saturating_sub.ensures, due, armed, most)) lacks) refl
