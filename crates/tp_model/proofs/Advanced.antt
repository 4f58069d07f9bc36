-- What an Advance that is accepted does.
use Rattle.std.proofs.Common.{◌≡◌, ℕ, ◌+◌, ◌≤◌, Bool, true, false, cond, nat_lt, ◌++◌, length, map, Option, Some, None, refl, sym, ap, ◌∙◌, arith}
use Rattle.std.proofs.lemmas.Bool.{ltb-false}
use Rattle.std.proofs.lemmas.List.{length-map}
use Rattle.tp_base.specs.declared.answers.Answer.{Answer}
use Rattle.tp_base.specs.declared.answers.Answer.TheVariants.{Advanced}
use Rattle.tp_base.specs.declared.answers.Outcome.TheVariants as outcome
use Rattle.tp_base.specs.declared.answers.Refusal.{Refusal}
use Rattle.tp_base.specs.declared.calls.Call.TheVariants.{Advance}
use Rattle.tp_base.specs.declared.ids.Who.{Who}
use Rattle.tp_base.specs.declared.plans.Trigger.TheVariants as trigger
use Rattle.tp_base.specs.Armings.{armed_behind}
use Rattle.tp_base.specs.Timers.{after_expiry, clock_end, expired}
use Rattle.tp_model.specs.Calls.Timers.{advance_plan, advance_refusals, fire, first_of}
use Rattle.tp_model.specs.History.{change_of, led_by, led_to}
use Rattle.tp_model.specs.Refusing.{first_refusal, unless_refused}
use Rattle.tp_model.specs.Sources.{count_fired, expiry_job, fired, firing, rows_of, sources_of}
use Rattle.tp_model.specs.Step.{Accepted, Refused, Full, cost, outcome_of, stepped, within, world_after}
use Rattle.tp_model.specs.Table.{step}
use Rattle.tp_model.specs.World.{World}
use Rattle.tp_model.proofs.Entries.{next_number_in}
use Rattle.tp_model.proofs.Refusals.{none_holds}

-- the clock comes to a moment, and all that is due then expires
pub record HasAdvanced (w : World) (ticks now first count : ℕ) (next : World) : Type 0 where
  pub moment : now ≡ w.now + ticks
  pub within_end : now ≤ clock_end
  pub numbers : first ≡ first_of (next_number_in w) count
  pub counted : count ≡ length (expired now w.settings)
  pub clock : next.now ≡ now
  pub settings : next.settings ≡ after_expiry now w.settings
  pub armings : next.armings ≡ armed_behind (expired now w.settings) w.armings
  pub callbacks : next.callbacks ≡ w.callbacks ++ rows_of w.objects (next_number_in w) (map (expiry_job w.armings) (expired now w.settings))
  -- and nothing else changes
  pub whole : next ≡ fired w (next_number_in w) (firing (trigger.Advance now) (sources_of w))

module _ (w : World) (left : ℕ) (who : Who) (ticks : ℕ) where
  abbrev makes : ℕ
  makes = count_fired w (trigger.Advance (w.now + ticks))

  abbrev says : Answer
  says = Advanced (w.now + ticks) (first_of (next_number_in w) makes) makes

  abbrev becomes : World
  becomes = fired w (next_number_in w) (firing (trigger.Advance (w.now + ticks)) (sources_of w))

  record IsAccepted (now first count : ℕ) : Type 0 where
    pub unrefused : first_refusal (advance_refusals w who (w.now + ticks)) ≡ None
    pub paid : nat_lt left (cost w becomes) ≡ false
    pub moment : now ≡ w.now + ticks
    pub numbers : first ≡ first_of (next_number_in w) makes
    pub counted : count ≡ makes

  module _ (now first count : ℕ) (told : outcome_of (step w left who (Advance ticks)) ≡ outcome.Done (Advanced now first count)) where
    accepted : IsAccepted now first count
    unfolding advance_plan
    accepted = of_refusal (first_refusal (advance_refusals w who (w.now + ticks))) refl told
      where
        of_full : (full : Bool) (refusal : Refusal) → outcome_of (cond full (Full left 1) (Refused refusal)) ≡ outcome.Done (Advanced now first count) → IsAccepted now first count
        of_full true refusal e = absurd cc
        of_full false refusal e = absurd cc

        of_room : (full : Bool) → first_refusal (advance_refusals w who (w.now + ticks)) ≡ None → nat_lt left (cost w becomes) ≡ full → outcome_of (cond full (Full left (cost w becomes)) (Accepted says becomes)) ≡ outcome.Done (Advanced now first count) → IsAccepted now first count
        of_room true none is e = absurd cc
        of_room false none is e = record { unrefused = none; paid = is; moment = cc; numbers = cc; counted = cc }

        of_refusal : (r : Option Refusal) → first_refusal (advance_refusals w who (w.now + ticks)) ≡ r
            → outcome_of (within w left (stepped w (unless_refused r (fire w (next_number_in w) (trigger.Advance (w.now + ticks)) (Advanced (w.now + ticks)))))) ≡ outcome.Done (Advanced now first count) → IsAccepted now first count
        of_refusal (Some refusal) is e = of_full (nat_lt left 1) refusal e
        of_refusal None is e = of_room (nat_lt left (cost w becomes)) is refl e

    advanced_to : (next : World) → next ≡ becomes → HasAdvanced w ticks now first count next
    advanced_to next is =
        let a = accepted in
        let here : next ≡ fired w (next_number_in w) (firing (trigger.Advance now) (sources_of w)) = is ∙ ap (λ n. fired w (next_number_in w) (firing (trigger.Advance n) (sources_of w))) (sym a.moment) in
        let as_many : makes ≡ length (expired now w.settings) = length-map (expired (w.now + ticks) w.settings) (expiry_job w.armings) ∙ ap (λ n. length (expired n w.settings)) (sym a.moment) in
        record {
          moment = a.moment;
          within_end = omega (arith, a.moment, ltb-false clock_end (w.now + ticks) (none_holds (advance_refusals w who (w.now + ticks)) a.unrefused).1.1.1.1.0);
          numbers = a.numbers ∙ ap (first_of (next_number_in w)) (sym a.counted);
          counted = a.counted ∙ as_many;
          clock = ap (λ (v : World). v.now) here;
          settings = ap (λ (v : World). v.settings) here;
          armings = ap (λ (v : World). v.armings) here;
          callbacks = ap (λ (v : World). v.callbacks) here;
          whole = here;
        }

    -- the world after the step
    pub advanced : HasAdvanced w ticks now first count (world_after w (step w left who (Advance ticks)))
    unfolding advance_plan
    advanced =
        let a = accepted in
        advanced_to (world_after w (step w left who (Advance ticks)))
        (ap (λ r. world_after w (within w left (stepped w (unless_refused r (fire w (next_number_in w) (trigger.Advance (w.now + ticks)) (Advanced (w.now + ticks))))))) a.unrefused
        ∙ ap (λ b. world_after w (cond b (Full left (cost w becomes)) (Accepted says becomes))) a.paid)

    -- and behind the entry
    pub advanced_behind : HasAdvanced w ticks now first count (led_to w (record { who = who; call = Advance ticks; answer = Advanced now first count }))
    unfolding advance_plan
    advanced_behind =
        advanced_to (led_to w (record { who = who; call = Advance ticks; answer = Advanced now first count }))
        (ap (λ r. led_by w (change_of (unless_refused r (fire w (next_number_in w) (trigger.Advance (w.now + ticks)) (Advanced (w.now + ticks)))))) accepted.unrefused)
