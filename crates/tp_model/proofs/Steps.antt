-- The step where the plan is known.
use Rattle.std.proofs.Common.{◌≡◌, ℕ, ◌+◌, ◌<◌, ◌≤◌, true, false, cond, nat_lt, refl, sym, ap, ◌∙◌, subst, arith, lt-ltb, le-ltb}
use Rattle.tp_base.specs.declared.ids.Who.{Who}
use Rattle.tp_base.specs.declared.calls.Call.{Call}
use Rattle.tp_base.specs.declared.answers.Answer.{Answer}
use Rattle.tp_base.specs.declared.answers.Refusal.{Refusal}
use Rattle.tp_base.specs.declared.answers.Look.{Look}
use Rattle.tp_base.specs.declared.answers.Outcome.{Outcome}
use Rattle.tp_base.specs.declared.answers.Outcome.TheVariants as outcome
use Rattle.tp_base.specs.declared.plans.Change.{Change}
use Rattle.tp_base.specs.declared.plans.Plan.TheVariants as plan
use Rattle.tp_model.specs.World.{World}
use Rattle.tp_model.specs.Changes.{changed}
use Rattle.tp_model.specs.Step.{Step, Accepted, Refused, Looked, Full, stepped, unless_full, within, cost, outcome_of}
use Rattle.tp_model.specs.Table.{plan_at}
use Rattle.tp_model.specs.Support.Sound.{IsSound}
use Rattle.tp_model.specs.Support.Allowed.{IsAllowed, price}
use Rattle.tp_model.specs.Support.Safe.{IsSafe, IsSafeChange}
use Rattle.tp_model.specs.Support.Remembered.{Remembered, Goes, step_of, remembered_in, remembered_after}
use Rattle.tp_model.proofs.Costs.{paid}
use Rattle.tp_model.proofs.Calls.{plan_safe}

pub not_full : (room cost : ℕ) (s : Step) → cost ≤ room → unless_full room cost s ≡ s
not_full room cost s fits = ap (λ b. cond b (Full room cost) s) (le-ltb room cost fits)

is_full : (room cost : ℕ) (s : Step) → room < cost → unless_full room cost s ≡ Full room cost
is_full room cost s short = ap (λ b. cond b (Full room cost) s) (lt-ltb room cost short)

-- the change that a plan asks for is allowed
pub plan_allowed : (next_number room : ℕ) (w : World) (who : Who) (call : Call) (answer : Answer) (ch : Change) → IsSound next_number w → plan_at w next_number room who call ≡ plan.Does answer ch → IsSafeChange next_number w who call answer ch
plan_allowed next_number room w who call answer ch s is = subst (IsSafe next_number w who call) is (plan_safe next_number room w who call s)

-- and costs its price
pub cost_is : (next_number : ℕ) (w : World) (ch : Change) → IsSound next_number w → IsAllowed next_number w ch → cost w (changed w ch) ≡ price ch
cost_is next_number w ch s a = omega (arith, paid next_number w ch s a)

module _ (e : Remembered) (room : ℕ) (who : Who) (call : Call) where
  -- the outcome of a refusal
  pub goes_refused : (refusal : Refusal) (told : Outcome) → plan_at e.world (e.made + 1) room who call ≡ plan.Refused refusal → told ≡ outcome_of (unless_full room 1 (Refused refusal)) → Goes e e (step_of e room who call) told
  goes_refused refusal told is says =
      let same : step_of e room who call ≡ unless_full room 1 (Refused refusal) = ap (λ p. within e.world room (stepped e.world p)) is in
      record { tells = says ∙ ap outcome_of (sym same); keeps = kept ∙ ap (remembered_after e) (sym same) }
    where
      kept : e ≡ remembered_after e (unless_full room 1 (Refused refusal))
      kept = elim (nat_lt room 1) as (λ b. e ≡ remembered_after e (cond b (Full room 1) (Refused refusal))) [ true ↦ refl | false ↦ refl ]

  pub goes_looked : (look : Look) (told : Outcome) → plan_at e.world (e.made + 1) room who call ≡ plan.Looked look → told ≡ outcome.Look look → Goes e e (step_of e room who call) told
  goes_looked look told is says =
      let same : step_of e room who call ≡ Looked look = ap (λ p. within e.world room (stepped e.world p)) is in
      record { tells = says ∙ ap outcome_of (sym same); keeps = ap (remembered_after e) (sym same) }

  -- the step of a change, with its price
  priced : (answer : Answer) (ch : Change) → IsSound (e.made + 1) e.world → plan_at e.world (e.made + 1) room who call ≡ plan.Does answer ch → step_of e room who call ≡ unless_full room (price ch) (Accepted answer (changed e.world ch))
  priced answer ch s is =
      ap (λ p. within e.world room (stepped e.world p)) is
      ∙ ap (λ n. unless_full room n (Accepted answer (changed e.world ch))) (cost_is (e.made + 1) e.world ch s (plan_allowed (e.made + 1) room e.world who call answer ch s is).allowed)

  pub goes_full : (answer : Answer) (ch : Change) (told : Outcome) → IsSound (e.made + 1) e.world → plan_at e.world (e.made + 1) room who call ≡ plan.Does answer ch → room < price ch → told ≡ outcome.Full room (price ch) → Goes e e (step_of e room who call) told
  goes_full answer ch told s is short says =
      let same : step_of e room who call ≡ Full room (price ch) = priced answer ch s is ∙ is_full room (price ch) (Accepted answer (changed e.world ch)) short in
      record { tells = says ∙ ap outcome_of (sym same); keeps = ap (remembered_after e) (sym same) }

  pub goes_done : (answer : Answer) (ch : Change) (new : Remembered) (told : Outcome) → IsSound (e.made + 1) e.world → plan_at e.world (e.made + 1) room who call ≡ plan.Does answer ch → price ch ≤ room → told ≡ outcome.Done answer → new ≡ remembered_in e (changed e.world ch)
      → Goes e new (step_of e room who call) told
  goes_done answer ch new told s is fits says keeps =
      let same : step_of e room who call ≡ Accepted answer (changed e.world ch) = priced answer ch s is ∙ not_full room (price ch) (Accepted answer (changed e.world ch)) fits in
      record { tells = says ∙ ap outcome_of (sym same); keeps = keeps ∙ ap (remembered_after e) (sym same) }
