-- What an engine does by the plan of a call meets the step.
use Rattle.std.proofs.Common.{◌≡◌, ℕ, ◌+◌, Bool, true, false, cond, nat_le, nat_lt, Option, None, Some, refl, sym, ap, ◌∙◌, subst, ltb-false}
use Rattle.std.proofs.lemmas.Bool.{ltb-true}
use Rattle.tp_base.specs.declared.ids.Who.{Who}
use Rattle.tp_base.specs.declared.calls.Call.{Call}
use Rattle.tp_base.specs.declared.calls.Call.TheVariants.{Take}
use Rattle.tp_base.specs.declared.answers.Answer.{Answer}
use Rattle.tp_base.specs.declared.answers.Answer.TheVariants as answer
use Rattle.tp_base.specs.declared.answers.Refusal.{Refusal}
use Rattle.tp_base.specs.declared.answers.Look.{Look}
use Rattle.tp_base.specs.declared.answers.Look.TheVariants as look
use Rattle.tp_base.specs.declared.answers.Outcome.{Outcome}
use Rattle.tp_base.specs.declared.answers.Outcome.TheVariants as outcome
use Rattle.tp_base.specs.declared.plans.Change.{Change}
use Rattle.tp_base.specs.declared.plans.Change.TheVariants as change
use Rattle.tp_base.specs.declared.plans.Idle.{Idle}
use Rattle.tp_base.specs.declared.plans.Plan.{Plan}
use Rattle.tp_base.specs.declared.plans.Plan.TheVariants as plan
use Rattle.tp_base.specs.declared.rows.CallbackRow.{CallbackRow}
use Rattle.tp_model.specs.Calls.Workers.{idle_refusals, take, take_callback, take_plan}
use Rattle.tp_model.specs.Changes.{changed}
use Rattle.tp_model.specs.Conditions.{idle_of}
use Rattle.tp_model.specs.Counts.{maximum, next, running}
use Rattle.tp_model.specs.Refusing.{first_refusal, unless_refused}
use Rattle.tp_model.specs.World.{World}
use Rattle.tp_model.specs.Step.{Full, Refused, unless_full, outcome_of}
use Rattle.tp_model.specs.Table.{step, plan_at}
use Rattle.tp_model.specs.Support.Allowed.{price}
use Rattle.tp_model.specs.Support.Sound.{IsSound}
use Rattle.tp_model.specs.Support.Remembered.{Remembered, StandsFor, Meets, remembered_in}
use Rattle.tp_model.proofs.Steps.{goes_refused, goes_looked, goes_full, goes_done}
use Rattle.tp_model.proofs.Remembered.{meets}
use Rattle.live_world.specs.Steps.{is_take}
use Rattle.pool_core.specs.Entered.{outcome_of_entry, after_entry}

module _ (e : Remembered) (w : World) (room : ℕ) (who : Who) (call : Call) where
  pub meets_looked : (look : Look) → plan_at e.world (e.made + 1) room who call ≡ plan.Looked look → StandsFor e w → Meets e e w (step w room who call) (outcome.Look look)
  meets_looked look is stands = meets e e w room who call (outcome.Look look) (goes_looked e room who call look (outcome.Look look) is refl) stands

  pub meets_refused : (refusal : Refusal) (told : Outcome) → plan_at e.world (e.made + 1) room who call ≡ plan.Refused refusal
      → told ≡ outcome_of_entry room (answer.Refused refusal) 1 → StandsFor e w → Meets e e w (step w room who call) told
  meets_refused refusal told is tells stands =
      let says : outcome_of_entry room (answer.Refused refusal) 1 ≡ outcome_of (unless_full room 1 (Refused refusal))
      = elim (nat_lt room 1) as (λ b. cond b (outcome.Full room 1) (outcome.Done (answer.Refused refusal)) ≡ outcome_of (cond b (Full room 1) (Refused refusal))) [ true ↦ refl | false ↦ refl ] in
      meets e e w room who call told (goes_refused e room who call refusal told is (tells ∙ says)) stands

  pub meets_done : (new : Remembered) (answer : Answer) (change : Change) (told : Outcome) → IsSound (e.made + 1) e.world → plan_at e.world (e.made + 1) room who call ≡ plan.Does answer change
      → told ≡ outcome_of_entry room answer (price change) → new ≡ after_entry e room change → StandsFor e w → Meets e new w (step w room who call) told
  meets_done new answer change told sound is =
      elim (nat_lt room (price change)) as (λ b. nat_lt room (price change) ≡ b → told ≡ cond b (outcome.Full room (price change)) (outcome.Done answer) → new ≡ cond b e (remembered_in e (changed e.world change)) → StandsFor e w → Meets e new w (step w room who call) told) [
        | true ↦ λ short tells keeps stands.
            subst (λ x. Meets e x w (step w room who call) told) (sym keeps)
            (meets e e w room who call told (goes_full e room who call answer change told sound is (ltb-true room (price change) short) tells) stands)
        | false ↦ λ fits tells keeps stands.
            meets e new w room who call told (goes_done e room who call answer change new told sound is (ltb-false room (price change) fits) tells keeps) stands
      ] refl

-- ---- the change of a Take

-- a plan that is accepted has the change of a Take
abbrev does_take : Plan → Bool
does_take (plan.Does answer change) = is_take change
does_take (plan.Looked look) = true
does_take (plan.Refused refusal) = true

take_callback_takes : (w : World) (by : Idle) (callback : Option CallbackRow) → does_take (take_callback w by callback) ≡ true
take_callback_takes w by None = refl
take_callback_takes w by (Some c) = full (nat_le (maximum w by.pool.0) (running w by.pool.0))
  where
    full : (b : Bool) → does_take (cond b (plan.Looked (look.AtMaximum (running w by.pool.0))) (plan.Does (answer.Taken c.number c.object c.routine c.context c.result) (change.Take by c))) ≡ true
    full true = refl
    full false = refl

take_takes : (w : World) (by : Option Idle) → does_take (take w by) ≡ true
take_takes w None = refl
take_takes w (Some by) = take_callback_takes w by (next w by.pool.0 by.persistent)

take_plan_takes : (w : World) (who : Who) → does_take (take_plan w who) ≡ true
unfolding take_plan
take_plan_takes w who = unless (first_refusal (idle_refusals w who))
  where
    unless : (r : Option Refusal) → does_take (unless_refused r (take w (idle_of w who))) ≡ true
    unless None = take_takes w (idle_of w who)
    unless (Some refusal) = refl

pub takes : (w : World) (next_number room : ℕ) (who : Who) (call : Call) (answer : Answer) (change : Change) → call ≡ Take → plan_at w next_number room who call ≡ plan.Does answer change → is_take change ≡ true
takes w next_number room who call answer change is does =
    sym (ap does_take does) ∙ ap (λ k. does_take (plan_at w next_number room who k)) is ∙ take_plan_takes w who
