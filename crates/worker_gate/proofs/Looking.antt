-- What comes to a look: the end of a wait where the machine isn't stalled, and besides no call of a client or of a callback.
use Rattle.std.proofs.Common.{◌≡◌, ℕ, Bool, true, false, cond, nat_lt, Option, None, Some, refl, sym, ap, ◌∙◌}
use Rattle.tp_base.specs.declared.answers.Answer.TheVariants as answer
use Rattle.tp_base.specs.declared.answers.Outcome.{Outcome}
use Rattle.tp_base.specs.declared.answers.Outcome.TheVariants as outcome
use Rattle.tp_base.specs.declared.answers.Refusal.{Refusal}
use Rattle.tp_base.specs.declared.calls.Call.{Call}
use Rattle.tp_base.specs.declared.calls.Call.TheVariants.{BeginAcquire, BeginClose, BeginWait, End}
use Rattle.tp_base.specs.declared.ids.Who.{Who}
use Rattle.tp_base.specs.declared.plans.Change.{Change}
use Rattle.tp_base.specs.declared.plans.Change.TheVariants as change
use Rattle.tp_base.specs.declared.plans.Plan.{Plan}
use Rattle.tp_base.specs.declared.plans.Plan.TheVariants as plans
use Rattle.tp_base.specs.declared.plans.WaitEnd.TheVariants as how
use Rattle.tp_model.specs.Calls.End.{end_plan, end_refusals, end_unless_stalled}
use Rattle.tp_model.specs.Calls.Groups.{begin_close_plan}
use Rattle.tp_model.specs.Calls.Waits.{begin_acquire_plan, begin_wait_plan, end_wait}
use Rattle.tp_model.specs.Changes.{changed}
use Rattle.tp_model.specs.Conditions.{is_in_wait}
use Rattle.tp_model.specs.Refusing.{first_refusal, unless_refused}
use Rattle.tp_model.specs.Stalled.{is_look, is_stalled, waits_on}
use Rattle.tp_model.specs.Step.{Accepted, Full, Refused, cost, outcome_of, stepped, within}
use Rattle.tp_model.specs.Table.{plan, step}
use Rattle.tp_model.specs.Waits.{wait_of}
use Rattle.tp_model.specs.World.{World}
use Rattle.worker_gate.specs.Rounds.{begins_wait}
use Rattle.worker_gate.proofs.Quiet.{is_held, step_quiet, IsQuiet}

abbrev pub looks : Outcome → Bool
looks (outcome.Look seen) = true
looks _ = false

-- only a plan that looks comes to a look
looks_by : (w : World) (room : ℕ) (p : Plan) → looks (outcome_of (within w room (stepped w p))) ≡ is_look p
looks_by w room (plans.Refused refusal) = elim (nat_lt room 1) as (λ b. looks (outcome_of (cond b (Full room 1) (Refused refusal))) ≡ false) [ true ↦ refl | false ↦ refl ]
looks_by w room (plans.Looked seen) = refl
looks_by w room (plans.Does a ch) =
    elim (nat_lt room (cost w (changed w ch))) as (λ b. looks (outcome_of (cond b (Full room (cost w (changed w ch))) (Accepted a (changed w ch)))) ≡ false) [ true ↦ refl | false ↦ refl ]

-- ---- the end of a wait

-- it looks: the wait can't end yet, and the machine isn't stalled
pub record StillWaits (w : World) (room : ℕ) (who : Who) : Type 0 where
  pub waits : waits_on w room who ≡ true
  pub unstalled : is_stalled w room ≡ false

module _ (w : World) (room : ℕ) (who : Who) where
  still_by : (refusal : Option Refusal) (p : Plan) (stalled : Bool) → is_stalled w room ≡ stalled → is_look (unless_refused refusal (end_unless_stalled w room who p)) ≡ true → (is_look p ≡ true) × (is_stalled w room ≡ false)
  still_by (Some refusal) p stalled is looked = absurd (cc)
  still_by None (plans.Refused refusal) stalled is looked = absurd (cc)
  still_by None (plans.Does a ch) stalled is looked = absurd (cc)
  still_by None (plans.Looked seen) false is looked = (refl, is)
  still_by None (plans.Looked seen) true is looked =
      let e : false ≡ true = sym (ap (λ (b : Bool). is_look (cond b (plans.Does answer.Stalled (change.EndWait who how.Stalled)) (plans.Looked seen))) is) ∙ looked in
      absurd (cc)

  still_in : is_look (end_plan w room who) ≡ true → StillWaits w room who
  unfolding end_plan
  still_in looked =
      let parts = still_by (first_refusal (end_refusals w who)) (end_wait w room who (wait_of w who)) (is_stalled w room) refl looked in
      record { waits = parts.0; unstalled = parts.1 }

  pub still_waits : looks (outcome_of (step w room who End)) ≡ true → StillWaits w room who
  still_waits looked = still_in (sym (looks_by w room (plan w room who End)) ∙ looked)

-- ---- other calls

makes : (refusal : Option Refusal) (a : _) (ch : Change) → is_look (unless_refused refusal (plans.Does a ch)) ≡ false
makes None a ch = refl
makes (Some refusal) a ch = refl

quiet_looks : (o : Outcome) → IsQuiet o → looks o ≡ false
quiet_looks (outcome.Done told) quiet = refl
quiet_looks (outcome.Look seen) quiet = absurd quiet
quiet_looks (outcome.Full room cost) quiet = refl

begins_look : (w : World) (room : ℕ) (who : Who) (made : Call) → begins_wait made ≡ true → is_look (plan w room who made) ≡ false
unfolding begin_wait_plan begin_acquire_plan begin_close_plan
begins_look w room who (BeginWait kind object cancel) begins = makes _ _ _
begins_look w room who (BeginAcquire kernel) begins = makes _ _ _
begins_look w room who (BeginClose group cancel context) begins = makes _ _ _
begins_look w room who _ begins = absurd (cc)

-- outside a wait a client's call comes to no look, and neither does that of a callback
pub never_looks : (w : World) (room : ℕ) (who : Who) (made : Call) → is_in_wait w who ≡ false → is_held w who ≡ true → looks (outcome_of (step w room who made)) ≡ false
never_looks w room who made free held = of_call (begins_wait made) refl
  where
    of_call : (b : Bool) → begins_wait made ≡ b → looks (outcome_of (step w room who made)) ≡ false
    of_call true begins = looks_by w room (plan w room who made) ∙ begins_look w room who made begins
    of_call false calm = quiet_looks (outcome_of (step w room who made)) (step_quiet w room who made calm free held)
