use Rattle.std.proofs.Common.{◌≡◌, ℕ, ◌+◌, ◌<◌, ◌≤◌, ◌^◌, Some, refl, sym, ap, ◌∙◌, subst, arith, rules}
use Rattle.tp_base.specs.declared.ids.Who.{Who}
use Rattle.tp_base.specs.declared.calls.Call.{Call}
use Rattle.tp_base.specs.declared.plans.Change.{Change}
use Rattle.tp_base.specs.declared.plans.Plan.{Plan}
use Rattle.tp_base.specs.declared.plans.Plan.TheVariants as plan
use Rattle.tp_base.specs.declared.answers.Answer.{Answer}
use Rattle.tp_base.specs.declared.answers.Look.{Look}
use Rattle.tp_base.specs.declared.answers.Refusal.{Refusal}
use Rattle.tp_base.specs.declared.answers.Outcome.{Outcome}
use Rattle.tp_base.specs.declared.answers.Outcome.TheVariants as outcome
use Rattle.tp_base.specs.Ranges.{IsCallInRange, IsOutcomeInRange}
use Rattle.tp_model.specs.Table.{plan_at, step}
use Rattle.tp_model.specs.Support.Allowed.{price}
use Rattle.tp_model.specs.Support.Ranged.{IsPlanInRange}
use Rattle.tp_model.specs.Support.Sound.{IsSound}
use Rattle.tp_model.specs.Support.Remembered.{Remembered, Meets}
use Rattle.tp_model.proofs.Steps.{plan_allowed}
use Rattle.tp_model.proofs.Calls.{plan_ranged}
use Rattle.live_world.specs.Bounds.{IsBounded}
use Rattle.pool_plans.specs.Decided.{decided}
use Rattle.pool_core.specs.Entered.{unless_dear}
use Rattle.pool_plans.specs.declared.decisions.Decision.{Decision}
use Rattle.pool_plans.specs.declared.decisions.Decision.TheVariants.{Looked, Refused, Accepted}
use Rattle.pool_core.specs.View.{remembered, IsMachine}
use Rattle.pool_core.specs.declared.Engine.TheInside.{Inside}
use Rattle.pool_core.proofs.Counting.{taken_within}
use Rattle.pool_core.proofs.Stepping.{meets_looked, meets_refused, meets_done, takes}
use Rattle.pool_core.proofs.Engine.settle.Goals as goal

-- ---- the plan is what was decided

looked : (p : Plan) (told : Outcome) (change : Change) (decision : Decision) (look : Look) → decided decision told change ≡ Some p → decision ≡ Looked look → p ≡ plan.Looked look
looked p told change decision look made found = let all = sym (ap (λ d. decided d told change) found) ∙ made in cc

refused : (p : Plan) (told : Outcome) (change : Change) (decision : Decision) (refusal : Refusal) → decided decision told change ≡ Some p → decision ≡ Refused refusal → p ≡ plan.Refused refusal
refused p told change decision refusal made found = let all = sym (ap (λ d. decided d told change) found) ∙ made in cc

-- the answer was written down as the outcome
record IsAnswered (p : Plan) (told : Outcome) (change : Change) : Type 0 where
  answer : Answer
  told_is : told ≡ outcome.Done answer
  does : p ≡ plan.Does answer change

answered : (p : Plan) (told : Outcome) (change : Change) (decision : Decision) → decided decision told change ≡ Some p → decision ≡ Accepted → IsAnswered p told change
answered p told change decision made found = written told (sym (ap (λ d. decided d told change) found) ∙ made)
  where
    written : (o : Outcome) → decided Accepted o change ≡ Some p → IsAnswered p o change
    written (outcome.Done answer) e = record { answer = answer; told_is = refl; does = cc }
    written (outcome.Look look) e = absurd cc
    written (outcome.Full room cost) e = absurd cc

-- ---- what follows

-- it can be reached
sound : (i : Inside) (e : Remembered) → remembered i ≡ e → IsSound (i.live.made + 1) i.live.world → IsSound (e.made + 1) e.world
sound i e same s = subst (λ (r : Remembered). IsSound (r.made + 1) r.world) same s

-- the plan's numbers are in range
ranged : (i : Inside) (e : Remembered) (room : ℕ) (who : Who) (call : Call) → remembered i ≡ e → IsMachine i → e.age < 2 ^ 47 → IsSound (i.live.made + 1) i.live.world → IsBounded i.live.world → IsCallInRange call
    → IsPlanInRange (plan_at e.world (e.made + 1) room who call)
ranged i e room who call same k young s b in_range =
    let few : i.live.made + 1 + 65536 ≤ 2 ^ 64 = omega (arith, k.few_made, young, ap (λ (r : Remembered). r.age) same) in
    subst IsPlanInRange (ap (λ (r : Remembered). plan_at r.world (r.made + 1) room who call) same)
    (plan_ranged (i.live.made + 1) i.live.world few s (record { limits = b.limits; pools_least = b.pools_least; pools_most = b.pools_most; slots_most = taken_within i.live.world b; running_most = b.running_most; rows = k.rows }) room who call in_range)

pub refuse-requires : goal.refuse-requires
refuse-requires c =
    subst IsPlanInRange (refused _ c.args.outcome.now c.args.change.now c.args.decision c.in-Refused.refusal c.requires.plan c.in-Refused.is)
    (ranged c.self.inside c.args.self.now c.args.room c.args.who c.args.call c.self.view_is c.self.invariant c.requires.young c.is_reachable.ensures.sound c.is_reachable.ensures.bounded c.requires.in_range)

pub enter-requires-clause-allowed : goal.enter-requires-clause-allowed
enter-requires-clause-allowed c =
    let e = c.args.self.now in
    let a = answered _ c.args.outcome.now c.args.change.now c.args.decision c.requires.plan c.in-Accepted.is in
    (plan_allowed (e.made + 1) c.args.room e.world c.args.who c.args.call a.answer c.args.change.now (sound c.self.inside e c.self.view_is c.is_reachable.ensures.sound) a.does).allowed

pub enter-requires-clause-outcome_in_range : goal.enter-requires-clause-outcome_in_range
enter-requires-clause-outcome_in_range c =
    let a = answered _ c.args.outcome.now c.args.change.now c.args.decision c.requires.plan c.in-Accepted.is in
    subst IsOutcomeInRange (sym a.told_is)
    (subst IsPlanInRange a.does (ranged c.self.inside c.args.self.now c.args.room c.args.who c.args.call c.self.view_is c.self.invariant c.requires.young c.is_reachable.ensures.sound c.is_reachable.ensures.bounded c.requires.in_range)).0

pub enter-requires-clause-change_in_range : goal.enter-requires-clause-change_in_range
enter-requires-clause-change_in_range c =
    let a = answered _ c.args.outcome.now c.args.change.now c.args.decision c.requires.plan c.in-Accepted.is in
    (subst IsPlanInRange a.does (ranged c.self.inside c.args.self.now c.args.room c.args.who c.args.call c.self.view_is c.self.invariant c.requires.young c.is_reachable.ensures.sound c.is_reachable.ensures.bounded c.requires.in_range)).1

pub returns-in-Looked-clause-made : goal.returns-in-Looked-clause-made
returns-in-Looked-clause-made c =
    let is = looked _ c.args.outcome.now c.args.change.now c.args.decision c.in-Looked.look c.requires.plan c.in-Looked.is in
    record {
      meets = λ w stands. meets_looked c.args.self.now w c.args.room c.args.who c.args.call c.in-Looked.look is stands;
      in_range = subst IsPlanInRange is (ranged c.self.inside c.args.self.now c.args.room c.args.who c.args.call c.self.view_is c.self.invariant c.requires.young c.is_reachable.ensures.sound c.is_reachable.ensures.bounded c.requires.in_range);
    }

pub returns-after-call-clause-made : goal.returns-after-call-clause-made
returns-after-call-clause-made c =
    let same : c.match-call.self ≡ c.args.self.now = search rules in
    record {
      meets = λ w stands. subst (λ (e : Remembered). Meets c.args.self.now e w (step w c.args.room c.args.who c.args.call) c.refuse.result) (sym same)
          (meets_refused c.args.self.now w c.args.room c.args.who c.args.call c.in-Refused.refusal c.refuse.result
          (refused _ c.args.outcome.now c.args.change.now c.args.decision c.in-Refused.refusal c.requires.plan c.in-Refused.is) c.refuse.ensures.outcome stands);
      in_range = c.refuse.ensures.in_range;
    }

pub returns-in-Accepted-clause-made : goal.returns-in-Accepted-clause-made
returns-in-Accepted-clause-made c =
    let a = answered _ c.args.outcome.now c.args.change.now c.args.decision c.requires.plan c.in-Accepted.is in
    record {
      meets = λ w stands. meets_done c.args.self.now w c.args.room c.args.who c.args.call c.enter.new.self a.answer c.args.change.now c.enter.new.outcome
          (sound c.self.inside c.args.self.now c.self.view_is c.is_reachable.ensures.sound) a.does
          (c.enter.ensures.outcome ∙ ap (unless_dear c.args.room (price c.args.change.now)) a.told_is) c.enter.ensures.after stands;
      in_range = c.enter.ensures.in_range;
    }

pub returns-in-Accepted-clause-bound : goal.returns-in-Accepted-clause-bound
returns-in-Accepted-clause-bound c is =
    let e = c.args.self.now in
    let a = answered _ c.args.outcome.now c.args.change.now c.args.decision c.requires.plan c.in-Accepted.is in
    let takes_one = takes e.world (e.made + 1) c.args.room c.args.who c.args.call a.answer c.args.change.now is a.does in
    omega (arith, c.enter.ensures.bound takes_one)
