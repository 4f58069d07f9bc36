-- What is asked for each call that an old call comes to: it never looks, and costs no more than its row says.
use Rattle.std.proofs.Common.{◌≡◌, ℕ, ◌+◌, ◌≤◌, Bool, true, false, cond, [], ◌∷◌, length, nat_lt, Option, None, Some, refl, sym, ap, ap₂, ◌∙◌, subst, arith, length-append}
use Rattle.std.proofs.lemmas.Bool.{le-ltb}
use Rattle.tp_base.specs.declared.answers.Answer.{Answer}
use Rattle.tp_base.specs.declared.answers.Entry.{Entry}
use Rattle.tp_base.specs.declared.answers.Look.{Look}
use Rattle.tp_base.specs.declared.answers.Outcome.{Outcome}
use Rattle.tp_base.specs.declared.answers.Outcome.TheVariants as outcome
use Rattle.tp_base.specs.declared.answers.Refusal.{Refusal}
use Rattle.tp_base.specs.declared.calls.Call.{Call}
use Rattle.tp_base.specs.declared.ids.Who.{Who}
use Rattle.tp_base.specs.declared.plans.Change.{Change}
use Rattle.tp_base.specs.declared.plans.Plan.{Plan}
use Rattle.tp_base.specs.declared.plans.Plan.TheVariants.{Does, Looked, Refused}
use Rattle.tp_model.specs.Changes.{changed}
use Rattle.tp_model.specs.Counts.{owed}
use Rattle.tp_model.specs.History.{led_to, IsLegal}
use Rattle.tp_model.specs.Refusing.{unless_refused}
use Rattle.tp_model.specs.Step.{cost, outcome_of, stepped, within, Accepted, Full, Refused as refused}
use Rattle.tp_model.specs.Support.Allowed.{price}
use Rattle.tp_model.specs.Support.Sound.{IsSound}
use Rattle.tp_model.specs.Table.{plan, step}
use Rattle.tp_model.specs.World.{World, opening}
use Rattle.tp_model.proofs.Costs.{paid}
use Rattle.tp_model.proofs.Entries.{Accepts, Entered, entered, next_number_in, Refuses}
use Rattle.tp_model.proofs.Steps.{plan_allowed}
use Rattle.recorded.specs.Recordings.{made, outcome_behind, recorded, room_of, Recording, world_behind}
use Rattle.recorded.proofs.Histories.{after_append, sound_behind}
use Rattle.tp_legacy.specs.Whole.{is_done}
use Rattle.tp_legacy.proofs.Growing.{made_on}

-- the change costs no more than so much
abbrev pub CostsAtMost : ℕ → Plan → Type 0
CostsAtMost most (Does a ch) = price ch ≤ most
CostsAtMost most other = Unit {0}

abbrev pub NeverLooks : Plan → Type 0
NeverLooks (Looked look) = ⊥
NeverLooks other = Unit {0}

-- most plans are of this form
pub costs : (r : Option Refusal) (a : Answer) (ch : Change) (most : ℕ) → price ch ≤ most → CostsAtMost most (unless_refused r (Does a ch))
costs (Some refusal) a ch most h = tt
costs None a ch most h = h

pub never : (r : Option Refusal) (a : Answer) (ch : Change) → NeverLooks (unless_refused r (Does a ch))
never (Some refusal) a ch = tt
never None a ch = tt

pub looks_or_costs : (b : Bool) (look : Look) (a : Answer) (ch : Change) (most : ℕ) → price ch ≤ most → CostsAtMost most (cond b (Looked look) (Does a ch))
looks_or_costs true look a ch most h = tt
looks_or_costs false look a ch most h = h

-- ---- such a call is answered

done_or_full : (full : Bool) (left price : ℕ) (a : Answer) (w : World) → full ≡ false → is_done (outcome_of (cond full (Full left price) (Accepted a w))) ≡ true
done_or_full true left price a w e = absurd cc
done_or_full false left price a w e = refl

done_or_refused : (full : Bool) (left : ℕ) (refusal : Refusal) → full ≡ false → is_done (outcome_of (cond full (Full left 1) (refused refusal))) ≡ true
done_or_refused true left refusal e = absurd cc
done_or_refused false left refusal e = refl

module _ (w : World) (left : ℕ) (who : Who) (call : Call) (sound : IsSound (next_number_in w) w) (most : ℕ) (one : 1 ≤ most) (room : most ≤ left) where
  of_plan : (p : Plan) → plan w left who call ≡ p → NeverLooks p → CostsAtMost most p → is_done (outcome_of (within w left (stepped w p))) ≡ true
  of_plan (Does a ch) is looks costs =
      let spent : 1 + owed (changed w ch) ≡ owed w + price ch = paid (next_number_in w) w ch sound (plan_allowed (next_number_in w) left w who call a ch sound is).allowed in
      done_or_full (nat_lt left (cost w (changed w ch))) left (cost w (changed w ch)) a (changed w ch) (le-ltb left (cost w (changed w ch)) (omega (arith, spent, costs, room)))
  of_plan (Refused refusal) is looks costs = done_or_refused (nat_lt left 1) left refusal (le-ltb left 1 (omega (arith, one, room)))
  of_plan (Looked look) is looks costs = absurd looks

  pub done_within : NeverLooks (plan w left who call) → CostsAtMost most (plan w left who call) → is_done (outcome_of (step w left who call)) ≡ true
  done_within = of_plan (plan w left who call) refl

-- ---- what it leaves of the room

module _ (r : Recording) (legal : IsLegal r.limits r.capacity r.history) (who : Who) (call : Call) (most : ℕ) (one : 1 ≤ most) (costs_most : CostsAtMost most (plan (world_behind r) (room_of r) who call)) where
  w : World
  w = world_behind r

  owed_most : (entry : Entry) → entry.who ≡ who → entry.call ≡ call → Entered w (room_of r) entry → 1 + owed (led_to w entry) ≤ owed w + most
  unfolding w
  owed_most entry by made (Accepts e) =
      let here : plan w (room_of r) who call ≡ Does entry.answer e.change = ap₂ (λ x c. plan w (room_of r) x c) (sym by) (sym made) ∙ e.plan_is in
      let few : price e.change ≤ most = subst (CostsAtMost most) here costs_most in
      omega (arith, ap owed e.leads, paid (next_number_in w) w e.change (sound_behind r legal) e.safe.allowed, few)
  owed_most entry by made (Refuses refusal same stays) = omega (arith, ap owed stays, one)

  pub room_left : (a : Answer) → outcome_behind r who call ≡ outcome.Done a → room_of r ≤ room_of (made r (who, call)) + most
  unfolding w
  room_left a told =
      let entry : Entry = record { who = who; call = call; answer = a } in
      let next : Recording = recorded r who call (outcome.Done a) in
      let led : world_behind next ≡ led_to w entry = after_append (opening r.limits) r.history (entry ∷ []) in
      let spent : 1 + owed (world_behind next) ≤ owed w + most = subst (λ v. 1 + owed v ≤ owed w + most) (sym led) (owed_most entry refl refl (entered w (room_of r) entry (sound_behind r legal) told)) in
      let size : length next.history ≡ length r.history + 1 = length-append r.history (entry ∷ []) in
      let left : room_of r ≤ room_of next + most = omega (arith, spent, size) in
      subst (λ o. room_of r ≤ room_of (recorded r who call o) + most) (sym told) left

-- ---- both

pub record IsAnswered (r : Recording) (who : Who) (call : Call) (most : ℕ) : Type 0 where
  pub done : is_done (outcome_behind r who call) ≡ true
  pub room : room_of r ≤ room_of (made r (who, call)) + most
  pub legal : IsLegal (made r (who, call)).limits (made r (who, call)).capacity (made r (who, call)).history

pub answered : (r : Recording) → IsLegal r.limits r.capacity r.history → (who : Who) (call : Call) (most : ℕ) → 1 ≤ most → most ≤ room_of r
    → NeverLooks (plan (world_behind r) (room_of r) who call) → CostsAtMost most (plan (world_behind r) (room_of r) who call) → IsAnswered r who call most
answered r legal who call most one room looks costs = of_outcome (outcome_behind r who call) refl
  where
    done : is_done (outcome_behind r who call) ≡ true
    done = done_within (world_behind r) (room_of r) who call (sound_behind r legal) most one room looks costs

    of_outcome : (told : Outcome) → outcome_behind r who call ≡ told → IsAnswered r who call most
    of_outcome (outcome.Done a) is = record { done = done; room = room_left r legal who call most one costs a is; legal = (made_on r legal who call (outcome_behind r who call) refl).goes_on.legal }
    of_outcome (outcome.Look look) is = let no : ⊥ = cc (sym (ap is_done is) ∙ done) in absurd no
    of_outcome (outcome.Full room cost) is = let no : ⊥ = cc (sym (ap is_done is) ∙ done) in absurd no
