-- What the plans of an actor's own calls are where no refusal applies, and what they come to.
use Rattle.std.proofs.Common.{◌≡◌, ℕ, true, false, cond, not, List, [], ◌∷◌, nat_lt, Some, None, is_none, refl, sym, ap, ◌∙◌, subst, arith}
use Rattle.tp_base.specs.Kernels.{may_take}
use Rattle.tp_base.specs.declared.answers.Answer.{Answer}
use Rattle.tp_base.specs.declared.answers.Answer.TheVariants as answer
use Rattle.tp_base.specs.declared.answers.Look.TheVariants as look
use Rattle.tp_base.specs.declared.answers.Outcome.TheVariants as outcome
use Rattle.tp_base.specs.declared.answers.Refusal.TheVariants.{AlreadyAttached, InWait, NoSuch, NoWaitBegun, NotAttached, NotRunning, Released, StillRunning}
use Rattle.tp_base.specs.declared.calls.Call.{Call}
use Rattle.tp_base.specs.declared.calls.Call.TheVariants.{End}
use Rattle.tp_base.specs.declared.ids.ObjectId.{ObjectId}
use Rattle.tp_base.specs.declared.ids.Who.{Who}
use Rattle.tp_base.specs.declared.ids.Who.TheVariants.{Client, Worker}
use Rattle.tp_base.specs.declared.plans.Change.{Change}
use Rattle.tp_base.specs.declared.plans.Change.TheVariants as change
use Rattle.tp_base.specs.declared.plans.Plan.{Plan}
use Rattle.tp_base.specs.declared.plans.Plan.TheVariants as plans
use Rattle.tp_base.specs.declared.plans.WaitEnd.TheVariants as how
use Rattle.tp_base.specs.declared.rows.WaitTarget.{WaitTarget}
use Rattle.tp_base.specs.declared.rows.WaitTarget.TheVariants.{Group, Kernel, Object}
use Rattle.tp_model.specs.Calls.Clients.{finish, finish_plan}
use Rattle.tp_model.specs.Calls.Waits.{end_for, end_held, end_notices, end_wait, holds_starved}
use Rattle.tp_model.specs.Calls.End.{end_plan, end_unless_stalled}
use Rattle.tp_model.specs.Stalled.{is_stalled}
use Rattle.tp_model.specs.Calls.Workers.{attach_plan, attach_to, detach, detach_plan, idle_refusals, pool_to_join, return, return_plan, take, take_plan}
use Rattle.tp_model.specs.Changes.{changed}
use Rattle.tp_model.specs.Conditions.{busy_of, idle_of, is_actor, is_attached, is_finished, is_in_wait, is_without_callback, runs_callback}
use Rattle.tp_model.specs.Kernels.{is_kernel_that}
use Rattle.tp_model.specs.Refusing.{first_refusal, unless_refused}
use Rattle.tp_model.specs.Stages.{is_wait_answer, is_wait_look, is_wait_outcome}
use Rattle.tp_model.specs.Step.{Accepted, Full, outcome_of, cost, stepped, within}
use Rattle.tp_model.specs.Support.Allowed.{price}
use Rattle.tp_model.specs.Support.Sound.{IsSound}
use Rattle.tp_model.specs.Table.{plan, step}
use Rattle.tp_model.specs.Waits.{held, wait_of}
use Rattle.tp_model.specs.World.{BegunWait, World}
use Rattle.tp_model.proofs.Entries.{next_number_in}
use Rattle.tp_model.proofs.Steps.{cost_is, not_full, plan_allowed}

-- ---- what a plan comes to

module _ (w : World) (left : ℕ) (who : Who) (made : Call) (s : IsSound (next_number_in w) w) where
  -- a change without a price comes to its answer in every room
  pub free_done : (p : Plan) (a : Answer) (ch : Change) → plan w left who made ≡ p → p ≡ plans.Does a ch → price ch ≡ 0 → outcome_of (step w left who made) ≡ outcome.Done a
  free_done p a ch here is free =
      let there : plan w left who made ≡ plans.Does a ch = here ∙ is in
      let safe = plan_allowed (next_number_in w) left w who made a ch s there in
      let costs : cost w (changed w ch) ≡ 0 = cost_is (next_number_in w) w ch s safe.allowed ∙ free in
      ap (λ q. outcome_of (within w left (stepped w q))) there ∙ ap outcome_of (not_full left (cost w (changed w ch)) (Accepted a (changed w ch)) (omega (arith, costs)))

  -- of a plan that is no refusal, what is true of its answer
  abbrev pub IsTelling : (Answer → Type 0) → Plan → Type 0
  IsTelling Q (plans.Refused refusal) = ⊥
  IsTelling Q (plans.Looked look) = Unit {0}
  IsTelling Q (plans.Does a ch) = Q a

  pub telling : (Q : Answer → Type 0) (p : Plan) (told : Answer) → plan w left who made ≡ p → IsTelling Q p → outcome_of (step w left who made) ≡ outcome.Done told → Q told
  telling Q p told is tells e = of_plan p tells (sym (ap (λ q. outcome_of (within w left (stepped w q))) is) ∙ e)
    where
      of_plan : (q : Plan) → IsTelling Q q → outcome_of (within w left (stepped w q)) ≡ outcome.Done told → Q told
      of_plan (plans.Refused refusal) t h = absurd t
      of_plan (plans.Looked look) t h = absurd cc
      of_plan (plans.Does a ch) t h =
          elim (nat_lt left (cost w (changed w ch))) as (λ b. outcome_of (cond b (Full left (cost w (changed w ch))) (Accepted a (changed w ch))) ≡ outcome.Done told → Q told) [
            | true ↦ λ g. absurd cc
            | false ↦ λ g. let same : a ≡ told = cc in subst Q same t
          ] h

  -- of one that ends a wait, gives a notice or looks
  abbrev pub IsWaitPlan : Plan → Type 0
  IsWaitPlan (plans.Refused refusal) = ⊥
  IsWaitPlan (plans.Looked look) = is_wait_look look ≡ true
  IsWaitPlan (plans.Does a ch) = (is_wait_answer a ≡ true) × (price ch ≡ 0)

  pub waited : (p : Plan) → plan w left who made ≡ p → IsWaitPlan p → is_wait_outcome (outcome_of (step w left who made)) ≡ true
  waited (plans.Refused refusal) is h = absurd h
  waited (plans.Looked look) is h = ap (λ q. is_wait_outcome (outcome_of (within w left (stepped w q)))) is ∙ h
  waited (plans.Does a ch) is h = ap is_wait_outcome (free_done (plans.Does a ch) a ch is refl h.1) ∙ h.0

-- ---- plans without a refusal

pub finish_is : (w : World) (number : ℕ) → is_actor w (Client number) ≡ true → is_finished w (Client number) ≡ false → is_in_wait w (Client number) ≡ false → finish_plan w (Client number) ≡ plans.Does answer.Done (change.Finish number)
unfolding finish_plan
finish_is w number actor finished wait =
    ap (λ b. unless_refused (cond (not b) (Some NoSuch) (cond (is_finished w (Client number)) (Some Released) (cond (is_in_wait w (Client number)) (Some InWait) None))) (finish (Client number))) actor
    ∙ ap (λ b. unless_refused (cond b (Some Released) (cond (is_in_wait w (Client number)) (Some InWait) None)) (finish (Client number))) finished
    ∙ ap (λ b. unless_refused (cond b (Some InWait) None) (finish (Client number))) wait

pub return_is : (w : World) (next_number number : ℕ) → is_actor w (Worker number) ≡ true → runs_callback w (Worker number) ≡ true → is_in_wait w (Worker number) ≡ false → return_plan w next_number (Worker number) ≡ return w next_number (Worker number) (busy_of w (Worker number))
unfolding return_plan
return_is w next_number number actor runs wait =
    let rest : Plan = return w next_number (Worker number) (busy_of w (Worker number)) in
    ap (λ b. unless_refused (cond (not b) (Some NoSuch) (cond (not (runs_callback w (Worker number))) (Some NotRunning) (cond (is_in_wait w (Worker number)) (Some InWait) None))) rest) actor
    ∙ ap (λ b. unless_refused (cond (not b) (Some NotRunning) (cond (is_in_wait w (Worker number)) (Some InWait) None)) rest) runs
    ∙ ap (λ b. unless_refused (cond b (Some InWait) None) rest) wait

pub attach_is : (w : World) (number : ℕ) → is_actor w (Worker number) ≡ true → runs_callback w (Worker number) ≡ false → is_attached w (Worker number) ≡ false → attach_plan w (Worker number) ≡ attach_to (Worker number) (pool_to_join w)
unfolding attach_plan
attach_is w number actor runs free =
    let rest : Plan = attach_to (Worker number) (pool_to_join w) in
    ap (λ b. unless_refused (cond (not b) (Some NoSuch) (cond (runs_callback w (Worker number)) (Some StillRunning) (cond (is_attached w (Worker number)) (Some AlreadyAttached) None))) rest) actor
    ∙ ap (λ b. unless_refused (cond b (Some StillRunning) (cond (is_attached w (Worker number)) (Some AlreadyAttached) None)) rest) runs
    ∙ ap (λ b. unless_refused (cond b (Some AlreadyAttached) None) rest) free

idle_is : (w : World) (number : ℕ) (rest : Plan) → is_actor w (Worker number) ≡ true → runs_callback w (Worker number) ≡ false → is_attached w (Worker number) ≡ true
    → unless_refused (first_refusal (idle_refusals w (Worker number))) rest ≡ rest
idle_is w number rest actor runs attached =
    ap (λ b. unless_refused (cond (not b) (Some NoSuch) (cond (runs_callback w (Worker number)) (Some StillRunning) (cond (not (is_attached w (Worker number))) (Some NotAttached) None))) rest) actor
    ∙ ap (λ b. unless_refused (cond b (Some StillRunning) (cond (not (is_attached w (Worker number))) (Some NotAttached) None)) rest) runs
    ∙ ap (λ b. unless_refused (cond (not b) (Some NotAttached) None) rest) attached

pub take_is : (w : World) (number : ℕ) → is_actor w (Worker number) ≡ true → runs_callback w (Worker number) ≡ false → is_attached w (Worker number) ≡ true → take_plan w (Worker number) ≡ take w (idle_of w (Worker number))
unfolding take_plan
take_is w number actor runs attached = idle_is w number (take w (idle_of w (Worker number))) actor runs attached

pub detach_is : (w : World) (number : ℕ) → is_actor w (Worker number) ≡ true → runs_callback w (Worker number) ≡ false → is_attached w (Worker number) ≡ true → detach_plan w (Worker number) ≡ detach w (idle_of w (Worker number))
unfolding detach_plan
detach_is w number actor runs attached = idle_is w number (detach w (idle_of w (Worker number))) actor runs attached

pub end_is : (w : World) (left : ℕ) (who : Who) → is_actor w who ≡ true → is_finished w who ≡ false → is_without_callback w who ≡ false → is_none (wait_of w who) ≡ false → end_plan w left who ≡ end_unless_stalled w left who (end_wait w left who (wait_of w who))
unfolding end_plan
end_is w left who actor finished without waits =
    let rest : Plan = end_unless_stalled w left who (end_wait w left who (wait_of w who)) in
    ap (λ b. unless_refused (cond (not b) (Some NoSuch) (cond (is_finished w who) (Some Released) (cond (is_without_callback w who) (Some NotRunning) (cond (is_none (wait_of w who)) (Some NoWaitBegun) None)))) rest) actor
    ∙ ap (λ b. unless_refused (cond b (Some Released) (cond (is_without_callback w who) (Some NotRunning) (cond (is_none (wait_of w who)) (Some NoWaitBegun) None))) rest) finished
    ∙ ap (λ b. unless_refused (cond b (Some NotRunning) (cond (is_none (wait_of w who)) (Some NoWaitBegun) None)) rest) without
    ∙ ap (λ b. unless_refused (cond b (Some NoWaitBegun) None) rest) waits

-- a wait that is begun gives a notice, ends or looks
pub end_waits : (w : World) (left : ℕ) (who : Who) (s : IsSound (next_number_in w) w) (b : BegunWait) → IsWaitPlan w left who End s (end_unless_stalled w left who (end_wait w left who (Some b)))
end_waits w left who s b = of_plan (end_wait w left who (Some b)) (of_target b.target)
  where
    of_plan : (p : Plan) → IsWaitPlan w left who End s p → IsWaitPlan w left who End s (end_unless_stalled w left who p)
    of_plan (plans.Refused refusal) h = h
    of_plan (plans.Does a ch) h = h
    of_plan (plans.Looked seen) h =
        elim (is_stalled w left) as (λ t. IsWaitPlan w left who End s (cond t (plans.Does answer.Stalled (change.EndWait who how.Stalled)) (plans.Looked seen))) [ true ↦ (refl, refl) | false ↦ h ]

    of_notices : (os : List ObjectId) → IsWaitPlan w left who End s (end_notices w who b.cleanup os)
    of_notices [] = (refl, refl)
    of_notices (o ∷ os) = (refl, refl)

    of_held : (numbers : List ℕ) → IsWaitPlan w left who End s (end_held w left who b numbers)
    of_held [] = of_notices b.notices
    of_held (n ∷ ns) =
        elim (holds_starved w left (n ∷ ns)) as (λ t. IsWaitPlan w left who End s (cond t (plans.Does answer.Exhausted (change.EndWait who how.Exhausted)) (plans.Looked (look.NotYet n)))) [ true ↦ (refl, refl) | false ↦ refl ]

    of_target : (t : WaitTarget) → IsWaitPlan w left who End s (end_for w left who b t)
    of_target (Object object) = of_held (held w b)
    of_target (Group group) = of_held (held w b)
    of_target (Kernel kernel) =
        elim (is_kernel_that (may_take who) w kernel.0) as (λ t. IsWaitPlan w left who End s (cond t (plans.Does answer.Ended (change.EndWait who how.Free)) (plans.Looked (look.NotYetKernel kernel)))) [ true ↦ (refl, refl) | false ↦ refl ]
