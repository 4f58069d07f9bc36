-- What a call that begins a wait comes to.
use Rattle.std.proofs.Common.{◌≡◌, ℕ, Bool, true, false, cond, not, ◌||◌, List, [], ◌∷◌, Option, Some, None, nat_lt, refl, sym, ap, ◌∙◌}
use Rattle.tp_base.specs.declared.answers.Answer.{Answer}
use Rattle.tp_base.specs.declared.answers.Answer.TheVariants as answer
use Rattle.tp_base.specs.declared.answers.Look.{Look}
use Rattle.tp_base.specs.declared.answers.Outcome.{Outcome}
use Rattle.tp_base.specs.declared.answers.Outcome.TheVariants as outcome
use Rattle.tp_base.specs.declared.answers.Refusal.{Refusal}
use Rattle.tp_base.specs.declared.calls.Call.{Call}
use Rattle.tp_base.specs.declared.calls.Call.TheVariants.{BeginAcquire, BeginClose, BeginWait}
use Rattle.tp_base.specs.declared.ids.KernelId.{KernelId}
use Rattle.tp_base.specs.declared.ids.Who.{Who}
use Rattle.tp_base.specs.declared.plans.Change.{Change}
use Rattle.tp_base.specs.declared.plans.Plan.TheVariants.{Does}
use Rattle.tp_model.specs.Calls.Groups.{begin_close_plan, begin_close_refusals}
use Rattle.tp_model.specs.Calls.Waits.{begin_acquire_plan, begin_acquire_refusals, begin_wait_plan, begin_wait_refusals}
use Rattle.tp_model.specs.Changes.{changed}
use Rattle.tp_model.specs.Conditions.{is_actor, is_in_wait, is_object}
use Rattle.tp_model.specs.Groups.{is_group}
use Rattle.tp_model.specs.Kernels.{is_kernel}
use Rattle.tp_model.specs.History.{is_refusal}
use Rattle.tp_model.specs.Refusing.{first_refusal, unless_refused}
use Rattle.tp_model.specs.Stages.{waits_step}
use Rattle.tp_model.specs.Step.{Accepted, Full, Refused, cost, outcome_of, stepped, within}
use Rattle.tp_model.specs.Table.{step}
use Rattle.tp_model.specs.World.{World}
use Rattle.tp_model.proofs.Refusals.{neither, none_holds, not_false}
use Rattle.shared_pool.specs.Waits.{is_begin}

-- no look; and what isn't refused has the plan's answer
record Comes (r : Option Refusal) (a : Answer) (told : Outcome) : Type 0 where
  pub no_look : (look : Look) → told ≡ outcome.Look look → ⊥
  pub done : (x : Answer) → told ≡ outcome.Done x → is_refusal x ≡ false → (r ≡ None) × (a ≡ x)

comes : (w : World) (left : ℕ) (r : Option Refusal) (a : Answer) (ch : Change) → Comes r a (outcome_of (within w left (stepped w (unless_refused r (Does a ch)))))
comes w left (Some refusal) a ch =
    elim (nat_lt left 1) as (λ b. Comes (Some refusal) a (outcome_of (cond b (Full left 1) (Refused refusal)))) [
      | true ↦ record { no_look = λ look e. absurd cc; done = λ x e taken. absurd cc }
      | false ↦ record { no_look = λ look e. absurd cc; done = λ x e taken. absurd (let same : answer.Refused refusal ≡ x = cc in refused_not x same taken) }
    ]
  where
    refused_not : (x : Answer) → answer.Refused refusal ≡ x → is_refusal x ≡ false → ⊥
    refused_not x same taken = let off : true ≡ false = ap is_refusal same ∙ taken in cc
comes w left None a ch =
    elim (nat_lt left (cost w (changed w ch))) as (λ b. Comes None a (outcome_of (cond b (Full left (cost w (changed w ch))) (Accepted a (changed w ch))))) [
      | true ↦ record { no_look = λ look e. absurd cc; done = λ x e taken. absurd cc }
      | false ↦ record { no_look = λ look e. absurd cc; done = λ x e taken. (refl, let same : a ≡ x = cc in same) }
    ]

abbrev NoneHolds : List (Bool × Refusal) → Type 0
NoneHolds [] = Unit {0}
NoneHolds (r ∷ rs) = (r.0 ≡ false) × NoneHolds rs

-- the call is never a look; where it is accepted, its actor is there, and its answer says that a wait is begun
pub record IsBeginning (w : World) (who : Who) (call : Call) (told : Outcome) : Type 0 where
  pub no_look : (look : Look) → told ≡ outcome.Look look → ⊥
  pub begins : (x : Answer) → told ≡ outcome.Done x → is_refusal x ≡ false → waits_step x call ≡ Some true
  pub actor : (x : Answer) → told ≡ outcome.Done x → is_refusal x ≡ false → is_actor w who ≡ true
  pub free : (kernel : KernelId) → call ≡ BeginAcquire kernel → (x : Answer) → told ≡ outcome.Done x → is_refusal x ≡ false → is_in_wait w who ≡ false

pub beginning : (w : World) (left : ℕ) (who : Who) (call : Call) → is_begin call ≡ true → IsBeginning w who call (outcome_of (step w left who call))
unfolding begin_wait_plan begin_close_plan begin_acquire_plan
beginning w left who (BeginWait kind object cancel) is =
    let c = comes w left (first_refusal (begin_wait_refusals w who kind object.0)) _ _ in
    record {
      no_look = c.no_look;
      begins = λ x e taken. ap (λ a. waits_step a (BeginWait kind object cancel)) (sym (c.done x e taken).1);
      actor = λ x e taken. not_false (is_actor w who) (neither (not (is_actor w who)) (not (is_object w object.0)) (none_holds (begin_wait_refusals w who kind object.0) (c.done x e taken).0).0).0;
      free = λ kernel same. absurd cc;
    }
beginning w left who (BeginClose group cancel context) is =
    let c = comes w left (first_refusal (begin_close_refusals w who group.0)) _ _ in
    record {
      no_look = c.no_look;
      begins = λ x e taken. ap (λ a. waits_step a (BeginClose group cancel context)) (sym (c.done x e taken).1);
      actor = λ x e taken. not_false (is_actor w who) (neither (not (is_actor w who)) (not (is_group w group.0)) (none_holds (begin_close_refusals w who group.0) (c.done x e taken).0).0).0;
      free = λ kernel same. absurd cc;
    }
beginning w left who (BeginAcquire kernel) is =
    let c = comes w left (first_refusal (begin_acquire_refusals w who kernel.0)) _ _ in
    record {
      no_look = c.no_look;
      begins = λ x e taken. ap (λ a. waits_step a (BeginAcquire kernel)) (sym (c.done x e taken).1);
      actor = λ x e taken. not_false (is_actor w who) (neither (not (is_actor w who)) (not (is_kernel w kernel.0)) (none_holds (begin_acquire_refusals w who kernel.0) (c.done x e taken).0).0).0;
      free = λ other same x e taken. (none_holds (begin_acquire_refusals w who kernel.0) (c.done x e taken).0).1.1.1.0;
    }
beginning w left who _ is = absurd cc
