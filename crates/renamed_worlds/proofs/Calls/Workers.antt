-- Calls of workers and clients, and of running callbacks on themselves, in a renamed world.
use Rattle.std.proofs.Common.{◌≡◌, ℕ, ◌||◌, ◌&&◌, ◌==◌, not, nat_lt, nat_le, Bool, true, false, cond, length, is_some, Option, Some, None, option_map, refl, sym, ap, ap₂, ◌∙◌}
use Rattle.std.specs.Option.{option_or}
use Rattle.tp_base.specs.Actions.{slot}
use Rattle.tp_base.specs.declared.answers.ActionKind.{ActionKind}
use Rattle.tp_base.specs.declared.answers.Answer.TheVariants as answer
use Rattle.tp_base.specs.declared.answers.Look.TheVariants as look
use Rattle.tp_base.specs.declared.ids.KernelId.{KernelId}
use Rattle.tp_base.specs.declared.ids.Who.{Who}
use Rattle.tp_base.specs.declared.ids.Who.TheVariants.{Client, Worker}
use Rattle.tp_base.specs.declared.plans.ActionWords.{ActionWords}
use Rattle.tp_base.specs.declared.plans.Busy.{Busy}
use Rattle.tp_base.specs.declared.plans.Change.TheVariants as change
use Rattle.tp_base.specs.declared.plans.Idle.{Idle}
use Rattle.tp_base.specs.declared.plans.Mark.TheVariants.{Long}
use Rattle.tp_base.specs.declared.plans.Plan.TheVariants.{Does, Looked}
use Rattle.tp_base.specs.declared.rows.CallbackRow.{CallbackRow}
use Rattle.tp_model.specs.World.{World}
use Rattle.tp_model.specs.Actions.{returning, slots_of, words_of}
use Rattle.tp_model.specs.Conditions.{busy_of, idle_of}
use Rattle.tp_model.specs.Counts.{is_below_minimum, is_in_need, maximum, minimum, next, running}
use Rattle.tp_model.specs.Calls.Clients.{finish, finish_plan, finish_refusals}
use Rattle.tp_model.specs.Calls.InCallback.{busy_refusals, disassociate, disassociate_plan, has_asked, has_spare, may_run_long, may_run_long_plan, on_return, on_return_plan, on_return_refusals}
use Rattle.tp_model.specs.Calls.Timers.{first_of}
use Rattle.tp_model.specs.Calls.Workers.{another_in_need, attach_plan, attach_refusals, attach_to, detach, detach_plan, idle_refusals, is_let_go, may_leave, pool_to_join, return, return_plan, return_refusals, take, take_callback, take_plan}
use Rattle.renamed_worlds.specs.Renamed.{renamed, renamed_busy, renamed_callback, renamed_plan, IsNaming}
use Rattle.renamed_worlds.proofs.Queries.{actor_renamed, attached_renamed, available_renamed, below_minimum_renamed, busy_renamed, busy_test, idle_renamed, idle_staff_renamed, in_need_renamed, in_wait_renamed, least_renamed, next_renamed, running_renamed, runs_renamed, staff_renamed, takeable_renamed}
use Rattle.renamed_worlds.proofs.Refusing.{unless_renamed}

-- the first number of so many callbacks
pub first_renamed : (name : ℕ → ℕ) → IsNaming name → (next_number count : ℕ) → first_of (name next_number) count ≡ name (first_of next_number count)
first_renamed name naming next_number count = elim (count == 0) as (λ b. cond b 0 (name next_number) ≡ name (cond b 0 next_number)) [ true ↦ sym naming.none | false ↦ refl ]

module _ (name : ℕ → ℕ) (naming : IsNaming name) (w : World) (who : Who) where
  abbrev u : World
  u = renamed name w

  -- ---- Attach

  join_renamed : pool_to_join u ≡ pool_to_join w
  join_renamed =
      ap₂ option_or (least_renamed name naming w (is_in_need u) (is_in_need w) (in_need_renamed name naming w))
      (least_renamed name naming w (is_below_minimum u) (is_below_minimum w) (below_minimum_renamed name naming w))

  pub attach_renamed : attach_plan u who ≡ renamed_plan name (attach_plan w who)
  unfolding attach_plan
  attach_renamed =
      unless_renamed name (attach_refusals u who) (attach_refusals w who) _ _
      (rw (actor_renamed name naming w who, runs_renamed name naming w who, attached_renamed name naming w who)) (ap (attach_to who) join_renamed ∙ joins who (pool_to_join w))
    where
      joins : (actor : Who) (pool : Option ℕ) → attach_to actor pool ≡ renamed_plan name (attach_to actor pool)
      joins (Worker number) (Some pool) = refl
      joins (Worker number) None = refl
      joins (Client number) pool = refl

  -- ---- Detach

  idle_refusals_renamed : idle_refusals u who ≡ idle_refusals w who
  idle_refusals_renamed = rw (actor_renamed name naming w who, runs_renamed name naming w who, attached_renamed name naming w who)

  another_renamed : (pool : ℕ) → another_in_need u pool ≡ another_in_need w pool
  another_renamed pool =
      ap is_some (least_renamed name naming w (λ other. not (other == pool) && is_in_need u other) (λ other. not (other == pool) && is_in_need w other) (λ other. ap (λ b. not (other == pool) && b) (in_need_renamed name naming w other)))

  leave_renamed : (by : Idle) → may_leave u by ≡ may_leave w by
  leave_renamed by =
      ap₂ (λ (a : ℕ) (b : Bool). is_let_go w by && (nat_lt (maximum w by.pool.0) a || b)) (staff_renamed name naming w by.pool.0)
      (ap₂ (λ (t : ℕ) (b : Bool). (t == 0) && b) (takeable_renamed name naming w by.pool.0 by.persistent)
      (ap₂ (λ (v : ℕ) (b : Bool). nat_lt (minimum w by.pool.0) v || b) (available_renamed name naming w by.pool.0) (another_renamed by.pool.0)))

  pub detach_renamed : detach_plan u who ≡ renamed_plan name (detach_plan w who)
  unfolding detach_plan
  detach_renamed = unless_renamed name (idle_refusals u who) (idle_refusals w who) _ _ idle_refusals_renamed (ap (detach u) (idle_renamed name naming w who) ∙ leaves (idle_of w who))
    where
      leaves : (by : Option Idle) → detach u by ≡ renamed_plan name (detach w by)
      leaves None = refl
      leaves (Some by) =
          ap (λ b. cond b (Does answer.Done (change.Detach by)) (Looked look.Stay)) (leave_renamed by)
          ∙ elim (may_leave w by) as (λ b. cond b (Does answer.Done (change.Detach by)) (Looked look.Stay) ≡ renamed_plan name (cond b (Does answer.Done (change.Detach by)) (Looked look.Stay))) [ true ↦ refl | false ↦ refl ]

  -- ---- Take

  take_callback_renamed : (by : Idle) (c : Option CallbackRow) → take_callback u by (option_map (renamed_callback name) c) ≡ renamed_plan name (take_callback w by c)
  take_callback_renamed by None = refl
  take_callback_renamed by (Some c) =
      ap (λ n. cond (nat_le (maximum w by.pool.0) n) (Looked (look.AtMaximum n)) (Does (answer.Taken (name c.number) c.object c.routine c.context c.result) (change.Take by (renamed_callback name c)))) (running_renamed name naming w by.pool.0)
      ∙ elim (nat_le (maximum w by.pool.0) (running w by.pool.0))
      as (λ b. cond b (Looked (look.AtMaximum (running w by.pool.0))) (Does (answer.Taken (name c.number) c.object c.routine c.context c.result) (change.Take by (renamed_callback name c)))
      ≡ renamed_plan name (cond b (Looked (look.AtMaximum (running w by.pool.0))) (Does (answer.Taken c.number c.object c.routine c.context c.result) (change.Take by c)))) [ true ↦ refl | false ↦ refl ]

  pub take_renamed : take_plan u who ≡ renamed_plan name (take_plan w who)
  unfolding take_plan
  take_renamed = unless_renamed name (idle_refusals u who) (idle_refusals w who) _ _ idle_refusals_renamed (ap (take u) (idle_renamed name naming w who) ∙ takes (idle_of w who))
    where
      takes : (by : Option Idle) → take u by ≡ renamed_plan name (take w by)
      takes None = refl
      takes (Some by) = ap (take_callback u by) (next_renamed name naming w by.pool.0 by.persistent) ∙ take_callback_renamed by (next w by.pool.0 by.persistent)

  -- ---- Return

  pub return_renamed : (next_number : ℕ) → return_plan u (name next_number) who ≡ renamed_plan name (return_plan w next_number who)
  unfolding return_plan
  return_renamed next_number =
      unless_renamed name (return_refusals u who) (return_refusals w who) _ _ (rw (actor_renamed name naming w who, runs_renamed name naming w who, in_wait_renamed name naming w who))
      (ap (return u (name next_number) who) (busy_renamed name naming w who) ∙ returns (busy_of w who))
    where
      returns : (by : Option Busy) → return u (name next_number) who (option_map (renamed_busy name) by) ≡ renamed_plan name (return w next_number who by)
      returns None = refl
      returns (Some by) =
          let words : ActionWords = words_of w who (slots_of by.callback.status) in
          let count : ℕ = length (returning w words (slots_of by.callback.status)).jobs in
          ap (λ first. Does (answer.Returned words.section words.mutex words.semaphore words.event first count) (change.Return (renamed_busy name by) words (name next_number) count)) (first_renamed name naming next_number count)

  -- ---- MayRunLong, Disassociate, OnReturn

  busy_refusals_renamed : busy_refusals u who ≡ busy_refusals w who
  busy_refusals_renamed = rw (actor_renamed name naming w who, runs_renamed name naming w who, in_wait_renamed name naming w who)

  spare_renamed : (pool : ℕ) → has_spare u pool ≡ has_spare w pool
  spare_renamed pool = ap₂ (λ (i a : ℕ). nat_lt 0 i || nat_lt a (maximum w pool)) (idle_staff_renamed name naming w pool) (staff_renamed name naming w pool)

  pub may_run_long_renamed : may_run_long_plan u who ≡ renamed_plan name (may_run_long_plan w who)
  unfolding may_run_long_plan
  may_run_long_renamed = unless_renamed name (busy_refusals u who) (busy_refusals w who) _ _ busy_refusals_renamed (ap (may_run_long u) (busy_renamed name naming w who) ∙ runs (busy_of w who))
    where
      runs : (by : Option Busy) → may_run_long u (option_map (renamed_busy name) by) ≡ renamed_plan name (may_run_long w by)
      runs None = refl
      runs (Some by) = ap (λ b. Does (answer.Flag b) (change.Mark (renamed_busy name by) Long)) (spare_renamed by.callback.pool.0)

  pub disassociate_renamed : disassociate_plan u who ≡ renamed_plan name (disassociate_plan w who)
  unfolding disassociate_plan
  disassociate_renamed = unless_renamed name (busy_refusals u who) (busy_refusals w who) _ _ busy_refusals_renamed (ap disassociate (busy_renamed name naming w who) ∙ runs (busy_of w who))
    where
      runs : (by : Option Busy) → disassociate (option_map (renamed_busy name) by) ≡ renamed_plan name (disassociate by)
      runs None = refl
      runs (Some by) = refl

  asked_renamed : (kind : ActionKind) → has_asked u who kind ≡ has_asked w who kind
  asked_renamed kind = busy_test name naming w (λ (by : Busy). is_some (slot kind (slots_of by.callback.status))) (λ _. refl) who

  pub on_return_renamed : (kind : ActionKind) (kernel : KernelId) (count : ℕ) → on_return_plan u who kind kernel count ≡ renamed_plan name (on_return_plan w who kind kernel count)
  unfolding on_return_plan
  on_return_renamed kind kernel count =
      unless_renamed name (on_return_refusals u who kind kernel.0) (on_return_refusals w who kind kernel.0) _ _
      (rw (actor_renamed name naming w who, runs_renamed name naming w who, in_wait_renamed name naming w who, asked_renamed kind))
      (ap (on_return kind kernel count) (busy_renamed name naming w who) ∙ runs (busy_of w who))
    where
      runs : (by : Option Busy) → on_return kind kernel count (option_map (renamed_busy name) by) ≡ renamed_plan name (on_return kind kernel count by)
      runs None = refl
      runs (Some by) = refl

  -- ---- Finish

  pub finish_renamed : finish_plan u who ≡ renamed_plan name (finish_plan w who)
  unfolding finish_plan
  finish_renamed =
      unless_renamed name (finish_refusals u who) (finish_refusals w who) _ _ (rw (actor_renamed name naming w who, in_wait_renamed name naming w who)) (finishes who)
    where
      finishes : (actor : Who) → finish actor ≡ renamed_plan name (finish actor)
      finishes (Client number) = refl
      finishes (Worker number) = refl
