-- Calls of workers and clients, and of running callbacks on themselves, where two workers change places.
use Rattle.std.proofs.Common.{◌≡◌, ℕ, ◌+◌, ◌<◌, ◌||◌, ◌&&◌, ◌==◌, not, nat_lt, nat_le, Bool, true, false, cond, length, is_some, Option, Some, None, option_map, refl, ap, ap₂, ◌∙◌}
use Rattle.std.specs.Option.{option_or}
use Rattle.tp_base.specs.Actions.{is_for, slot}
use Rattle.tp_base.specs.declared.answers.ActionKind.{ActionKind}
use Rattle.tp_base.specs.declared.answers.Answer.TheVariants as answer
use Rattle.tp_base.specs.declared.answers.Look.TheVariants as look
use Rattle.tp_base.specs.declared.ids.KernelId.{KernelId}
use Rattle.tp_base.specs.declared.ids.Who.{Who}
use Rattle.tp_base.specs.declared.ids.Who.TheVariants.{Client, Worker}
use Rattle.tp_base.specs.declared.plans.ActionWords.{ActionWords}
use Rattle.tp_base.specs.declared.plans.Busy.{Busy}
use Rattle.tp_base.specs.declared.plans.Change.TheVariants as change
use Rattle.tp_base.specs.declared.plans.Idle.{Idle}
use Rattle.tp_base.specs.declared.plans.Mark.TheVariants.{Long}
use Rattle.tp_base.specs.declared.plans.Plan.TheVariants.{Does, Looked}
use Rattle.tp_base.specs.declared.rows.CallbackRow.{CallbackRow}
use Rattle.tp_model.specs.World.{World}
use Rattle.tp_model.specs.Actions.{returning, slots_of, words_of}
use Rattle.tp_model.specs.Conditions.{busy_of, idle_of}
use Rattle.tp_model.specs.Counts.{is_below_minimum, is_in_need, maximum, minimum, next, running}
use Rattle.tp_model.specs.Calls.Clients.{finish, finish_plan, finish_refusals}
use Rattle.tp_model.specs.Calls.InCallback.{busy_refusals, disassociate, disassociate_plan, has_asked, has_spare, may_run_long, may_run_long_plan, on_return, on_return_plan, on_return_refusals}
use Rattle.tp_model.specs.Calls.Workers.{another_in_need, attach_plan, attach_refusals, attach_to, detach, detach_plan, idle_refusals, is_let_go, may_leave, pool_to_join, return, return_from, return_plan, return_refusals, return_with, take, take_callback, take_plan}
use Rattle.renamed_worlds.specs.Exchanged.{exchanged, exchanged_busy, exchanged_callback, exchanged_idle, exchanged_plan, exchanged_who}
use Rattle.renamed_worlds.proofs.Exchange.Actions.{returning_exchanged, words_exchanged}
use Rattle.renamed_worlds.proofs.Exchange.Queries.{actor_exchanged, finished_exchanged, is_worker_exchanged, slots_same, attached_exchanged, available_exchanged, below_minimum_exchanged, busy_exchanged, busy_test, idle_exchanged, idle_staff_exchanged, in_need_exchanged, in_wait_exchanged, least_exchanged, next_exchanged, running_exchanged, runs_exchanged, staff_exchanged, takeable_exchanged}
use Rattle.renamed_worlds.proofs.Exchange.Refusing.{is_kernel_exchanged, unless_exchanged}
use Rattle.renamed_worlds.proofs.Exchange.Actions.{is_for_exchanged}
use Rattle.renamed_worlds.proofs.Exchange.Kernels.{one_exchanged}
use Rattle.tp_model.specs.Kernels.{is_kernel_that}
use Rattle.tp_model.specs.Sources.{Firing}
use Rattle.tp_base.specs.declared.rows.Slots.{Slots}

module _ (at : ℕ) (w : World) (fits : at + 1 < length w.workers) (who : Who) where
  abbrev u : World
  u = exchanged at w

  abbrev v : Who
  v = exchanged_who at who

  -- ---- Attach

  join_exchanged : pool_to_join u ≡ pool_to_join w
  join_exchanged =
      ap₂ option_or (least_exchanged at w fits (is_in_need u) (is_in_need w) (in_need_exchanged at w fits))
      (least_exchanged at w fits (is_below_minimum u) (is_below_minimum w) (below_minimum_exchanged at w fits))

  pub attach_exchanged : attach_plan u v ≡ exchanged_plan at (attach_plan w who)
  unfolding attach_plan
  attach_exchanged =
      unless_exchanged at (attach_refusals u v) (attach_refusals w who) _ _
      (rw (actor_exchanged at w fits who, finished_exchanged at w fits who, is_worker_exchanged at w fits who, runs_exchanged at w fits who, attached_exchanged at w fits who)) (ap (attach_to v) join_exchanged ∙ joins who (pool_to_join w))
    where
      joins : (actor : Who) (pool : Option ℕ) → attach_to (exchanged_who at actor) pool ≡ exchanged_plan at (attach_to actor pool)
      joins (Worker number) (Some pool) = refl
      joins (Worker number) None = refl
      joins (Client number) pool = refl

  -- ---- Detach

  idle_refusals_exchanged : idle_refusals u v ≡ idle_refusals w who
  idle_refusals_exchanged = rw (actor_exchanged at w fits who, finished_exchanged at w fits who, is_worker_exchanged at w fits who, runs_exchanged at w fits who, attached_exchanged at w fits who)

  another_exchanged : (pool : ℕ) → another_in_need u pool ≡ another_in_need w pool
  another_exchanged pool =
      ap is_some (least_exchanged at w fits (λ other. not (other == pool) && is_in_need u other) (λ other. not (other == pool) && is_in_need w other) (λ other. ap (λ b. not (other == pool) && b) (in_need_exchanged at w fits other)))

  leave_exchanged : (by : Idle) → may_leave u (exchanged_idle at by) ≡ may_leave w by
  leave_exchanged by =
      ap₂ (λ (a : ℕ) (b : Bool). is_let_go w by && (nat_lt (maximum w by.pool.0) a || b)) (staff_exchanged at w fits by.pool.0)
      (ap₂ (λ (t : ℕ) (b : Bool). (t == 0) && b) (takeable_exchanged at w fits by.pool.0 by.persistent)
      (ap₂ (λ (v : ℕ) (b : Bool). nat_lt (minimum w by.pool.0) v || b) (available_exchanged at w fits by.pool.0) (another_exchanged by.pool.0)))

  pub detach_exchanged : detach_plan u v ≡ exchanged_plan at (detach_plan w who)
  unfolding detach_plan
  detach_exchanged = unless_exchanged at (idle_refusals u v) (idle_refusals w who) _ _ idle_refusals_exchanged (ap (detach u) (idle_exchanged at w fits who) ∙ leaves (idle_of w who))
    where
      leaves : (by : Option Idle) → detach u (option_map (exchanged_idle at) by) ≡ exchanged_plan at (detach w by)
      leaves None = refl
      leaves (Some by) =
          ap (λ b. cond b (Does answer.Done (change.Detach (exchanged_idle at by))) (Looked look.Stay)) (leave_exchanged by)
          ∙ elim (may_leave w by) as (λ b. cond b (Does answer.Done (change.Detach (exchanged_idle at by))) (Looked look.Stay) ≡ exchanged_plan at (cond b (Does answer.Done (change.Detach by)) (Looked look.Stay))) [ true ↦ refl | false ↦ refl ]

  -- ---- Take

  take_callback_exchanged : (by : Idle) (c : Option CallbackRow) → take_callback u (exchanged_idle at by) (option_map (exchanged_callback at) c) ≡ exchanged_plan at (take_callback w by c)
  take_callback_exchanged by None = refl
  take_callback_exchanged by (Some c) =
      ap (λ n. cond (nat_le (maximum w by.pool.0) n) (Looked (look.AtMaximum n)) (Does (answer.Taken c.number c.object c.routine c.context c.result) (change.Take (exchanged_idle at by) (exchanged_callback at c)))) (running_exchanged at w fits by.pool.0)
      ∙ elim (nat_le (maximum w by.pool.0) (running w by.pool.0))
      as (λ b. cond b (Looked (look.AtMaximum (running w by.pool.0))) (Does (answer.Taken c.number c.object c.routine c.context c.result) (change.Take (exchanged_idle at by) (exchanged_callback at c)))
      ≡ exchanged_plan at (cond b (Looked (look.AtMaximum (running w by.pool.0))) (Does (answer.Taken c.number c.object c.routine c.context c.result) (change.Take by c)))) [ true ↦ refl | false ↦ refl ]

  pub take_exchanged : take_plan u v ≡ exchanged_plan at (take_plan w who)
  unfolding take_plan
  take_exchanged = unless_exchanged at (idle_refusals u v) (idle_refusals w who) _ _ idle_refusals_exchanged (ap (take u) (idle_exchanged at w fits who) ∙ takes (idle_of w who))
    where
      takes : (by : Option Idle) → take u (option_map (exchanged_idle at) by) ≡ exchanged_plan at (take w by)
      takes None = refl
      takes (Some by) = ap (take_callback u (exchanged_idle at by)) (next_exchanged at w fits by.pool.0 by.persistent) ∙ take_callback_exchanged by (next w by.pool.0 by.persistent)

  -- ---- Return

  pub return_exchanged : (next_number : ℕ) → return_plan u next_number v ≡ exchanged_plan at (return_plan w next_number who)
  unfolding return_plan
  return_exchanged next_number =
      unless_exchanged at (return_refusals u v) (return_refusals w who) _ _ (rw (actor_exchanged at w fits who, is_worker_exchanged at w fits who, finished_exchanged at w fits who, runs_exchanged at w fits who, in_wait_exchanged at w fits who))
      (ap (return u next_number v) (busy_exchanged at w fits who) ∙ returns (busy_of w who))
    where
      returns : (by : Option Busy) → return u next_number v (option_map (exchanged_busy at) by) ≡ exchanged_plan at (return w next_number who by)
      returns None = refl
      returns (Some by) =
          let slots : Slots = slots_of by.callback.status in
          let words : ActionWords = words_of w who slots in
          ap (λ ss. return_from u next_number (exchanged_busy at by) (words_of u v ss)) (slots_same at by.callback.status)
          ∙ ap (return_from u next_number (exchanged_busy at by)) (words_exchanged at w who slots)
          ∙ ap (λ ss. return_with next_number (exchanged_busy at by) words (length (returning u words ss).jobs)) (slots_same at by.callback.status)
          ∙ ap (λ (f : Firing). return_with next_number (exchanged_busy at by) words (length f.jobs)) (returning_exchanged at w words slots)

  -- ---- MayRunLong, Disassociate, OnReturn

  busy_refusals_exchanged : busy_refusals u v ≡ busy_refusals w who
  busy_refusals_exchanged = rw (actor_exchanged at w fits who, finished_exchanged at w fits who, runs_exchanged at w fits who, in_wait_exchanged at w fits who)

  spare_exchanged : (pool : ℕ) → has_spare u pool ≡ has_spare w pool
  spare_exchanged pool = ap₂ (λ (i a : ℕ). nat_lt 0 i || nat_lt a (maximum w pool)) (idle_staff_exchanged at w fits pool) (staff_exchanged at w fits pool)

  pub may_run_long_exchanged : may_run_long_plan u v ≡ exchanged_plan at (may_run_long_plan w who)
  unfolding may_run_long_plan
  may_run_long_exchanged = unless_exchanged at (busy_refusals u v) (busy_refusals w who) _ _ busy_refusals_exchanged (ap (may_run_long u) (busy_exchanged at w fits who) ∙ runs (busy_of w who))
    where
      runs : (by : Option Busy) → may_run_long u (option_map (exchanged_busy at) by) ≡ exchanged_plan at (may_run_long w by)
      runs None = refl
      runs (Some by) = ap (λ b. Does (answer.Flag b) (change.Mark (exchanged_busy at by) Long)) (spare_exchanged by.callback.pool.0)

  pub disassociate_exchanged : disassociate_plan u v ≡ exchanged_plan at (disassociate_plan w who)
  unfolding disassociate_plan
  disassociate_exchanged = unless_exchanged at (busy_refusals u v) (busy_refusals w who) _ _ busy_refusals_exchanged (ap disassociate (busy_exchanged at w fits who) ∙ runs (busy_of w who))
    where
      runs : (by : Option Busy) → disassociate (option_map (exchanged_busy at) by) ≡ exchanged_plan at (disassociate by)
      runs None = refl
      runs (Some by) = refl

  asked_exchanged : (kind : ActionKind) → has_asked u v kind ≡ has_asked w who kind
  asked_exchanged kind = busy_test at w fits (λ (by : Busy). is_some (slot kind (slots_of by.callback.status))) (λ by. ap (λ ss. is_some (slot kind ss)) (slots_same at by.callback.status)) who

  pub on_return_exchanged : (kind : ActionKind) (kernel : KernelId) (count : ℕ) → on_return_plan u v kind kernel count ≡ exchanged_plan at (on_return_plan w who kind kernel count)
  unfolding on_return_plan
  on_return_exchanged kind kernel count =
      unless_exchanged at (on_return_refusals u v kind kernel.0) (on_return_refusals w who kind kernel.0) _ _
      refused
      (ap (on_return kind kernel count) (busy_exchanged at w fits who) ∙ runs (busy_of w who))
    where
      there : is_kernel_that (is_for kind) u kernel.0 ≡ is_kernel_that (is_for kind) w kernel.0
      there = one_exchanged at (is_for kind) (is_for kind) (is_for_exchanged at kind) w.kernels kernel.0

      refused : on_return_refusals u v kind kernel.0 ≡ on_return_refusals w who kind kernel.0
      refused = rw (actor_exchanged at w fits who, finished_exchanged at w fits who, runs_exchanged at w fits who, in_wait_exchanged at w fits who, asked_exchanged kind, is_kernel_exchanged at w fits who kernel.0, there)

      runs : (by : Option Busy) → on_return kind kernel count (option_map (exchanged_busy at) by) ≡ exchanged_plan at (on_return kind kernel count by)
      runs None = refl
      runs (Some by) = refl

  -- ---- Finish

  pub finish_exchanged : finish_plan u v ≡ exchanged_plan at (finish_plan w who)
  unfolding finish_plan
  finish_exchanged =
      unless_exchanged at (finish_refusals u v) (finish_refusals w who) _ _ (rw (actor_exchanged at w fits who, is_worker_exchanged at w fits who, finished_exchanged at w fits who, in_wait_exchanged at w fits who)) (finishes who)
    where
      finishes : (actor : Who) → finish (exchanged_who at actor) ≡ exchanged_plan at (finish actor)
      finishes (Client number) = refl
      finishes (Worker number) = refl
