-- The facts of calls of workers.
use Rattle.std.proofs.Common.{◌≤◌, ◌^◌, ◌+◌, ◌≡◌, ℕ, ◌-◌, ◌<◌, Bool, true, false, cond, not, ◌||◌, ◌==◌, length, nat_le, Option, Some, None, is_some, refl, sym, ap, ◌∙◌, arith, eqb-true, ◌&&◌, nat_lt, ap₂}
use Rattle.std.specs.Option.{option_map_or, option_or}
use Rattle.std.proofs.lemmas.Bool.{leb-false}
use Rattle.std.specs.List.{range_with_len}
use Rattle.tp_base.specs.declared.ids.Who.{Who}
use Rattle.tp_base.specs.declared.ids.Who.TheVariants.{Client, Worker}
use Rattle.tp_base.specs.declared.calls.Call.TheVariants.{Attach, Detach, Take, Return}
use Rattle.tp_base.specs.declared.answers.Answer.TheVariants as answer
use Rattle.tp_base.specs.declared.answers.Look.TheVariants as look
use Rattle.tp_base.specs.declared.plans.Idle.{Idle}
use Rattle.tp_base.specs.declared.plans.Change.TheVariants as change
use Rattle.tp_base.specs.declared.plans.Plan.TheVariants as plan
use Rattle.tp_base.specs.declared.rows.CallbackRow.{CallbackRow}
use Rattle.tp_base.specs.declared.rows.WorkerRow.{WorkerRow}
use Rattle.tp_model.specs.World.{World}
use Rattle.tp_model.specs.Counts.{numbered, is_pending, is_pending_in, maximum, running, next, minimum, attached, is_in_need, is_below_minimum}
use Rattle.tp_model.specs.Conditions.{is_actor, is_attached, runs_callback, idle_of}
use Rattle.tp_model.specs.Refusing.{first_refusal, unless_refused}
use Rattle.tp_model.specs.Calls.Workers.{attach_refusals, attach_to, attach_plan, pool_to_join, idle_refusals, is_let_go, may_leave, detach, detach_plan, take_callback, take, take_plan, return_refusals, return, return_plan, another_in_need}
use Rattle.tp_base.specs.declared.plans.ActionWords.{ActionWords}
use Rattle.tp_model.specs.Actions.{slots_of, words_of, returning}
use Rattle.tp_model.specs.Stages.{Returns}
use Rattle.tp_model.specs.Support.Told.{silent, nothing}
use Rattle.tp_model.proofs.Performing.{returning_within}
use Rattle.tp_model.proofs.Calls.Timers.{told_range, first_within}
use Rattle.tp_model.specs.Support.Sound.{IsSound}
use Rattle.tp_model.specs.Support.Allowed.{MayAttach}
use Rattle.tp_model.specs.Support.Safe.{IsSafe}
use Rattle.tp_model.specs.Support.Remembered.{forget}
use Rattle.tp_model.specs.Support.Ranged.{IsCallbackInRange, IsRanged, IsPlanInRange}
use Rattle.tp_model.proofs.Lists.{find_agree}
use Rattle.tp_model.proofs.Refusals.{not_false, both, false_true}
use Rattle.tp_model.proofs.Actors.{IsIdle, idle_stands, next_open, pool_found}
use Rattle.tp_model.proofs.Forgetting.{takeable_forget, running_forget, running_long_forget, next_forget, in_need_forget, below_minimum_forget, in_callback_forget}
use Rattle.tp_model.proofs.Allowed.{safe_unless, in_callback_safe}
use Rattle.tp_model.proofs.Ranged.{found_row, ranged_unless, in_callback_ranged}

-- ---- Attach

none_is : {X : Type 0} (o : Option X) → is_some o ≡ false → o ≡ None
none_is None e = refl
none_is (Some x) e = absurd (false_true (sym e))

pub attach_safe : (next_number : ℕ) (w : World) (who : Who) → IsSafe next_number w who Attach (attach_plan w who)
unfolding attach_plan
attach_safe next_number w who =
    safe_unless next_number w who Attach (attach_refusals w who) _ (λ none. joins who (pool_to_join w) refl (not_false (is_actor w who) none.0) none.1.1.1.0 none.1.1.1.1.0)
  where
    -- a worker that exists, runs nothing and is attached to no pool
    may_attach : (number pool : ℕ) (row : Option WorkerRow) → pool < length w.pools → numbered w.workers number ≡ row → is_some row ≡ true → option_map_or (λ (r : WorkerRow). is_some r.callback) row false ≡ false → option_map_or (λ (r : WorkerRow). is_some r.pool) row false ≡ false
        → MayAttach w number (record { 0 = pool })
    may_attach number pool None home is there idle free = absurd (false_true there)
    may_attach number pool (Some row) home is there idle free = record { row = row; stands = is; away = none_is row.pool free; idle = none_is row.callback idle; home = home }

    joins : (actor : Who) (pool : Option ℕ) → pool_to_join w ≡ pool → is_actor w actor ≡ true → runs_callback w actor ≡ false → is_attached w actor ≡ false → IsSafe next_number w actor Attach (attach_to actor pool)
    joins (Worker number) (Some pool) least acts idle free =
        record { allowed = may_attach number pool (numbered w.workers number) (pool_found w pool least) refl acts idle free; made_by = refl; accepted = refl; tells = refl }
    joins (Worker number) None least acts idle free = tt
    joins (Client number) pool least acts idle free = tt

to_join_forget : (w : World) → pool_to_join (forget w) ≡ pool_to_join w
to_join_forget w =
    ap₂ option_or
    (find_agree (is_in_need (forget w)) (is_in_need w) (in_need_forget w) (range_with_len 0 (length w.pools)))
    (find_agree (is_below_minimum (forget w)) (is_below_minimum w) (below_minimum_forget w) (range_with_len 0 (length w.pools)))

pub attach_forget : (w : World) (who : Who) → attach_plan (forget w) who ≡ attach_plan w who
unfolding attach_plan
attach_forget w who = ap (λ p. unless_refused (first_refusal (attach_refusals w who)) (attach_to who p)) (to_join_forget w)

pub attach_ranged : (w : World) (who : Who) → IsRanged w → IsPlanInRange (attach_plan w who)
unfolding attach_plan
attach_ranged w who g = ranged_unless (attach_refusals w who) _ _ (joins who (pool_to_join w) refl)
  where
    joins : (actor : Who) (pool : Option ℕ) → pool_to_join w ≡ pool → IsPlanInRange (attach_to actor pool)
    joins (Worker number) (Some pool) is = (omega (arith, pool_found w pool is, g.pools_most, g.limits.pools_most), tt)
    joins (Worker number) None is = tt
    joins (Client number) pool is = tt

-- ---- Detach

pub detach_safe : (next_number : ℕ) (w : World) (who : Who) → IsSafe next_number w who Detach (detach_plan w who)
unfolding detach_plan
detach_safe next_number w who = safe_unless next_number w who Detach (idle_refusals w who) _ (λ _. leaves (idle_of w who) refl)
  where
    leaves : (by : Option Idle) → idle_of w who ≡ by → IsSafe next_number w who Detach (detach w by)
    leaves None is = tt
    leaves (Some by) is =
        let idle = idle_stands w who by is in
        elim (may_leave w by) as (λ b. may_leave w by ≡ b → IsSafe next_number w who Detach (cond b (plan.Does answer.Done (change.Detach by)) (plan.Looked look.Stay))) [
          | true ↦ λ may. record { allowed = record { idles = idle.idles; let_go = (both (is_let_go w by) _ may).0 }; made_by = idle.actor; accepted = refl; tells = refl }
          | false ↦ λ _. tt
        ] refl

another_forget : (w : World) (pool : ℕ) → another_in_need (forget w) pool ≡ another_in_need w pool
another_forget w pool =
    ap is_some (find_agree (λ other. not (other == pool) && is_in_need (forget w) other) (λ other. not (other == pool) && is_in_need w other) (λ other. ap (λ b. not (other == pool) && b) (in_need_forget w other)) (range_with_len 0 (length w.pools)))

may_leave_forget : (w : World) (by : Idle) → may_leave (forget w) by ≡ may_leave w by
may_leave_forget w by =
    ap₂ (λ (n : ℕ) (bc : Bool). is_let_go w by && (nat_lt (maximum w by.pool.0) (attached w by.pool.0) || ((n == 0) && bc))) (takeable_forget w by.pool.0 by.persistent)
    (ap₂ (λ (n : ℕ) (b : Bool). nat_lt (minimum w by.pool.0) (attached w by.pool.0 - n) || b) (running_long_forget w by.pool.0) (another_forget w by.pool.0))

pub detach_forget : (w : World) (who : Who) → detach_plan (forget w) who ≡ detach_plan w who
unfolding detach_plan
detach_forget w who = ap (unless_refused (first_refusal (idle_refusals w who))) (leaves (idle_of w who))
  where
    leaves : (by : Option Idle) → detach (forget w) by ≡ detach w by
    leaves None = refl
    leaves (Some by) = ap (λ b. cond b (plan.Does answer.Done (change.Detach by)) (plan.Looked look.Stay)) (may_leave_forget w by)

pub detach_ranged : (w : World) (who : Who) → IsPlanInRange (detach_plan w who)
unfolding detach_plan
detach_ranged w who = ranged_unless (idle_refusals w who) _ _ (leaves (idle_of w who))
  where
    leaves : (by : Option Idle) → IsPlanInRange (detach w by)
    leaves None = tt
    leaves (Some by) = elim (may_leave w by) as (λ b. IsPlanInRange (cond b (plan.Does answer.Done (change.Detach by)) (plan.Looked look.Stay))) [ true ↦ (tt, tt) | false ↦ tt ]

-- ---- Take

pub take_safe : (next_number : ℕ) (w : World) (who : Who) → IsSound next_number w → IsSafe next_number w who Take (take_plan w who)
unfolding take_plan
take_safe next_number w who s = safe_unless next_number w who Take (idle_refusals w who) _ (λ _. takes (idle_of w who) refl)
  where
    taken : (by : Idle) (c : Option CallbackRow) → IsIdle w who by → next w by.pool.0 by.persistent ≡ c → IsSafe next_number w who Take (take_callback w by c)
    taken by None idle is = tt
    taken by (Some c) idle is =
        let found = next_open next_number w by.pool.0 by.persistent c s is in
        let waits = both (is_pending c.status) (c.pool.0 == by.pool.0) (both (is_pending_in by.pool.0 c) _ found.1).0 in
        elim (nat_le (maximum w by.pool.0) (running w by.pool.0))
        as (λ b. nat_le (maximum w by.pool.0) (running w by.pool.0) ≡ b → IsSafe next_number w who Take (cond b (plan.Looked (look.AtMaximum (running w by.pool.0))) (plan.Does (answer.Taken c.number c.object c.routine c.context c.result) (change.Take by c)))) [
          | true ↦ λ _. tt
          | false ↦ λ below.
              record {
                allowed = record {
                  idles = idle.idles;
                  found = found.0;
                  pending = waits.0;
                  home = ap (λ n. record { 0 = n }) (eqb-true c.pool.0 by.pool.0 waits.1);
                  open_to = found.1;
                  below = leb-false (maximum w by.pool.0) (running w by.pool.0) below;
                };
                made_by = idle.actor;
                accepted = refl;
                tells = refl;
              }
        ] refl

    takes : (by : Option Idle) → idle_of w who ≡ by → IsSafe next_number w who Take (take w by)
    takes None is = tt
    takes (Some by) is = taken by (next w by.pool.0 by.persistent) (idle_stands w who by is) refl

pub take_forget : (w : World) (who : Who) → take_plan (forget w) who ≡ take_plan w who
unfolding take_plan
take_forget w who = ap (unless_refused (first_refusal (idle_refusals w who))) (takes (idle_of w who))
  where
    taken : (by : Idle) (c : Option CallbackRow) → take_callback (forget w) by c ≡ take_callback w by c
    taken by None = refl
    taken by (Some c) =
        ap (λ n. cond (nat_le (maximum w by.pool.0) n) (plan.Looked (look.AtMaximum n)) (plan.Does (answer.Taken c.number c.object c.routine c.context c.result) (change.Take by c))) (running_forget w by.pool.0)

    takes : (by : Option Idle) → take (forget w) by ≡ take w by
    takes None = refl
    takes (Some by) = ap (take_callback (forget w) by) (next_forget w by.pool.0 by.persistent) ∙ taken by (next w by.pool.0 by.persistent)

pub take_ranged : (next_number : ℕ) (w : World) (who : Who) → IsSound next_number w → IsRanged w → IsPlanInRange (take_plan w who)
unfolding take_plan
take_ranged next_number w who s g = ranged_unless (idle_refusals w who) _ _ (takes (idle_of w who))
  where
    taken : (by : Idle) (c : Option CallbackRow) → next w by.pool.0 by.persistent ≡ c → IsPlanInRange (take_callback w by c)
    taken by None is = tt
    taken by (Some c) is =
        let r : IsCallbackInRange c = found_row c w.callbacks (next_open next_number w by.pool.0 by.persistent c s is).0 g.rows.callbacks in
        elim (nat_le (maximum w by.pool.0) (running w by.pool.0)) as (λ b. IsPlanInRange (cond b (plan.Looked (look.AtMaximum (running w by.pool.0))) (plan.Does (answer.Taken c.number c.object c.routine c.context c.result) (change.Take by c)))) [
          | true ↦ g.running_most by.pool.0
          | false ↦ ((r.number, r.object, r.routine, r.context, r.result), tt)
        ]

    takes : (by : Option Idle) → IsPlanInRange (take w by)
    takes None = tt
    takes (Some by) = taken by (next w by.pool.0 by.persistent) refl

-- ---- Return

pub return_safe : (next_number : ℕ) (w : World) (who : Who) → IsSound next_number w → IsSafe next_number w who Return (return_plan w next_number who)
unfolding return_plan
return_safe next_number w who s = in_callback_safe next_number w who Return (return_refusals w who) (return w next_number who) s tt (λ by b.
    record {
      allowed = record { runs = b.runs; told = ap₂ (λ a s. words_of w a (slots_of s)) b.actor b.runs.running; number = refl; counted = refl };
      made_by = b.actor;
      accepted = refl;
      tells = ap (λ ns. record silent { deed = record nothing { returned = true; words = Some (words_of w who (slots_of by.callback.status)) }; made = ns; queued = ns; stage = Returns })
          (told_range next_number (length (returning w (words_of w who (slots_of by.callback.status)) (slots_of by.callback.status)).jobs));
    })

pub return_forget : (next_number : ℕ) (w : World) (who : Who) → IsSound next_number w → return_plan (forget w) next_number who ≡ return_plan w next_number who
unfolding return_plan
return_forget next_number w who s = in_callback_forget next_number w who (return_refusals w who) (return w next_number who) s

-- so many callbacks as have their slots
pub return_ranged : (next_number : ℕ) (w : World) (who : Who) → next_number + 65536 ≤ 2 ^ 64 → IsRanged w → IsPlanInRange (return_plan w next_number who)
unfolding return_plan
return_ranged next_number w who few g =
    in_callback_ranged w who (return_refusals w who) (return w next_number who) _ tt (λ by.
    let words : ActionWords = words_of w who (slots_of by.callback.status) in
    let n : ℕ = length (returning w words (slots_of by.callback.status)).jobs in
    let within : n ≤ 65535 = omega (arith, returning_within w words (slots_of by.callback.status), g.slots_most, g.limits.slots_most) in
    ((omega (arith, first_within next_number n, few), within), omega (arith, within, few)))
