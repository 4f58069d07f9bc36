-- The facts of calls on pools.
use Rattle.std.proofs.Common.{◌≡◌, ℕ, false, not, ◌||◌, ◌==◌, [], length, refl, ap, arith, ◌&&◌}
use Rattle.std.specs.List.{list_any}
use Rattle.tp_base.specs.declared.ids.Who.{Who}
use Rattle.tp_base.specs.declared.ids.PoolId.{PoolId}
use Rattle.tp_base.specs.declared.calls.Call.{Call}
use Rattle.tp_base.specs.declared.calls.Call.TheVariants.{CreatePool, ClosePool, SetMaximum, SetMinimum}
use Rattle.tp_base.specs.declared.answers.Answer.{Answer}
use Rattle.tp_base.specs.declared.answers.Answer.TheVariants as answer
use Rattle.tp_base.specs.declared.plans.PoolChange.{PoolChange}
use Rattle.tp_base.specs.declared.plans.PoolChange.TheVariants.{Close, Maximum, Minimum}
use Rattle.tp_base.specs.declared.plans.Change.TheVariants as change
use Rattle.tp_base.specs.declared.rows.ObjectRow.{ObjectRow}
use Rattle.tp_base.specs.declared.rows.CallbackRow.{CallbackRow}
use Rattle.tp_base.specs.Ranges.{IsAnswerInRange}
use Rattle.tp_model.specs.World.{World}
use Rattle.tp_model.specs.Counts.{is_live}
use Rattle.tp_model.specs.Conditions.{is_actor, is_pool}
use Rattle.tp_model.specs.History.{is_refusal}
use Rattle.tp_model.specs.Calls.Pools.{create_pool_plan, pool_refusals, change_pool_plan, is_used, close_pool_plan, set_maximum_plan, set_minimum_plan}
use Rattle.tp_model.specs.Support.Told.{told_by_change, told_by}
use Rattle.tp_model.specs.Support.Safe.{IsSafe}
use Rattle.tp_model.specs.Support.Remembered.{lives, forget}
use Rattle.tp_model.specs.Support.Ranged.{IsRanged, IsPlanInRange}
use Rattle.tp_model.proofs.Lists.{any_filter}
use Rattle.tp_model.proofs.Refusals.{neither, not_false, made}
use Rattle.tp_model.proofs.Allowed.{safe_unless, make_safe}
use Rattle.tp_model.proofs.Ranged.{ranged_unless, make_ranged}

-- ---- CreatePool

pub create_pool_safe : (next_number : ℕ) (w : World) (who : Who) → IsSafe next_number w who CreatePool (create_pool_plan w who)
unfolding create_pool_plan
create_pool_safe next_number w who =
    make_safe next_number w who CreatePool [] w.limits.pools (length w.pools) (length w.pools) change.CreatePool (λ room. record { allowed = room; made_by = tt; accepted = refl; tells = refl })

pub create_pool_forget : (w : World) (who : Who) → create_pool_plan (forget w) who ≡ create_pool_plan w who
unfolding create_pool_plan
create_pool_forget w who = refl

pub create_pool_ranged : (w : World) (who : Who) → IsRanged w → IsPlanInRange (create_pool_plan w who)
unfolding create_pool_plan
create_pool_ranged w who g =
    make_ranged w who [] w.limits.pools (length w.pools) (length w.pools) change.CreatePool _ (λ _ room. ((g.pools_least, omega (arith, room, g.limits.pools_most)), tt))

-- ---- what changes a pool

change_pool_safe : (next_number : ℕ) (w : World) (who : Who) (call : Call) (pool : PoolId) (how : PoolChange) (a : Answer) → is_refusal a ≡ false → told_by (record { who = who; call = call; answer = a }) ≡ told_by_change next_number w (change.ChangePool pool how)
    → IsSafe next_number w who call (change_pool_plan w who pool how a)
change_pool_safe next_number w who call pool how a accepted tells =
    safe_unless next_number w who call (pool_refusals w who pool.0) _
    (λ none. record { allowed = made w.pools pool.0 (not_false (is_pool w pool.0) (neither (not (is_actor w who)) (not (is_pool w pool.0)) none.0).1); made_by = tt; accepted = accepted; tells = tells })

change_pool_ranged : (w : World) (who : Who) (pool : PoolId) (how : PoolChange) (a : Answer) → IsAnswerInRange a → IsPlanInRange (change_pool_plan w who pool how a)
change_pool_ranged w who pool how a within = ranged_unless (pool_refusals w who pool.0) _ _ (within, tt)

-- ---- ClosePool

pub close_pool_safe : (next_number : ℕ) (w : World) (who : Who) (pool : PoolId) → IsSafe next_number w who (ClosePool pool) (close_pool_plan w who pool)
unfolding close_pool_plan
close_pool_safe next_number w who pool = change_pool_safe next_number w who (ClosePool pool) pool Close (answer.Closed (is_used w pool.0)) refl refl

used_forget : (w : World) (pool : ℕ) → is_used (forget w) pool ≡ is_used w pool
used_forget w pool =
    ap (λ b. list_any (λ (o : ObjectRow). not o.released && (o.env.pool.0 == pool)) w.objects || b)
    (any_filter (λ (c : CallbackRow). is_live c.status && (c.pool.0 == pool)) lives (λ c e. ap (λ b. b && (c.pool.0 == pool)) e) w.callbacks)

pub close_pool_forget : (w : World) (who : Who) (pool : PoolId) → close_pool_plan (forget w) who pool ≡ close_pool_plan w who pool
unfolding close_pool_plan
close_pool_forget w who pool = ap (λ b. change_pool_plan w who pool Close (answer.Closed b)) (used_forget w pool.0)

pub close_pool_ranged : (w : World) (who : Who) (pool : PoolId) → IsPlanInRange (close_pool_plan w who pool)
unfolding close_pool_plan
close_pool_ranged w who pool = change_pool_ranged w who pool Close (answer.Closed (is_used w pool.0)) tt

-- ---- SetMaximum

pub set_maximum_safe : (next_number : ℕ) (w : World) (who : Who) (pool : PoolId) (value : ℕ) → IsSafe next_number w who (SetMaximum pool value) (set_maximum_plan w who pool value)
unfolding set_maximum_plan
set_maximum_safe next_number w who pool value = change_pool_safe next_number w who (SetMaximum pool value) pool (Maximum value) answer.Done refl refl

pub set_maximum_forget : (w : World) (who : Who) (pool : PoolId) (value : ℕ) → set_maximum_plan (forget w) who pool value ≡ set_maximum_plan w who pool value
unfolding set_maximum_plan
set_maximum_forget w who pool value = refl

pub set_maximum_ranged : (w : World) (who : Who) (pool : PoolId) (value : ℕ) → IsPlanInRange (set_maximum_plan w who pool value)
unfolding set_maximum_plan
set_maximum_ranged w who pool value = change_pool_ranged w who pool (Maximum value) answer.Done tt

-- ---- SetMinimum

pub set_minimum_safe : (next_number : ℕ) (w : World) (who : Who) (pool : PoolId) (value : ℕ) → IsSafe next_number w who (SetMinimum pool value) (set_minimum_plan w who pool value)
unfolding set_minimum_plan
set_minimum_safe next_number w who pool value = change_pool_safe next_number w who (SetMinimum pool value) pool (Minimum value) answer.Done refl refl

pub set_minimum_forget : (w : World) (who : Who) (pool : PoolId) (value : ℕ) → set_minimum_plan (forget w) who pool value ≡ set_minimum_plan w who pool value
unfolding set_minimum_plan
set_minimum_forget w who pool value = refl

pub set_minimum_ranged : (w : World) (who : Who) (pool : PoolId) (value : ℕ) → IsPlanInRange (set_minimum_plan w who pool value)
unfolding set_minimum_plan
set_minimum_ranged w who pool value = change_pool_ranged w who pool (Minimum value) answer.Done tt
