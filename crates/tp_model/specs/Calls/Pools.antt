-- Calls on pools: CreateThreadpool, CloseThreadpool, SetThreadpoolThreadMaximum, SetThreadpoolThreadMinimum.
use Rattle.std.specs.Prelude.{ℕ, Bool, not, ◌||◌, ◌&&◌, ◌==◌, List, [], ◌∷◌, length}
use Rattle.std.specs.List.{list_any}
use Rattle.tp_base.specs.declared.ids.Who.{Who}
use Rattle.tp_base.specs.declared.ids.PoolId.{PoolId}
use Rattle.tp_base.specs.declared.answers.Refusal.{Refusal}
use Rattle.tp_base.specs.declared.answers.Refusal.TheVariants.{NoSuch, Released, PoolClosed, DefaultPool, NotRunning, InWait}
use Rattle.tp_base.specs.declared.answers.Answer.{Answer}
use Rattle.tp_base.specs.declared.answers.Answer.TheVariants as answer
use Rattle.tp_base.specs.declared.plans.Plan.{Plan}
use Rattle.tp_base.specs.declared.plans.Plan.TheVariants.{Does}
use Rattle.tp_base.specs.declared.plans.Change.TheVariants as change
use Rattle.tp_base.specs.declared.plans.PoolChange.{PoolChange}
use Rattle.tp_base.specs.declared.plans.PoolChange.TheVariants.{Close, Maximum, Minimum}
use Rattle.tp_base.specs.declared.rows.ObjectRow.{ObjectRow}
use Rattle.tp_base.specs.declared.rows.CallbackRow.{CallbackRow}
use Rattle.tp_model.specs.World.{World}
use Rattle.tp_model.specs.Counts.{is_live}
use Rattle.tp_model.specs.Conditions.{is_actor, is_finished, is_without_callback, is_in_wait, is_pool, is_closed_pool}
use Rattle.tp_model.specs.Refusing.{first_refusal, unless_refused, make}

-- ---- CreatePool: CreateThreadpool

-- the default pool is number 0
unfoldable pub create_pool_plan : World → Who → Plan
create_pool_plan w who = make w who [] w.limits.pools (length w.pools) (length w.pools) change.CreatePool

-- ---- ClosePool, SetMaximum, SetMinimum: CloseThreadpool, SetThreadpoolThreadMaximum, SetThreadpoolThreadMinimum

-- a pool that is closed or the default pool can't be closed or changed
abbrev pub pool_refusals : World → Who → ℕ → List (Bool × Refusal)
pool_refusals w who pool =
    (not (is_actor w who) || not (is_pool w pool), NoSuch)
    ∷ (is_finished w who, Released)
    ∷ (is_closed_pool w pool, PoolClosed)
    ∷ (pool == 0, DefaultPool)
    ∷ (is_without_callback w who, NotRunning)
    ∷ (is_in_wait w who, InWait)
    ∷ []

abbrev pub change_pool_plan : World → Who → PoolId → PoolChange → Answer → Plan
change_pool_plan w who pool how told = unless_refused (first_refusal (pool_refusals w who pool.0)) (Does told (change.ChangePool pool how))

-- an object that isn't released is bound to the pool, or a callback of the pool is under way; a released object of
-- the pool that isn't freed yet has such a callback
abbrev pub is_used : World → ℕ → Bool
is_used w pool =
    list_any (λ (o : ObjectRow). not o.released && (o.env.pool.0 == pool)) w.objects
    || list_any (λ (c : CallbackRow). is_live c.status && (c.pool.0 == pool)) w.callbacks

unfoldable pub close_pool_plan : World → Who → PoolId → Plan
close_pool_plan w who pool = change_pool_plan w who pool Close (answer.Closed (is_used w pool.0))

unfoldable pub set_maximum_plan : World → Who → PoolId → ℕ → Plan
set_maximum_plan w who pool value = change_pool_plan w who pool (Maximum value) answer.Done

unfoldable pub set_minimum_plan : World → Who → PoolId → ℕ → Plan
set_minimum_plan w who pool value = change_pool_plan w who pool (Minimum value) answer.Done
