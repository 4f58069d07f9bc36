-- What the parts show after a pool is made and after one is changed.
use Rattle.std.proofs.Common.{◌≡◌, ℕ, ◌+◌, ◌<◌, ◌≤◌, List, [], ◌∷◌, ◌++◌, length, slice_get, slice_set, Option, Some, None, IfSome, refl, sym, ap, ◌∙◌, subst, arith, length-append, length-set}
use Rattle.std.specs.Option.{option_map_or}
use Rattle.tp_base.specs.declared.ids.PoolId.{PoolId}
use Rattle.tp_base.specs.declared.plans.Change.{Change}
use Rattle.tp_base.specs.declared.plans.Change.TheVariants as change
use Rattle.tp_base.specs.declared.plans.PoolChange.{PoolChange}
use Rattle.tp_base.specs.declared.rows.PoolRow.{PoolRow}
use Rattle.pool_rows.specs.Pools.{Pools, made_pool, with_pool}
use Rattle.pool_rows.specs.declared.WorkerRow as kept
use Rattle.tp_model.specs.World.{World}
use Rattle.tp_model.specs.Changes.{changed, change_pool, pool_after}
use Rattle.tp_model.specs.Support.Allowed.{IsAllowed, news}
use Rattle.tp_model.proofs.Lists.{all_along}
use Rattle.live_world.specs.declared.LiveWorld.TheInside.{Inside}
use Rattle.live_world.specs.Live.{Live, moved}
use Rattle.live_world.specs.View.{shown, IsLiveWorld}
use Rattle.live_world.specs.Invariant.{IsHome}
use Rattle.live_world.proofs.Moving.{After, Becomes, moved_by}

-- where more pools were made, a worker's pool still was
home_along : (n m : ℕ) → n ≤ m → (pool : Option PoolId) → IfSome pool (λ (p : PoolId). p.0 < n) → IfSome pool (λ (p : PoolId). p.0 < m)
home_along n m more None home = home
home_along n m more (Some p) home = omega (arith, home, more)

-- the pools alone change
pools_moved : (i : Inside) (l : Live) (ch : Change) (pools : Pools) (rows : List PoolRow) → shown i ≡ l → IsLiveWorld i → IsAllowed (l.made + 1) l.world ch → i.made ≡ i.made + news ch → changed (shown i).world ch ≡ record (shown i).world { pools = rows }
    → pools ≡ record i.pools { pools = rows } → length i.pools.pools ≤ length rows → length rows ≤ i.limits.pools → Becomes (record i { pools = pools }) (moved l ch)
pools_moved i l ch pools rows is k allowed none same now more within =
    moved_by i (record i { pools = pools }) l ch is k allowed none (λ a.
    subst (λ (p : Pools). After (record i { pools = p }) (changed (shown i).world ch)) (sym now)
    (subst (λ w. After (record i { pools = record i.pools { pools = rows } }) w) (sym same)
    (record {
      shows = ap (λ cs. record (shown i).world { callbacks = cs; pools = rows }) (sym k.alive.live);
      sized = record {
        in_range = k.sized.in_range;
        pool_limit = k.sized.pool_limit;
        pools_least = omega (arith, k.sized.pools_least, more);
        pools_within = within;
        worker_count = k.sized.worker_count;
        homes = all_along (IsHome (length i.pools.pools)) (IsHome (length rows)) (λ (w : kept.WorkerRow) home. home_along (length i.pools.pools) (length rows) more w.pool home) i.pools.workers k.sized.homes;
        group_limit = k.sized.group_limit;
        object_limit = k.sized.object_limit;
        objects_within = k.sized.objects_within;
        client_count = k.sized.client_count;
      };
      alive = k.alive;
      tallied = k.tallied;
      covered = k.covered;
      timed = k.timed;
      slotted = k.slotted;
    })))

pub pool_made : (i : Inside) (l : Live) (pools : Pools) → shown i ≡ l → IsLiveWorld i → IsAllowed (l.made + 1) l.world change.CreatePool → pools ≡ record i.pools { pools = i.pools.pools ++ made_pool (length i.pools.workers) ∷ [] }
    → Becomes (record i { pools = pools }) (moved l change.CreatePool)
pool_made i l pools is k allowed now =
    let fewer : length i.pools.pools < i.limits.pools = subst (λ (x : Live). length x.world.pools < x.world.limits.pools) (sym is) allowed in
    let row : PoolRow = made_pool i.limits.workers in
    let longer : length (i.pools.pools ++ row ∷ []) ≡ length i.pools.pools + 1 = length-append i.pools.pools (row ∷ []) in
    pools_moved i l change.CreatePool pools (i.pools.pools ++ row ∷ []) is k allowed (omega arith) refl
    (now ∙ ap (λ n. record i.pools { pools = i.pools.pools ++ made_pool n ∷ [] }) k.sized.worker_count) (omega (arith, longer)) (omega (arith, longer, fewer))

-- ---- one is changed

abbrev rows_changed : (PoolRow → PoolRow) → ℕ → List PoolRow → Option PoolRow → List PoolRow
rows_changed f pool rows row = option_map_or (λ (r : PoolRow). slice_set rows pool (f r)) row rows

as_many : (f : PoolRow → PoolRow) (pool : ℕ) (rows : List PoolRow) (row : Option PoolRow) → length (rows_changed f pool rows row) ≡ length rows
as_many f pool rows None = refl
as_many f pool rows (Some r) = length-set rows pool (f r)

same_change : (w : World) (pool : ℕ) (how : PoolChange) (row : Option PoolRow) → change_pool w pool how row ≡ record w { pools = rows_changed (pool_after how) pool w.pools row }
same_change w pool how None = refl
same_change w pool how (Some r) = refl

pub pool_changed : (i : Inside) (l : Live) (pool : PoolId) (how : PoolChange) (pools : Pools) → shown i ≡ l → IsLiveWorld i → IsAllowed (l.made + 1) l.world (change.ChangePool pool how) → pools ≡ with_pool pool.0 (pool_after how) i.pools
    → Becomes (record i { pools = pools }) (moved l (change.ChangePool pool how))
pool_changed i l pool how pools is k allowed now =
    let row : Option PoolRow = slice_get i.pools.pools pool.0 in
    let same : length (rows_changed (pool_after how) pool.0 i.pools.pools row) ≡ length i.pools.pools = as_many (pool_after how) pool.0 i.pools.pools row in
    pools_moved i l (change.ChangePool pool how) pools (rows_changed (pool_after how) pool.0 i.pools.pools row) is k allowed (omega arith) (same_change (shown i).world pool.0 how row) now (omega (arith, same)) (omega (arith, same, k.sized.pools_within))
