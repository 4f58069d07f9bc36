-- What is counted of a pool is what the world counts.
use Rattle.std.proofs.Common.{◌≡◌, ℕ, suc, zero, ◌+◌, ◌-◌, ◌<◌, ◌≤◌, Bool, true, false, cond, not, ◌&&◌, ◌==◌, List, [], ◌∷◌, length, nat_lt, slice_get, Option, Some, None, refl, sym, ap, ap₂, ◌∙◌, subst, arith, filter, option_map, is_none, IfSome, ne_eqb, lt-ltb}
use Rattle.std.specs.List.{AllByRecursion}
use Rattle.std.specs.Option.{option_map_or}
use Rattle.std.proofs.lemmas.List.{length-map}
use Rattle.tp_base.specs.declared.ids.PoolId.{PoolId}
use Rattle.tp_base.specs.declared.rows.CallbackRow.{CallbackRow}
use Rattle.tp_base.specs.declared.rows.PoolRow.{PoolRow}
use Rattle.pool_rows.specs.Pools.{counts_of}
use Rattle.pool_rows.specs.Workers.{is_attached_to as is_attached_kept, is_occupied_in, is_persistent_in as is_persistent_kept, runs, runs_in, runs_long_in}
use Rattle.pool_rows.specs.declared.Counts.{Counts}
use Rattle.pool_rows.specs.declared.WorkerRow as kept
use Rattle.tp_model.specs.World.{World}
use Rattle.tp_model.specs.Counts.{attached, has_persistent, idle, is_attached_to, is_idle_in, is_pending, is_pending_in, pending, running, running_long}
use Rattle.tp_model.proofs.Lists.{all_along}
use Rattle.tp_model.proofs.Refusals.{and_false}
use Rattle.live_world.specs.declared.LiveWorld.TheInside.{Inside}
use Rattle.world_reads.specs.declared.tally.Tally.{Tally}
use Rattle.world_reads.specs.Tally.{tally_of}
use Rattle.live_world.specs.Tally.{tally_shown}
use Rattle.live_world.specs.Parts.{shown_worker}
use Rattle.live_world.specs.View.{shown, IsLiveWorld}
use Rattle.live_world.specs.Invariant.{IsHome}
use Rattle.live_world.proofs.Lists.{filter_map, filter_none, past_end}
use Rattle.live_world.proofs.Takeable.{lacks_persistent, occupied_shown}

-- ---- workers

-- an attached worker is idle or at work
idle_or_at_work : (pool : ℕ) (ws : List kept.WorkerRow) → length (filter (λ r. is_idle_in pool (shown_worker r)) ws) + length (filter (runs_in pool) ws) ≡ length (filter (is_attached_kept pool) ws)
idle_or_at_work pool [] = omega arith
idle_or_at_work pool (r ∷ rs) = one (is_attached_kept pool r) r.callback r _ _ _ (idle_or_at_work pool rs)
  where
    at_work : (n : ℕ) (x : kept.WorkerRow) (i w a : List kept.WorkerRow) → length i + length w ≡ length a → length (cond (is_none {T = ℕ} (cond (n == 0) None (Some n))) (x ∷ i) i) + length (cond (nat_lt 0 n) (x ∷ w) w) ≡ length (x ∷ a)
    at_work zero x i w a e = omega (arith, e)
    at_work (suc n) x i w a e =
        subst (λ b. length (cond (is_none {T = ℕ} (cond b None (Some (suc n)))) (x ∷ i) i) + length (cond (nat_lt 0 (suc n)) (x ∷ w) w) ≡ length (x ∷ a)) (sym (ne_eqb (suc n) 0 (λ z. omega (arith, z))))
        (subst (λ b. length i + length (cond b (x ∷ w) w) ≡ length (x ∷ a)) (sym (lt-ltb 0 (suc n) (omega arith))) (omega (arith, e)))

    one : (b : Bool) (n : ℕ) (x : kept.WorkerRow) (i w a : List kept.WorkerRow) → length i + length w ≡ length a → length (cond (b && is_none {T = ℕ} (cond (n == 0) None (Some n))) (x ∷ i) i) + length (cond (b && nat_lt 0 n) (x ∷ w) w) ≡ length (cond b (x ∷ a) a)
    one true n x i w a e = at_work n x i w a e
    one false n x i w a e = e

attached_shown : (i : Inside) (pool : ℕ) → attached (shown i).world pool ≡ length (filter (is_attached_kept pool) i.pools.workers)
attached_shown i pool = ap length (filter_map (is_attached_to pool) shown_worker i.pools.workers) ∙ length-map (filter (is_attached_kept pool) i.pools.workers) shown_worker

idle_shown : (i : Inside) (pool : ℕ) → idle (shown i).world pool + length (filter (runs_in pool) i.pools.workers) ≡ length (filter (is_attached_kept pool) i.pools.workers)
idle_shown i pool =
    ap (λ n. n + length (filter (runs_in pool) i.pools.workers)) (ap length (filter_map (is_idle_in pool) shown_worker i.pools.workers) ∙ length-map (filter (λ r. is_idle_in pool (shown_worker r)) i.pools.workers) shown_worker)
    ∙ idle_or_at_work pool i.pools.workers

elsewhere : (pools pool : ℕ) → pools ≤ pool → (o : Option PoolId) → IfSome o (λ (p : PoolId). p.0 < pools) → option_map_or (λ (p : PoolId). p.0 == pool) o false ≡ false
elsewhere pools pool past None home = refl
elsewhere pools pool past (Some p) home = ne_eqb p.0 pool (λ e. omega (arith, e, home, past))

-- no worker is attached to a pool that was not made
attached_nowhere : (pools pool : ℕ) (ws : List kept.WorkerRow) → pools ≤ pool → AllByRecursion (IsHome pools) ws → filter (is_attached_kept pool) ws ≡ []
attached_nowhere pools pool ws past homes = filter_none (is_attached_kept pool) ws (all_along (IsHome pools) (λ w. is_attached_kept pool w ≡ false) (λ w home. elsewhere pools pool past w.pool home) ws homes)

-- nor as its persistent worker
none_persistent : (pools pool : ℕ) (ws : List kept.WorkerRow) → pools ≤ pool → AllByRecursion (IsHome pools) ws → length (filter (is_persistent_kept pool) ws) ≡ 0
none_persistent pools pool ws past homes =
    ap length (filter_none (is_persistent_kept pool) ws (all_along (IsHome pools) (λ w. is_persistent_kept pool w ≡ false) (λ w home. ap (λ b. b && w.persistent) (elsewhere pools pool past w.pool home)) ws homes))

none_occupied : (pools pool : ℕ) (ws : List kept.WorkerRow) → pools ≤ pool → AllByRecursion (IsHome pools) ws → length (filter (is_occupied_in pool) ws) ≡ 0
none_occupied pools pool ws past homes =
    ap length (filter_none (is_occupied_in pool) ws (all_along (IsHome pools) (λ w. is_occupied_in pool w ≡ false) (λ w home. ap (λ b. (b && w.persistent) && runs w) (elsewhere pools pool past w.pool home)) ws homes))

not_pending : (pools pool : ℕ) → pools ≤ pool → (c : CallbackRow) → c.pool.0 < pools → is_pending_in pool c ≡ false
not_pending pools pool past c lt = ap (λ b. is_pending c.status && b) (ne_eqb c.pool.0 pool (λ e. omega (arith, e, lt, past))) ∙ and_false (is_pending c.status)

-- and no callback of it is pending
none_pending : (pools pool : ℕ) (cs : List CallbackRow) → pools ≤ pool → AllByRecursion (λ (c : CallbackRow). c.pool.0 < pools) cs → filter (is_pending_in pool) cs ≡ []
none_pending pools pool cs past homes =
    filter_none (is_pending_in pool) cs (all_along (λ (c : CallbackRow). c.pool.0 < pools) (λ c. is_pending_in pool c ≡ false) (not_pending pools pool past) cs homes)

-- ---- the tally

abbrev counts_at : Inside → ℕ → PoolRow → Counts
counts_at i pool row = record {
  minimum = row.minimum;
  maximum = row.maximum;
  closed = row.closed;
  running = length (filter (runs_in pool) i.pools.workers);
  attached = length (filter (is_attached_kept pool) i.pools.workers);
  long = length (filter (runs_long_in pool) i.pools.workers);
  persistent = length (filter (is_persistent_kept pool) i.pools.workers);
  occupied = length (filter (is_occupied_in pool) i.pools.workers);
}

abbrev pub no_tally : Tally
no_tally = record { minimum = 0; maximum = 0; pending = 0; running = 0; attached = 0; idle = 0; available = 0; occupied = false }

same_tally : (m m' x x' p p' r r' a a' i i' v v' : ℕ) (o o' : Bool) → m ≡ m' → x ≡ x' → p ≡ p' → r ≡ r' → a ≡ a' → i ≡ i' → v ≡ v' → o ≡ o'
    → ◌≡◌ {A = Tally}
    (record { minimum = m; maximum = x; pending = p; running = r; attached = a; idle = i; available = v; occupied = o })
    (record { minimum = m'; maximum = x'; pending = p'; running = r'; attached = a'; idle = i'; available = v'; occupied = o' })
same_tally m m' x x' p p' r r' a a' i i' v v' o o' em ex ep er ea ei ev eo = cc

pub is_tally : (i : Inside) (pool : ℕ) (counts : Counts) → IsLiveWorld i → counts_of pool i.pools ≡ Some counts → tally_shown (pending (shown i).world pool) counts ≡ tally_of (shown i).world pool
is_tally i pool counts k is = known (slice_get i.pools.pools pool) refl is
  where
    some_same : (x y : Counts) → Some x ≡ Some y → x ≡ y
    some_same x y e = cc

    known : (o : Option PoolRow) → slice_get i.pools.pools pool ≡ o → counts_of pool i.pools ≡ Some counts → tally_shown (pending (shown i).world pool) counts ≡ tally_of (shown i).world pool
    known None e h = let none : None ≡ Some counts = sym (ap (option_map (counts_at i pool)) e) ∙ h in absurd cc
    known (Some row) e h =
        let same : counts_at i pool row ≡ counts = some_same (counts_at i pool row) counts (sym (ap (option_map (counts_at i pool)) e) ∙ h) in
        let w : World = (shown i).world in
        let ran : counts.running ≡ running w pool = ap (λ (x : Counts). x.running) (sym same) ∙ sym (k.tallied.run pool) in
        let long : counts.long ≡ running_long w pool = ap (λ (x : Counts). x.long) (sym same) ∙ sym (k.tallied.run_long pool) in
        let joined : counts.attached ≡ attached w pool = ap (λ (x : Counts). x.attached) (sym same) ∙ sym (attached_shown i pool) in
        same_tally _ _ _ _ _ _ _ _ _ _ _ _ _ _ _ _
        (ap (λ (x : Counts). cond x.closed 0 x.minimum) (sym same) ∙ sym (ap (λ o. option_map_or (λ (p : PoolRow). cond p.closed 0 p.minimum) o 0) e))
        (ap (λ (x : Counts). x.maximum) (sym same) ∙ sym (ap (λ o. option_map_or (λ (p : PoolRow). p.maximum) o 0) e))
        refl
        ran joined
        (ap₂ (λ m n. m - n) (ap (λ (x : Counts). x.attached) (sym same)) (ap (λ (x : Counts). x.running) (sym same)) ∙ sym (less _ _ _ (idle_shown i pool)))
        (ap₂ (λ m n. m - n) joined long)
        (ap (λ (x : Counts). nat_lt 0 x.occupied) (sym same) ∙ occupied_shown w i.pools.workers refl pool)
      where
        less : (m n k : ℕ) → m + n ≡ k → m ≡ k - n
        less m n k e = omega (arith, e)

-- of a pool that was not made
pub is_no_tally : (i : Inside) (pool : ℕ) → IsLiveWorld i → counts_of pool i.pools ≡ None → no_tally ≡ tally_of (shown i).world pool
is_no_tally i pool k is = known (slice_get i.pools.pools pool) refl is
  where
    known : (o : Option PoolRow) → slice_get i.pools.pools pool ≡ o → counts_of pool i.pools ≡ None → no_tally ≡ tally_of (shown i).world pool
    known (Some row) e h = let some : Some (counts_at i pool row) ≡ None = sym (ap (option_map (counts_at i pool)) e) ∙ h in absurd cc
    known None e h =
        let w : World = (shown i).world in
        let past : length i.pools.pools ≤ pool = past_end i.pools.pools pool e in
        let none_joined : attached w pool ≡ 0 = attached_shown i pool ∙ ap length (attached_nowhere (length i.pools.pools) pool i.pools.workers past k.sized.homes) in
        let none_run : length (filter (runs_in pool) i.pools.workers) ≡ 0 = omega (arith, idle_shown i pool, attached_shown i pool, none_joined) in
        same_tally _ _ _ _ _ _ _ _ _ _ _ _ _ _ _ _
        (sym (ap (λ o. option_map_or (λ (p : PoolRow). cond p.closed 0 p.minimum) o 0) e))
        (sym (ap (λ o. option_map_or (λ (p : PoolRow). p.maximum) o 0) e))
        (sym (ap length (none_pending (length i.pools.pools) pool i.callbacks.rows past k.sound.callback_pools)))
        (sym (k.tallied.run pool ∙ none_run))
        (sym none_joined)
        (omega (arith, idle_shown i pool, attached_shown i pool, none_joined))
        (omega (arith, none_joined))
        (sym (ap (nat_lt 0) (none_occupied (length i.pools.pools) pool i.pools.workers past k.sized.homes)) ∙ occupied_shown w i.pools.workers refl pool)

-- whether it has no persistent worker
pub lacks_by_counts : (i : Inside) (pool : ℕ) (counts : Counts) → counts_of pool i.pools ≡ Some counts → (counts.persistent == 0) ≡ not (has_persistent (shown i).world pool)
lacks_by_counts i pool counts is = known (slice_get i.pools.pools pool) refl is
  where
    known : (o : Option PoolRow) → slice_get i.pools.pools pool ≡ o → counts_of pool i.pools ≡ Some counts → (counts.persistent == 0) ≡ not (has_persistent (shown i).world pool)
    known None e h = let none : None ≡ Some counts = sym (ap (option_map (counts_at i pool)) e) ∙ h in absurd cc
    known (Some row) e h =
        let both : Some (counts_at i pool row) ≡ Some counts = sym (ap (option_map (counts_at i pool)) e) ∙ h in
        let same : counts_at i pool row ≡ counts = cc in
        ap (λ (x : Counts). x.persistent == 0) (sym same) ∙ lacks_persistent (shown i).world i.pools.workers refl pool

pub lacks_unmade : (i : Inside) (pool : ℕ) → IsLiveWorld i → counts_of pool i.pools ≡ None → true ≡ not (has_persistent (shown i).world pool)
lacks_unmade i pool k is = known (slice_get i.pools.pools pool) refl is
  where
    known : (o : Option PoolRow) → slice_get i.pools.pools pool ≡ o → counts_of pool i.pools ≡ None → true ≡ not (has_persistent (shown i).world pool)
    known (Some row) e h = let some : Some (counts_at i pool row) ≡ None = sym (ap (option_map (counts_at i pool)) e) ∙ h in absurd cc
    known None e h =
        sym (ap (λ n. n == 0) (none_persistent (length i.pools.pools) pool i.pools.workers (past_end i.pools.pools pool e) k.sized.homes)) ∙ lacks_persistent (shown i).world i.pools.workers refl pool
