-- Tallies that are right for the workers, and stay right as one worker's row is written anew.
use Rattle.std.proofs.Common.{◌≡◌, false, [], ◌∷◌, replicate, suc, zero, ℕ, ◌+◌, ◌-◌, ◌<◌, ◌≤◌, ◌^◌, ◌∙◌, Bool, Bor, List, map, Option, None, Some, IfSome, length, get_or, set, inl, inr, arith, refl, ap, sym}
use Rattle.std.specs.Prelude.{filter}
use Rattle.std.specs.Int.{from_bool}
use Rattle.std.specs.Option.{option_copied}
use Rattle.std.specs.Slice.{IsGetResult}
use Rattle.std.proofs.lemmas.Bool.{cases_lt, eq-eqb}
use Rattle.std.proofs.lemmas.List.{length-map, length-set}
use Rattle.tp_base.specs.declared.ids.PoolId.{PoolId}
use Rattle.pool_rows.specs.declared.WorkerRow.{WorkerRow}
use Rattle.pool_rows.specs.declared.tallies.PoolEntry.{PoolEntry}
use Rattle.pool_rows.specs.Workers.{is_attached_to, is_occupied_in, is_persistent_in, runs, runs_in, runs_long_in, unattached}
use Rattle.pool_rows.specs.Tallies.{AreTallied, FitsTally, IsWithinTally, no_workers, tally_at, tally_of, with_one}
use Rattle.pool_rows.proofs.Counting.{length-filter_le, length-filter_one, length-filter_set}
use Rattle.pool_rows.proofs.Entries.{tally_at_past}

module _ (es : List PoolEntry) (ws : List WorkerRow) (tallied : AreTallied es ws) (i : ℕ) (within : i < length ws) (old d : WorkerRow) (is : old ≡ get_or ws i d) where
  -- the old row counts, until it is written anew
  counts : (test : WorkerRow → Bool) → from_bool (test old) ≤ length (filter test ws)
  counts test = rw is (length-filter_one test ws i d within)

  changes : (test : WorkerRow → Bool) (new : WorkerRow) → length (filter test (set ws i new)) + from_bool (test old) ≡ length (filter test ws) + from_bool (test new)
  changes test new = rw is (length-filter_set test ws i new d within)

  -- as one that runs a callback, too
  pub counts_busy : from_bool (runs old) ≤ length (filter runs ws)
  counts_busy = counts runs

  pub busy_after : (new : WorkerRow) → length (filter runs ws) - from_bool (runs old) + from_bool (runs new) ≡ length (filter runs (set ws i new))
  busy_after new = omega (arith, counts runs, changes runs new)

  pub busy_fits : (new : WorkerRow) → length ws < 2 ^ 32 → length (filter runs ws) - from_bool (runs old) + from_bool (runs new) < 2 ^ 32
  busy_fits new few = omega (arith, busy_after new, length-filter_le runs (set ws i new), length-set ws i new, few)

  -- the worker's pool was made, since a pool that wasn't has no workers
  made_of : (o : Option PoolId) → old.pool ≡ o → IfSome o (λ pool. pool.0 < length es)
  made_of None own = tt
  made_of (Some pool) own = elim (cases_lt pool.0 (length es)) [
    | inl lt ↦ lt
    | inr past ↦
        let none : length (filter (is_attached_to pool.0) ws) ≡ 0 = ap (λ t. t.attached) (sym (tallied pool.0) ∙ tally_at_past es pool.0 past) in
        let one : from_bool (is_attached_to pool.0 old) ≡ 1 = rw own (ap from_bool (eq-eqb pool.0 pool.0 refl)) in
        absurd (omega (arith, counts (is_attached_to pool.0)))
  ]

  pub pool_made : IfSome old.pool (λ pool. pool.0 < length es)
  pool_made = made_of _ refl

  -- the worker is counted in the tallies
  pub counted : (p : ℕ) → IsWithinTally (with_one p old no_workers) (tally_at es p)
  counted p = rw (tallied p) (record {
    attached = omega (arith, counts (is_attached_to p));
    running = omega (arith, counts (runs_in p));
    long = omega (arith, counts (runs_long_in p));
    persistent = omega (arith, counts (is_persistent_in p));
    occupied = omega (arith, counts (is_occupied_in p));
  })

  module _ (new : WorkerRow) (without : List PoolEntry) (left : (p : ℕ) → tally_at es p ≡ with_one p old (tally_at without p)) where
    -- the tallies without the old row and with the new one
    changed : (p : ℕ) → with_one p new (tally_at without p) ≡ tally_of p (set ws i new)
    changed p =
        let before = sym (tallied p) ∙ left p in
        let attached : (tally_at without p).attached + from_bool (is_attached_to p new) ≡ length (filter (is_attached_to p) (set ws i new)) =
        omega (arith, ap (λ t. t.attached) before, changes (is_attached_to p) new) in
        let running : (tally_at without p).running + from_bool (runs_in p new) ≡ length (filter (runs_in p) (set ws i new)) =
        omega (arith, ap (λ t. t.running) before, changes (runs_in p) new) in
        let long : (tally_at without p).long + from_bool (runs_long_in p new) ≡ length (filter (runs_long_in p) (set ws i new)) =
        omega (arith, ap (λ t. t.long) before, changes (runs_long_in p) new) in
        let persistent : (tally_at without p).persistent + from_bool (is_persistent_in p new) ≡ length (filter (is_persistent_in p) (set ws i new)) =
        omega (arith, ap (λ t. t.persistent) before, changes (is_persistent_in p) new) in
        let occupied : (tally_at without p).occupied + from_bool (is_occupied_in p new) ≡ length (filter (is_occupied_in p) (set ws i new)) =
        omega (arith, ap (λ t. t.occupied) before, changes (is_occupied_in p) new) in
        cc

    pub fits : length ws < 2 ^ 32 → (p : ℕ) → FitsTally (with_one p new (tally_at without p))
    fits few p = rw (changed p) (record {
      attached = omega (arith, length-filter_le (is_attached_to p) (set ws i new), length-set ws i new);
      running = omega (arith, length-filter_le (runs_in p) (set ws i new), length-set ws i new);
      long = omega (arith, length-filter_le (runs_long_in p) (set ws i new), length-set ws i new);
      persistent = omega (arith, length-filter_le (is_persistent_in p) (set ws i new), length-set ws i new);
      occupied = omega (arith, length-filter_le (is_occupied_in p) (set ws i new), length-set ws i new);
    })

    pub retallied : (after : List PoolEntry) → ((p : ℕ) → tally_at after p ≡ with_one p new (tally_at without p)) → (p : ℕ) → tally_at after p ≡ tally_of p (set ws i new)
    retallied after joined p = joined p ∙ changed p

-- the same of a worker that was looked up
pub looked_up : (es : List PoolEntry) (ws : List WorkerRow) → AreTallied es ws → (i : ℕ) (r : Option (Bor WorkerRow)) → IsGetResult ws i i r
    → IfSome (option_copied r) (λ worker. IfSome worker.pool (λ pool. pool.0 < length (map (λ (e : PoolEntry). e.row) es)))
looked_up es ws tallied i None got = tt
looked_up es ws tallied i (Some x) got = rw length-map (pool_made es ws tallied i got.3.0 x.now x.now got.1)

-- at first no worker is attached to a pool
none_at_first : (test : WorkerRow → Bool) → test unattached ≡ false → (n : ℕ) → length (filter test (replicate n unattached)) ≡ 0
none_at_first test fails zero = refl
none_at_first test fails (suc n) = rw fails (none_at_first test fails n)

pub busy_at_first : (n : ℕ) → 0 ≡ length (filter runs (replicate n unattached))
busy_at_first n = sym (none_at_first runs refl n)

none_of : (p n : ℕ) → tally_of p (replicate n unattached) ≡ no_workers
none_of p n =
    rw (
      none_at_first (is_attached_to p) refl n,
      none_at_first (runs_in p) refl n,
      none_at_first (runs_long_in p) refl n,
      none_at_first (is_persistent_in p) refl n,
      none_at_first (is_occupied_in p) refl n,
    )

pub tallied_at_first : (e : PoolEntry) → e.tally ≡ no_workers → (n : ℕ) → AreTallied (e ∷ []) (replicate n unattached)
tallied_at_first e none n zero = none ∙ sym (none_of zero n)
tallied_at_first e none n (suc p) = sym (none_of (suc p) n)
