-- Entries in which one tally changed.
use Rattle.std.proofs.Common.{◌≡◌, ◌≢◌, ℕ, ◌<◌, List, [], ◌∷◌, length, get_or, set, Some, arith, refl, suc, zero}
use Rattle.std.specs.List.{slice_get}
use Rattle.std.specs.Option.{option_map_or}
use Rattle.tp_base.specs.declared.rows.PoolRow.{PoolRow}
use Rattle.std.proofs.Common.{◌≤◌, inl, inr, map, ap, sym, ◌∙◌}
use Rattle.std.proofs.Math.Seq.{map-set_same}
use Rattle.std.proofs.lemmas.List.{length-map, map-set}
use Rattle.std.proofs.lemmas.Option.{slice_get-map, slice_get-get_or}
use Rattle.std.proofs.lemmas.Bool.{cases_eq}
use Rattle.std.proofs.lemmas.Bool.Decides.{nat_tests}
use Rattle.tp_base.specs.declared.ids.PoolId.{PoolId}
use Rattle.pool_rows.specs.declared.WorkerRow.{WorkerRow}
use Rattle.pool_rows.specs.declared.tallies.Tally.{Tally}
use Rattle.pool_rows.specs.declared.tallies.PoolEntry.{PoolEntry}
use Rattle.pool_rows.specs.Tallies.{no_workers, tally_at, with_one, with_own}

pub tally_at-set_same : (es : List PoolEntry) (p : ℕ) (e : PoolEntry) → p < length es → tally_at (set es p e) p ≡ e.tally
tally_at-set_same [] p e within = absurd (omega arith)
tally_at-set_same (x ∷ es) zero e within = refl
tally_at-set_same (x ∷ es) (suc p) e within = tally_at-set_same es p e (omega arith)

pub tally_at-set_other : (es : List PoolEntry) (p q : ℕ) (e : PoolEntry) → q ≢ p → tally_at (set es p e) q ≡ tally_at es q
tally_at-set_other [] p q e other = refl
tally_at-set_other (x ∷ es) zero zero e other = absurd (other refl)
tally_at-set_other (x ∷ es) zero (suc q) e other = refl
tally_at-set_other (x ∷ es) (suc p) zero e other = refl
tally_at-set_other (x ∷ es) (suc p) (suc q) e other = tally_at-set_other es p q e (omega arith)

pub tally_at-get_or : (es : List PoolEntry) (p : ℕ) (d : PoolEntry) → p < length es → tally_at es p ≡ (get_or es p d).tally
tally_at-get_or [] p d within = absurd (omega arith)
tally_at-get_or (x ∷ es) zero d within = refl
tally_at-get_or (x ∷ es) (suc p) d within = tally_at-get_or es p d (omega arith)

module _ (worker : WorkerRow) (pool : PoolId) (own : worker.pool ≡ Some pool) where
  -- a worker counts in its own pool
  with_one_own : (t : Tally) → with_one pool.0 worker t ≡ with_own worker t
  with_one_own t = rw own (grind (arith, nat_tests))

  -- and in no other
  with_one_other : (q : ℕ) (t : Tally) → q ≢ pool.0 → with_one q worker t ≡ t
  with_one_other q t other = rw own (grind (arith, nat_tests))

  -- the tallies after the worker's pool got this tally
  module _ (es : List PoolEntry) (within : pool.0 < length es) (d e : PoolEntry) where
    pub joined : e.tally ≡ with_own worker (get_or es pool.0 d).tally → (q : ℕ) → tally_at (set es pool.0 e) q ≡ with_one q worker (tally_at es q)
    joined more q = elim (cases_eq q pool.0) [
      | inl same ↦ rw same (tally_at-set_same es pool.0 e within ∙ (more ∙ (ap (with_own worker) (sym (tally_at-get_or es pool.0 d within)) ∙ sym (with_one_own (tally_at es pool.0)))))
      | inr other ↦ rw (tally_at-set_other es pool.0 q e other, with_one_other q (tally_at es q) other)
    ]

    pub left : (get_or es pool.0 d).tally ≡ with_own worker e.tally → (q : ℕ) → tally_at es q ≡ with_one q worker (tally_at (set es pool.0 e) q)
    left less q = elim (cases_eq q pool.0) [
      | inl same ↦ rw same (tally_at-get_or es pool.0 d within ∙ (less ∙ (ap (with_own worker) (sym (tally_at-set_same es pool.0 e within)) ∙ sym (with_one_own (tally_at (set es pool.0 e) pool.0)))))
      | inr other ↦ rw (tally_at-set_other es pool.0 q e other, with_one_other q (tally_at es q) other)
    ]

    -- an entry of the same row leaves the rows as they were
    pub rows_same : e.row ≡ (get_or es pool.0 d).row → map (λ (x : PoolEntry). x.row) (set es pool.0 e) ≡ map (λ (x : PoolEntry). x.row) es
    rows_same same = map-set_same (λ (x : PoolEntry). x.row) es pool.0 e d same

-- a pool that was never made has no workers
pub tally_at_past : (es : List PoolEntry) (p : ℕ) → length es ≤ p → tally_at es p ≡ no_workers
tally_at_past [] p past = refl
tally_at_past (x ∷ es) zero past = absurd (omega arith)
tally_at_past (x ∷ es) (suc p) past = tally_at_past es p (omega arith)

-- the rows after one entry got another row
pub rows_changed : (f : PoolRow → PoolRow) (es : List PoolEntry) (p : ℕ) (e d : PoolEntry) → p < length (map (λ (x : PoolEntry). x.row) es) → e.row ≡ f (get_or es p d).row
    → (let rows = map (λ (x : PoolEntry). x.row) es in map (λ (x : PoolEntry). x.row) (set es p e) ≡ option_map_or (λ row. set rows p (f row)) (slice_get rows p) rows)
rows_changed f es p e d there is =
    let within : p < length es = rw length-map at there in
    rw (map-set (λ (x : PoolEntry). x.row) es p e, slice_get-map (λ (x : PoolEntry). x.row) es p, slice_get-get_or es p d within, is)
