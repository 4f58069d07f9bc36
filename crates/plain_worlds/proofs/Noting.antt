-- The loop by which a close of a group gathers the objects that get a notice.
use Rattle.std.proofs.Common.{◌≡◌, ℕ, suc, ◌+◌, ◌-◌, ◌<◌, Bool, true, false, cond, List, [], ◌∷◌, ◌++◌, length, map, filter, get_or, Some, refl, sym, ap, ◌∙◌, arith, add-one, append_assoc}
use Rattle.std.specs.List.{range_with_len}
use Rattle.std.proofs.lemmas.Option.{slice_get-get_or}
use Rattle.tp_base.specs.declared.ids.ObjectId.{ObjectId}
use Rattle.tp_base.specs.declared.rows.ObjectRow.{ObjectRow}
use Rattle.tp_model.specs.Counts.{numbered}
use Rattle.tp_model.proofs.Refusals.{numbered_at}
use Rattle.tp_model.specs.Groups.{is_object_that, object_id}

number_at : {X : Type 0} (rows : List X) (i : ℕ) (d : X) → i < length rows → numbered rows (suc i) ≡ Some (get_or rows i d)
number_at rows i d h = numbered_at rows (suc i) (get_or rows i d) (omega arith) (let e : suc i - 1 ≡ i = omega arith in rw e (slice_get-get_or rows i d h))

-- an object gets a notice or doesn't
noted_by : (test : ℕ → Bool) (ns : List ObjectId) (n k : ℕ) (b : Bool) → test n ≡ b
    → cond b (ns ++ object_id n ∷ []) ns ++ map object_id (filter test (range_with_len (n + 1) k)) ≡ ns ++ map object_id (cond b (n ∷ filter test (range_with_len (n + 1) k)) (filter test (range_with_len (n + 1) k)))
noted_by test ns n k true e = append_assoc ns (object_id n ∷ []) (map object_id (filter test (range_with_len (n + 1) k)))
noted_by test ns n k false e = refl

passes : (test : ObjectRow → Bool) (objects : List ObjectRow) (i : ℕ) (d : ObjectRow) → i < length objects → is_object_that test objects (i + 1) ≡ test (get_or objects i d)
passes test objects i d h = rw (add-one i, number_at objects i d h) refl

noted : (test : ObjectRow → Bool) (objects : List ObjectRow) (ns : List ObjectId) (i : ℕ) (d : ObjectRow) (b : Bool) → i < length objects → test (get_or objects i d) ≡ b
    → cond b (ns ++ object_id (i + 1) ∷ []) ns ++ map object_id (filter (is_object_that test objects) (range_with_len (i + 1 + 1) (length objects - (i + 1)))) ≡ ns ++ map object_id (filter (is_object_that test objects) (range_with_len (i + 1) (length objects - i)))
noted test objects ns i d b h t =
    let e : length objects - i ≡ suc (length objects - (i + 1)) = omega arith in
    let by = noted_by (is_object_that test objects) ns (i + 1) (length objects - (i + 1)) b (passes test objects i d h ∙ t) in
    by ∙ ap (λ v. ns ++ map object_id v) (gathered (is_object_that test objects) (i + 1) (length objects - (i + 1)) b (passes test objects i d h ∙ t) ∙ ap (λ k. filter (is_object_that test objects) (range_with_len (i + 1) k)) (sym e))
  where
    gathered : (p : ℕ → Bool) (n k : ℕ) (b : Bool) → p n ≡ b → cond b (n ∷ filter p (range_with_len (n + 1) k)) (filter p (range_with_len (n + 1) k)) ≡ filter p (range_with_len n (suc k))
    gathered p n k b e = ap (λ v. cond v (n ∷ filter p (range_with_len (n + 1) k)) (filter p (range_with_len (n + 1) k))) (sym e)

-- one more object is gone through
pub noted_next : (test : ObjectRow → Bool) (objects : List ObjectRow) (ns ms whole : List ObjectId) (n m i : ℕ) (d : ObjectRow) (b : Bool) → n ≡ i → m ≡ n + 1 → i < length objects → b ≡ test (get_or objects i d)
    → ms ≡ cond b (ns ++ object_id m ∷ []) ns
    → ns ++ map object_id (filter (is_object_that test objects) (range_with_len (n + 1) (length objects - n))) ≡ whole
    → (m ≡ i + 1) × (ms ++ map object_id (filter (is_object_that test objects) (range_with_len (m + 1) (length objects - m))) ≡ whole)
noted_next test objects ns ms whole n m i d b at next h t e so_far =
    let within : n < length objects = omega arith in
    let tested : test (get_or objects n d) ≡ b = ap (λ k. test (get_or objects k d)) at ∙ sym t in
    (omega arith, rw (e, next) (noted test objects ns n d b within tested ∙ so_far))
