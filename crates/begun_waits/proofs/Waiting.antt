-- How many places are for a wait, as one of them is written.
use Rattle.std.proofs.Common.{◌≡◌, ℕ, suc, zero, replicate, ◌+◌, ◌-◌, ◌<◌, ◌≤◌, Bool, true, false, cond, List, [], ◌∷◌, drop, filter, get_or, length, slice_get, slice_set, Option, None, Some, is_some, length-set, ap, sym, ◌∙◌, arith, refl}
use Rattle.std.specs.Int.{from_bool}
use Rattle.std.specs.List.{range_with_len}
use Rattle.std.proofs.lemmas.List.{drop-set-add, drop-set-lt, get_or-drop, length-drop}
use Rattle.std.proofs.lemmas.List.Sums.{count_by-le-length, length-filter}
use Rattle.std.proofs.lemmas.Option.{slice_get-get_or}
use Rattle.tp_model.proofs.Lists.{length_filter_set}
use Rattle.begun_waits.specs.declared.Purpose.{Purpose}
use Rattle.begun_waits.specs.Kept.{waiting_from}

-- ---- elements counted by their numbers

one_more : {X Y : Type 0} (b : Bool) (x : X) (y : Y) (xs : List X) (ys : List Y) → length xs ≡ length ys → length (cond b (x ∷ xs) xs) ≡ length (cond b (y ∷ ys) ys)
one_more true x y xs ys e = omega (arith, e)
one_more false x y xs ys e = e

pub counted_by : {X : Type 0} (test : X → Bool) (p : ℕ → Bool) (d : X) (xs : List X) (low : ℕ) → ((i : ℕ) → i < length xs → test (get_or xs i d) ≡ p (low + i)) → length (filter test xs) ≡ length (filter p (range_with_len low (length xs)))
counted_by test p d [] low same = refl
counted_by test p d (x ∷ xs) low same =
    ap (λ b. length (cond b (x ∷ filter test xs) (filter test xs))) here
    ∙ one_more (p low) x low (filter test xs) (filter p (range_with_len (low + 1) (length xs))) (counted_by test p d xs (low + 1) (λ i lt. same (suc i) (omega (arith, lt)) ∙ ap p (omega arith)))
  where
    here : test x ≡ p low
    here = same 0 (omega arith) ∙ ap p (omega arith)

-- ---- one place is written

-- one before those that are counted
pub before : (first : ℕ) (xs : List (Option Purpose)) (place : ℕ) (new : Option Purpose) → place < first → waiting_from first xs ≡ waiting_from first (slice_set xs place new)
before first xs place new lt = sym (ap (λ l. length (filter is_some l)) (drop-set-lt first xs place new lt))

module _ (first : ℕ) (xs : List (Option Purpose)) (place : ℕ) (there : place < length xs) (behind : first ≤ place) (old d : Option Purpose) (is : old ≡ get_or xs place d) where
  -- or one of those
  changed : (new : Option Purpose) → waiting_from first (slice_set xs place new) + cond (is_some old) 1 0 ≡ waiting_from first xs + cond (is_some new) 1 0
  changed new =
      ap (λ n. waiting_from first (slice_set xs n new) + cond (is_some old) 1 0) at
      ∙ ap (λ l. length (filter is_some l) + cond (is_some old) 1 0) (drop-set-add first xs (place - first) new)
      ∙ length_filter_set is_some (drop first xs) (place - first) old new found
    where
      at : place ≡ first + (place - first)
      at = omega (arith, behind)

      found : slice_get (drop first xs) (place - first) ≡ Some old
      found =
          slice_get-get_or (drop first xs) (place - first) d (omega (arith, length-drop first xs, there, behind))
          ∙ ap (λ x. Some x) (get_or-drop first xs (place - first) d ∙ ap (λ n. get_or xs n d) (sym at) ∙ sym is)

  as_one : (b : Bool) → from_bool b ≡ cond b 1 0
  as_one true = refl
  as_one false = refl

  -- the old one is counted
  pub least : from_bool (is_some old) ≤ waiting_from first xs
  least = omega (arith, as_one (is_some old), changed (None))

  -- and then the new one is
  pub after : (new : Option Purpose) → waiting_from first xs - from_bool (is_some old) + from_bool (is_some new) ≡ waiting_from first (slice_set xs place new)
  after new = omega (arith, as_one (is_some old), as_one (is_some new), changed new, least)

  pub most : (new : Option Purpose) → waiting_from first xs - from_bool (is_some old) + from_bool (is_some new) ≤ length xs
  most new =
      let later = slice_set xs place new in
      omega (arith, after new, length-filter is_some (drop first later), count_by-le-length is_some (drop first later), length-drop first later, length-set xs place new)

-- at first nobody waits
pub nobody : (first count : ℕ) → waiting_from first (replicate count None) ≡ 0
nobody zero zero = refl
nobody zero (suc count) = nobody zero count
nobody (suc first) zero = refl
nobody (suc first) (suc count) = nobody first count
