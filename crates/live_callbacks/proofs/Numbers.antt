-- What a look or an edit by number comes to, where the place of the number is known.
use Rattle.std.proofs.Common.{Bool, ◌≡◌, ◌≢◌, ℕ, ◌+◌, ◌<◌, ◌≤◌, List, [], ◌∷◌, length, get_or, set, drop, Some, None, true, false, arith, refl, suc, zero}
use Rattle.std.specs.Prelude.{◌==◌, find, filter, not, nat_lt}
use Rattle.std.specs.List.{All, slice_get}
use Rattle.std.specs.List.Sorted.{IsPartitionPoint}
use Rattle.std.proofs.lemmas.Bool.Decides.{nat_tests}
use Rattle.live_callbacks.specs.declared.places.Entry.{Entry}
use Rattle.live_callbacks.specs.Places.{IsPlaceOf, IsPlaceOfRow, live}

module _ (n : ℕ) where
  -- no entry of the list has the number
  abbrev pub IsAbsent : List Entry → Type 0
  IsAbsent es = All (λ e. e.number ≢ n) es

  absent_in_rest : (e : Entry) (es : List Entry) → IsAbsent (e ∷ es) → IsAbsent es
  absent_in_rest e es absent k d lt = absent (suc k) d (omega arith)

  -- then it isn't found
  pub find_absent : (es : List Entry) → IsAbsent es → find (λ e. e.number == n) (live es) ≡ None
  find_absent [] absent = refl
  find_absent (e ∷ es) absent =
      grind (arith, nat_tests, absent 0 e (omega arith), find_absent es (absent_in_rest e es absent))

  -- and taking it out changes nothing
  filter_absent : (es : List Entry) → IsAbsent es → filter (λ e. not (e.number == n)) (live es) ≡ live es
  filter_absent [] absent = refl
  filter_absent (e ∷ es) absent =
      grind (arith, nat_tests, absent 0 e (omega arith), filter_absent es (absent_in_rest e es absent))

  -- the place is one lower in the rest
  place_in_rest : (e : Entry) (es : List Entry) (i : ℕ) → IsPlaceOf (e ∷ es) n (suc i) → IsPlaceOf es n i
  place_in_rest e es i place = record {
    within = omega (arith, place.within);
    here = λ d. place.here d;
    others = λ k d lt other. place.others (suc k) d (omega arith) (omega arith);
  }

  row_in_rest : (e : Entry) (es : List Entry) (i : ℕ) → IsPlaceOfRow (e ∷ es) n (suc i) → IsPlaceOfRow es n i
  row_in_rest e es i at = record { entry = place_in_rest e es i at.entry; there = λ d. at.there d }

  -- where the first entry has the number, no entry of the rest has it
  absent_after_first : (e : Entry) (es : List Entry) → IsPlaceOf (e ∷ es) n 0 → IsAbsent es
  absent_after_first e es place k d lt = place.others (suc k) d (omega arith) (omega arith)

  -- an entry whose row left isn't found
  pub find_left : (es : List Entry) (i : ℕ) (d : Entry) → IsPlaceOf es n i → (get_or es i d).there ≡ false → find (λ e. e.number == n) (live es) ≡ None
  find_left [] i d place left = refl
  find_left (e ∷ es) zero d place left = grind (arith, left, find_absent es (absent_after_first e es place))
  find_left (e ∷ es) (suc i) d place left =
      grind (arith, nat_tests, place.others 0 e (omega arith) (omega arith), find_left es i d (place_in_rest e es i place) left)

  pub find_present : (es : List Entry) (i : ℕ) (d : Entry) → IsPlaceOfRow es n i → find (λ e. e.number == n) (live es) ≡ Some (get_or es i d)
  find_present [] i d at = absurd (omega (arith, at.entry.within))
  find_present (e ∷ es) zero d at = grind (arith, nat_tests, at.entry.here d, at.there d)
  find_present (e ∷ es) (suc i) d at =
      grind (arith, nat_tests, at.entry.others 0 e (omega arith) (omega arith), find_present es i d (row_in_rest e es i at))

  pub filter_present : (es : List Entry) (i : ℕ) (own : Entry) → IsPlaceOfRow es n i → own ≡ get_or es i own → filter (λ e. not (e.number == n)) (live es) ≡ live (set es i (record own { there = false }))
  filter_present [] i own at here = absurd (omega (arith, at.entry.within))
  filter_present (e ∷ es) zero own at here =
      grind (arith, nat_tests, here, at.entry.here e, at.there e, filter_absent es (absent_after_first e es at.entry))
  filter_present (e ∷ es) (suc i) own at here =
      grind (arith, nat_tests, at.entry.others 0 e (omega arith) (omega arith), filter_present es i own (row_in_rest e es i at) here)

  -- one fewer is there then
  pub one_fewer : (es : List Entry) (i : ℕ) (own : Entry) → IsPlaceOfRow es n i → own ≡ get_or es i own → length (live es) ≡ length (live (set es i (record own { there = false }))) + 1
  one_fewer [] i own at here = absurd (omega (arith, at.entry.within))
  one_fewer (e ∷ es) zero own at here = grind (arith, here, at.there e)
  one_fewer (e ∷ es) (suc i) own at here = grind (arith, one_fewer es i own (row_in_rest e es i at) here)

  -- the first of those that pass a test whose number is above n stands where those up to n end, or behind that
  pub find_above_of : (g : Entry → Bool) (es : List Entry) (i : ℕ) → i ≤ length es → IsPartitionPoint (λ (e : Entry). e.number ≤ n) (λ (e : Entry). n < e.number) es i
      → find (λ e. nat_lt n e.number) (filter g (live es)) ≡ find g (live (drop i es))
  find_above_of g [] zero within parted = refl
  find_above_of g [] (suc i) within parted = absurd (omega arith)
  find_above_of g (e ∷ es) zero within parted =
      let rest : find (λ e. nat_lt n e.number) (filter g (live es)) ≡ find g (live (drop 0 es)) =
      find_above_of g es 0 (omega arith) (λ k d le lt. absurd (omega arith), λ k d le lt. parted.1 (suc k) d (omega arith) (omega arith)) in
      grind (arith, nat_tests, parted.1 0 e (omega arith) (omega arith), rest)
  find_above_of g (e ∷ es) (suc i) within parted =
      let rest : find (λ e. nat_lt n e.number) (filter g (live es)) ≡ find g (live (drop i es)) =
      find_above_of g es i (omega arith) (λ k d le lt. parted.0 (suc k) d (omega arith) (omega arith), λ k d le lt. parted.1 (suc k) d (omega arith) (omega arith)) in
      grind (arith, nat_tests, parted.0 0 e (omega arith) (omega arith), rest)

  pub find_above : (es : List Entry) (i : ℕ) → i ≤ length es → IsPartitionPoint (λ (e : Entry). e.number ≤ n) (λ (e : Entry). n < e.number) es i
      → find (λ e. nat_lt n e.number) (live es) ≡ slice_get (live (drop i es)) 0
  find_above [] zero within parted = refl
  find_above [] (suc i) within parted = absurd (omega arith)
  find_above (e ∷ es) zero within parted =
      let rest : find (λ e. nat_lt n e.number) (live es) ≡ slice_get (live (drop 0 es)) 0 =
      find_above es 0 (omega arith) (λ k d le lt. absurd (omega arith), λ k d le lt. parted.1 (suc k) d (omega arith) (omega arith)) in
      grind (arith, nat_tests, parted.1 0 e (omega arith) (omega arith), rest)
  find_above (e ∷ es) (suc i) within parted =
      let rest : find (λ e. nat_lt n e.number) (live es) ≡ slice_get (live (drop i es)) 0 =
      find_above es i (omega arith) (λ k d le lt. parted.0 (suc k) d (omega arith) (omega arith), λ k d le lt. parted.1 (suc k) d (omega arith) (omega arith)) in
      grind (arith, nat_tests, parted.0 0 e (omega arith) (omega arith), rest)

-- dropping what left changes nothing that is there
pub live_kept : (es : List Entry) → live (live es) ≡ live es
live_kept [] = refl
live_kept (e ∷ es) = grind (arith, live_kept es)

-- where all are there
pub live_all : (es : List Entry) → All (λ (e : Entry). e.there ≡ true) es → live es ≡ es
live_all [] there = refl
live_all (e ∷ es) there = grind (arith, there 0 e (omega arith), live_all es (λ k d lt. there (suc k) d (omega arith)))
