-- What is so of the states that were met, behind each step of a search.
use Rattle.std.proofs.Common.{◌≡◌, ◌≢◌, ◌⊎◌, ℕ, zero, suc, ◌+◌, ◌<◌, ◌≤◌, List, [], ◌∷◌, ◌++◌, Some, length, slice_get, get_or, refl, sym, ap, ◌∙◌, subst, inl, inr, arith}
use Rattle.std.specs.List.{AllPairs}
use Rattle.std.proofs.lemmas.List.{map-append, length-append}
use Rattle.std.proofs.lemmas.List.Quantifiers.{all_pairs_push}
use Rattle.std.proofs.lemmas.List.Sums.{fold_push}
use Rattle.std.proofs.lemmas.Option.{slice_get_within}
use Rattle.breadth_first.specs.declared.Next.{Next}
use Rattle.breadth_first.specs.declared.Next.TheVariants.{Nowhere, Bad, To}
use Rattle.breadth_first.specs.Rules.{Rules, move_of, goes_on, comes_to}
use Rattle.breadth_first.specs.Searched.{Met, AreMet, IsLedTo, IsMade, keys_of}
use Rattle.std.proofs.lemmas.Bool.{cases_lt}
use borrow.Author.Tests.{le-ltb}
use Rattle.breadth_first.proofs.Places.{get_kept, get_last, get_pushed}

-- a state that is met by this move of one that was
abbrev pub behind : {S : Type 0} → Met S → S → ℕ → Met S
behind m s by = record { state = s; path = m.path ++ by ∷ [] }

module _ {S : Type 0} (r : Rules S) where
  -- what a move of a state comes to that was met
  pub comes_by : (path : List ℕ) (s : S) (by : ℕ) → comes_to r path ≡ To s → comes_to r (path ++ by ∷ []) ≡ move_of r s by
  comes_by path s by h = fold_push (goes_on r) (To r.first) path by ∙ ap (λ (next : Next S). goes_on r next by) h

  -- the first state is met
  pub met_first : AreMet r (record { state = r.first; path = [] } ∷ []) 0 0
  met_first = record {
    begun = refl;
    reached = λ i m h. reached i m h;
    apart = λ i j d p q. absurd (omega arith);
    rising = λ i j m n p h k. rising i j m n h k;
    near = λ i m n h k. near i m n h k;
    made = λ i move m h k. elim h [ inl p ↦ absurd (omega arith) | inr p ↦ absurd (omega arith) ];
  }
    where
      first : Met S
      first = record { state = r.first; path = [] }

      alone : (i : ℕ) (m : Met S) → slice_get (first ∷ []) i ≡ Some m → first ≡ m
      alone zero m h = cc
      alone (suc i) m h = let off : ⊥ = cc in absurd off

      reached : (i : ℕ) (m : Met S) → slice_get (first ∷ []) i ≡ Some m → comes_to r m.path ≡ To m.state
      reached i m h = subst (λ (n : Met S). comes_to r n.path ≡ To n.state) (alone i m h) refl

      rising : (i j : ℕ) (m n : Met S) → slice_get (first ∷ []) i ≡ Some m → slice_get (first ∷ []) j ≡ Some n → length m.path ≤ length n.path
      rising i j m n h k = let e : m ≡ n = sym (alone i m h) ∙ alone j n k in subst (λ (x : Met S). length m.path ≤ length x.path) e (omega arith)

      near : (i : ℕ) (m n : Met S) → slice_get (first ∷ []) 0 ≡ Some m → slice_get (first ∷ []) i ≡ Some n → length n.path ≤ length m.path + 1
      near i m n h k = let e : m ≡ n = sym (alone 0 m h) ∙ alone i n k in subst (λ (x : Met S). length x.path ≤ length m.path + 1) e (omega arith)

  module _ (mets : List (Met S)) (at by : ℕ) (are : AreMet r mets at by) (m : Met S) (here : slice_get mets at ≡ Some m) where
    -- what stands at this place is this state
    here_same : (n : Met S) → slice_get mets at ≡ Some n → m ≡ n
    here_same n k = let both = sym here ∙ k in cc

    -- one more move is made, which leads to what was met
    pub met_passed : IsLedTo r mets (length m.path + 1) (move_of r m.state by) → AreMet r mets at (by + 1)
    met_passed led = record {
      begun = are.begun;
      reached = are.reached;
      apart = are.apart;
      rising = are.rising;
      near = are.near;
      made = made;
    }
      where
        this : (move : ℕ) → move < by + 1 → IsLedTo r mets (length m.path + 1) (move_of r m.state move)
        this move below = elim (cases_lt move by) [
          | inl before ↦ are.made at move m (inr (refl, before)) here
          | inr behind ↦ let e : by ≡ move = omega arith in subst (λ (k : ℕ). IsLedTo r mets (length m.path + 1) (move_of r m.state k)) e led
        ]

        made : (i move : ℕ) (n : Met S) → IsMade r mets at (by + 1) i move → slice_get mets i ≡ Some n → IsLedTo r mets (length n.path + 1) (move_of r n.state move)
        made i move n h k = elim h [
          | inl before ↦ are.made i move n (inl before) k
          | inr now ↦
              let e = here_same n (subst (λ (place : ℕ). slice_get mets place ≡ Some n) now.0 k) in
              subst (λ (x : Met S). IsLedTo r mets (length x.path + 1) (move_of r x.state move)) e (this move now.1)
        ]

    -- all its moves were made
    pub met_through : r.width ≤ by → AreMet r mets (at + 1) 0
    met_through all = record {
      begun = are.begun;
      reached = are.reached;
      apart = are.apart;
      rising = are.rising;
      near = λ i n p k h. omega (arith, are.near i m p here h, are.rising at (at + 1) m n (omega arith) here k);
      made = made;
    }
      where
        this : (move : ℕ) → IsLedTo r mets (length m.path + 1) (move_of r m.state move)
        this move = elim (cases_lt move by) [
          | inl before ↦ are.made at move m (inr (refl, before)) here
          | inr behind ↦ rw (le-ltb move r.width (omega arith)) tt
        ]

        made : (i move : ℕ) (n : Met S) → IsMade r mets (at + 1) 0 i move → slice_get mets i ≡ Some n → IsLedTo r mets (length n.path + 1) (move_of r n.state move)
        made i move n h k = elim h [
          | inl before ↦ elim (cases_lt i at) [
            | inl below ↦ are.made i move n (inl below) k
            | inr not ↦
                let e : i ≡ at = omega arith in
                subst (λ (x : Met S). IsLedTo r mets (length x.path + 1) (move_of r x.state move)) (here_same n (subst (λ (place : ℕ). slice_get mets place ≡ Some n) e k)) (this move)
          ]
          | inr none ↦ absurd (omega arith)
        ]

    -- a state is met by the next move
    module _ (s : S) (leads : move_of r m.state by ≡ To s) (new : (i : ℕ) (d : List ℕ) → i < length (keys_of r mets) → get_or (keys_of r mets) i d ≢ r.key s) where
      abbrev met_now : Met S
      met_now = behind m s by

      -- the places of what was met before
      old_or_now : (i : ℕ) (n : Met S) → slice_get (mets ++ met_now ∷ []) i ≡ Some n → (slice_get mets i ≡ Some n) ⊎ ((i ≡ length mets) × (met_now ≡ n))
      old_or_now i n h = get_pushed mets met_now i n h

      now_deep : length met_now.path ≡ length m.path + 1
      now_deep = length-append m.path (by ∷ [])

      led_more : (depth : ℕ) (next : Next S) → IsLedTo r mets depth next → IsLedTo r (mets ++ met_now ∷ []) depth next
      led_more depth Nowhere h = tt
      led_more depth Bad h = h
      led_more depth (To u) h = (h.0, h.1, get_kept mets (met_now ∷ []) h.0 h.1 h.2, h.3, h.4)

      here_more : slice_get (mets ++ met_now ∷ []) at ≡ Some m
      here_more = get_kept mets (met_now ∷ []) at m here

      with_more : AreMet r (mets ++ met_now ∷ []) at by
      with_more = record {
        begun = get_kept mets (met_now ∷ []) 0 _ are.begun;
        reached = λ i n h. elim (old_or_now i n h) [
          | inl old ↦ are.reached i n old
          | inr now ↦ subst (λ (x : Met S). comes_to r x.path ≡ To x.state) now.1 (comes_by m.path m.state by (are.reached at m here) ∙ leads)
        ];
        apart = subst (AllPairs (λ (a b : List ℕ). a ≢ b)) (sym (map-append (λ (x : Met S). r.key x.state) mets (met_now ∷ []))) (all_pairs_push (λ (a b : List ℕ). a ≢ b) (keys_of r mets) (r.key s) are.apart new);
        rising = λ i j n p up h k. rising i j n p up (old_or_now i n h) (old_or_now j p k);
        near = λ i n p h k. near i n p (old_or_now at n h) (old_or_now i p k);
        made = λ i move n h k. made i move n h (old_or_now i n k);
      }
        where
          within : (i : ℕ) (n : Met S) → slice_get mets i ≡ Some n → i < length mets
          within i n h = slice_get_within mets i n h

          long : (n : Met S) → met_now ≡ n → length n.path ≡ length m.path + 1
          long n e = subst (λ (x : Met S). length x.path ≡ length m.path + 1) e now_deep

          same : (n : Met S) → slice_get mets at ≡ Some n → length n.path ≡ length m.path
          same n h = ap (λ (x : Met S). length x.path) (sym (here_same n h))

          rising : (i j : ℕ) (n p : Met S) → i ≤ j → (slice_get mets i ≡ Some n) ⊎ ((i ≡ length mets) × (met_now ≡ n)) → (slice_get mets j ≡ Some p) ⊎ ((j ≡ length mets) × (met_now ≡ p)) → length n.path ≤ length p.path
          rising i j n p up (inl h) (inl k) = are.rising i j n p up h k
          rising i j n p up (inl h) (inr k) = omega (arith, are.near i m n here h, long p k.1)
          rising i j n p up (inr h) (inl k) = absurd (omega (arith, within j p k))
          rising i j n p up (inr h) (inr k) = omega (arith, long n h.1, long p k.1)

          near : (i : ℕ) (n p : Met S) → (slice_get mets at ≡ Some n) ⊎ ((at ≡ length mets) × (met_now ≡ n)) → (slice_get mets i ≡ Some p) ⊎ ((i ≡ length mets) × (met_now ≡ p)) → length p.path ≤ length n.path + 1
          near i n p (inl h) (inl k) = are.near i n p h k
          near i n p (inl h) (inr k) = omega (arith, same n h, long p k.1)
          near i n p (inr h) k = absurd (omega (arith, within at m here))

          made : (i move : ℕ) (n : Met S) → IsMade r (mets ++ met_now ∷ []) at by i move → (slice_get mets i ≡ Some n) ⊎ ((i ≡ length mets) × (met_now ≡ n)) → IsLedTo r (mets ++ met_now ∷ []) (length n.path + 1) (move_of r n.state move)
          made i move n h (inl k) = led_more (length n.path + 1) (move_of r n.state move) (are.made i move n h k)
          made i move n (inl h) (inr k) = absurd (omega (arith, within at m here))
          made i move n (inr h) (inr k) = absurd (omega (arith, within at m here))

      led_now : IsLedTo r (mets ++ met_now ∷ []) (length m.path + 1) (move_of r m.state by)
      led_now = subst (IsLedTo r (mets ++ met_now ∷ []) (length m.path + 1)) (sym leads) (length mets, met_now, get_last mets met_now, refl, omega (arith, now_deep))

  pub met_more : (mets : List (Met S)) (at by : ℕ) (are : AreMet r mets at by) (m : Met S) (here : slice_get mets at ≡ Some m) (s : S) (leads : move_of r m.state by ≡ To s) (new : (i : ℕ) (d : List ℕ) → i < length (keys_of r mets) → get_or (keys_of r mets) i d ≢ r.key s)
      → AreMet r (mets ++ behind m s by ∷ []) at (by + 1)
  met_more mets at by are m here s leads new =
      met_passed (mets ++ behind m s by ∷ []) at by (with_more mets at by are m here s leads new) m (here_more mets at by are m here s leads new) (led_now mets at by are m here s leads new)
