-- Rings, as a key comes into one of them or goes out.
use Rattle.std.proofs.Common.{◌≡◌, ◌≢◌, ◌==◌, ◌+◌, ◌⊎◌, inl, inr, ℕ, ◌≤◌, ◌<◌, List, [], ◌∷◌, length, set, get_or, refl, sym, ap, ◌∙◌, arith, ⊎_elim}
use Rattle.std.proofs.lemmas.Bool.{cases_eq}
use Rattle.std.proofs.lemmas.List.{length-set, get_or-set_same, get_or-set_other}
use Rattle.linked_lists.specs.Linked.{tally, times, put_behind}
use Rattle.linked_lists.specs.Rings.{AreRings, Edge, Run}
use Rattle.linked_lists.proofs.Runs.{Put, Out, after_there, back_of, before_there, on_of, run_put, run_kept, run_out, run_left, tally_same, tally_other, times-put_behind, times-without_other, times-without_same, without}

-- what a list is, as one of them changes
pub at_set : (lists : List (List ℕ)) (s t : ℕ) (xs : List ℕ) (P : List ℕ → Type 0) → s < length lists → (t ≡ s → P xs) → (t ≢ s → P (get_or lists t [])) → P (get_or (set lists s xs) t [])
at_set lists s t xs P within here other =
    ⊎_elim
    (λ (same : t ≡ s). rw (same, get_or-set_same lists s xs [] within) (here same))
    (λ (apart : t ≢ s). rw (get_or-set_other lists s t xs [] apart) (other apart))
    (cases_eq t s)

module _ (keys : ℕ) (after before own : ℕ → ℕ) (lists : List (List ℕ)) (rings : AreRings keys after before own lists) where
  -- a list's end, or a key of it, is once in its ring
  pub once_in : (s a : ℕ) → s < length lists → (a ≡ keys + s) ⊎ (own a ≡ s) → times a ((keys + s) ∷ get_or lists s []) ≡ 1
  once_in s a within of =
      ⊎_elim
      (λ (same : a ≡ keys + s).
      let far : own a ≢ s = λ e. absurd (omega (arith, rings.ends s within, e, ap own same)) in
      omega (arith, rings.once s a within, tally_same (keys + s) a (sym same), tally_other (own a) s far))
      (λ (owned : own a ≡ s).
      let far : keys + s ≢ a = λ e. absurd (omega (arith, rings.ends s within, owned, within, ap own e)) in
      omega (arith, rings.once s a within, tally_other (keys + s) a far, tally_same (own a) s owned))
      of

  -- and in no other
  pub none_in : (s t a : ℕ) → s < length lists → t < length lists → t ≢ s → (a ≡ keys + s) ⊎ (own a ≡ s) → times a ((keys + t) ∷ get_or lists t []) ≡ 0
  none_in s t a in_s in_t apart of =
      ⊎_elim
      (λ (same : a ≡ keys + s).
      let far : own a ≢ t = λ e. absurd (omega (arith, rings.ends s in_s, in_t, e, ap own same)) in
      let other : keys + t ≢ a = λ e. apart (omega (arith, e, same)) in
      omega (arith, rings.once t a in_t, tally_other (keys + t) a other, tally_other (own a) t far))
      (λ (owned : own a ≡ s).
      let far : own a ≢ t = λ e. apart (sym e ∙ owned) in
      let other : keys + t ≢ a = λ e. absurd (omega (arith, rings.ends t in_t, owned, in_s, ap own e)) in
      omega (arith, rings.once t a in_t, tally_other (keys + t) a other, tally_other (own a) t far))
      of

  -- a key that is in none of them
  pub free_in : (t p : ℕ) → t < length lists → p < keys → length lists ≤ own p → times p ((keys + t) ∷ get_or lists t []) ≡ 0
  free_in t p within far free =
      let other : keys + t ≢ p = λ e. absurd (omega (arith, far, e)) in
      let none : own p ≢ t = λ e. absurd (omega (arith, within, free, e)) in
      omega (arith, rings.once t p within, tally_other (keys + t) p other, tally_other (own p) t none)

  pub edge_behind : (s a : ℕ) → s < length lists → (a ≡ keys + s) ⊎ (own a ≡ s) → Edge after before a (after a)
  edge_behind s a within of =
      record { on = refl; back = back_of after before (keys + s) (keys + s) a (get_or lists s []) (rings.ring s within) (omega (arith, once_in s a within of)) }

  pub edge_before : (s b : ℕ) → s < length lists → (b ≡ keys + s) ⊎ (own b ≡ s) → Edge after before (before b) b
  edge_before s b within of =
      record { on = on_of after before (keys + s) (keys + s) b (get_or lists s []) (rings.ring s within) (omega (arith, once_in s b within of)); back = refl }

  of_ring : (s q : ℕ) → s < length lists → 0 < tally (keys + s == q) + times q (get_or lists s []) → (q ≡ keys + s) ⊎ (own q ≡ s)
  of_ring s q within there =
      ⊎_elim
      (λ (same : keys + s ≡ q). inl (sym same))
      (λ (apart : keys + s ≢ q).
      ⊎_elim
      (λ (owned : own q ≡ s). inr owned)
      (λ (not_s : own q ≢ s). absurd (omega (arith, there, rings.once s q within, tally_other (keys + s) q apart, tally_other (own q) s not_s)))
      (cases_eq (own q) s))
      (cases_eq (keys + s) q)

  -- what follows one of a ring, and what stands before it, are of the ring
  pub after_of : (s a : ℕ) → s < length lists → (a ≡ keys + s) ⊎ (own a ≡ s) → (after a ≡ keys + s) ⊎ (own (after a) ≡ s)
  after_of s a within of =
      let there = after_there after before (keys + s) (keys + s) a (get_or lists s []) (rings.ring s within) (omega (arith, once_in s a within of)) in
      of_ring s (after a) within (omega (arith, there))

  pub before_of : (s b : ℕ) → s < length lists → (b ≡ keys + s) ⊎ (own b ≡ s) → (before b ≡ keys + s) ⊎ (own (before b) ≡ s)
  before_of s b within of =
      let there = before_there after before (keys + s) (keys + s) b (get_or lists s []) (rings.ring s within) (omega (arith, once_in s b within of)) in
      of_ring s (before b) within (omega (arith, there))

  module _ (on back owns : ℕ → ℕ) (s a p : ℕ) (within : s < length lists) (of : (a ≡ keys + s) ⊎ (own a ≡ s)) (far : p < keys) (free : length lists ≤ own p) where
    owned_once : owns p ≡ s → ((q : ℕ) → q ≢ p → owns q ≡ own q) → (q : ℕ) → tally (own q == s) + tally (p == q) ≡ tally (owns q == s)
    owned_once owned same q =
        ⊎_elim
        (λ (is : q ≡ p).
        let not_s : own q ≢ s = λ e. absurd (omega (arith, within, free, e, ap own is)) in
        omega (arith, tally_other (own q) s not_s, tally_same p q (sym is), tally_same (owns q) s (ap owns is ∙ owned)))
        (λ (apart : q ≢ p). rw (same q apart) (omega (arith, tally_other p q (λ e. apart (sym e)))))
        (cases_eq q p)

    owned_other : owns p ≡ s → ((q : ℕ) → q ≢ p → owns q ≡ own q) → (t q : ℕ) → t < length lists → t ≢ s → tally (own q == t) ≡ tally (owns q == t)
    owned_other owned same t q in_t apart =
        ⊎_elim
        (λ (is : q ≡ p).
        let not_t : own q ≢ t = λ e. absurd (omega (arith, in_t, free, e, ap own is)) in
        let not_s : owns q ≢ t = λ e. apart (sym e ∙ ap owns is ∙ owned) in
        omega (arith, tally_other (own q) t not_t, tally_other (owns q) t not_s))
        (λ (other : q ≢ p). ap (λ o. tally (o == t)) (sym (same q other)))
        (cases_eq q p)

    pub rings_put : Put after before on back a p (after a) → owns p ≡ s → ((q : ℕ) → q ≢ p → owns q ≡ own q) → AreRings keys on back owns (set lists s (put_behind a p (keys + s) (get_or lists s [])))
    rings_put put owned same = record {
      ring = λ t lt.
          let in_t : t < length lists = rw length-set at lt in
          let not_p : keys + t ≢ p = λ e. absurd (omega (arith, far, e)) in
          at_set lists s t (put_behind a p (keys + s) (get_or lists s [])) (λ xs. Run on back (keys + t) xs (keys + t)) within
          (λ is. rw is (run_put after before on back a p (after a) (edge_behind s a within of) put (keys + s) (keys + s) (get_or lists s []) (rings.ring s within) (once_in s a within of) (free_in s p within far free) (λ e. not_p (ap (λ k. keys + k) is ∙ e))))
          (λ apart. run_kept after before on back a p (after a) (edge_behind s a within of) put (keys + t) (keys + t) (get_or lists t []) (rings.ring t in_t) (none_in s t a within in_t apart of) (free_in t p in_t far free) not_p);
      once = λ t q lt.
          let in_t : t < length lists = rw length-set at lt in
          at_set lists s t (put_behind a p (keys + s) (get_or lists s [])) (λ xs. times q xs ≡ tally (owns q == t)) within
          (λ is. rw is (times-put_behind q a p (keys + s) (get_or lists s []) ∙ ap (λ k. k + tally (p == q)) (rings.once s q within) ∙ owned_once owned same q))
          (λ apart. rings.once t q in_t ∙ owned_other owned same t q in_t apart);
      ends = λ t lt.
          let in_t : t < length lists = rw length-set at lt in
          rw length-set (omega (arith, rings.ends t in_t, same (keys + t) (λ e. absurd (omega (arith, far, e)))));
    }

  module _ (on back owns : ℕ → ℕ) (s p : ℕ) (within : s < length lists) (here : own p ≡ s) where
    left_once : length lists ≤ owns p → ((q : ℕ) → q ≢ p → owns q ≡ own q) → (q : ℕ) → times q (without p (get_or lists s [])) ≡ tally (owns q == s)
    left_once gone same q =
        ⊎_elim
        (λ (is : q ≡ p).
        let not_s : owns q ≢ s = λ e. absurd (omega (arith, within, gone, e, ap owns is)) in
        rw is (times-without_same p (get_or lists s []) ∙ sym (ap (λ o. tally (o == s)) (sym (ap owns is)) ∙ tally_other (owns q) s not_s)))
        (λ (apart : q ≢ p). times-without_other q p (get_or lists s []) apart ∙ rings.once s q within ∙ ap (λ o. tally (o == s)) (sym (same q apart)))
        (cases_eq q p)

    left_other : length lists ≤ owns p → ((q : ℕ) → q ≢ p → owns q ≡ own q) → (t q : ℕ) → t < length lists → t ≢ s → tally (own q == t) ≡ tally (owns q == t)
    left_other gone same t q in_t apart =
        ⊎_elim
        (λ (is : q ≡ p).
        let not_t : own q ≢ t = λ e. apart (sym e ∙ ap own is ∙ here) in
        let none : owns q ≢ t = λ e. absurd (omega (arith, in_t, gone, e, ap owns is)) in
        omega (arith, tally_other (own q) t not_t, tally_other (owns q) t none))
        (λ (other : q ≢ p). ap (λ o. tally (o == t)) (sym (same q other)))
        (cases_eq q p)

    not_own : (t : ℕ) → t < length lists → keys + t ≢ p
    not_own t in_t e = absurd (omega (arith, rings.ends t in_t, within, here, ap own e))

    left : Edge after before (before p) p
    left = edge_before s p within (inr here)

    right : Edge after before p (after p)
    right = edge_behind s p within (inr here)

    pub rings_out : Out after before on back (before p) (after p) → length lists ≤ owns p → ((q : ℕ) → q ≢ p → owns q ≡ own q) → AreRings keys on back owns (set lists s (without p (get_or lists s [])))
    rings_out out gone same = record {
      ring = λ t lt.
          let in_t : t < length lists = rw length-set at lt in
          at_set lists s t (without p (get_or lists s [])) (λ xs. Run on back (keys + t) xs (keys + t)) within
          (λ is. rw is (run_out after before on back (before p) p (after p) left right out (keys + s) (keys + s) (get_or lists s []) (rings.ring s within) (not_own s within) (omega (arith, once_in s p within (inr here))) (not_own s within)))
          (λ apart. run_left after before on back (before p) p (after p) left right out (keys + t) (keys + t) (get_or lists t []) (rings.ring t in_t) (none_in s t p within in_t apart (inr here)) (not_own t in_t));
      once = λ t q lt.
          let in_t : t < length lists = rw length-set at lt in
          at_set lists s t (without p (get_or lists s [])) (λ xs. times q xs ≡ tally (owns q == t)) within
          (λ is. rw is (left_once gone same q))
          (λ apart. rings.once t q in_t ∙ left_other gone same t q in_t apart);
      ends = λ t lt.
          let in_t : t < length lists = rw length-set at lt in
          rw length-set (omega (arith, rings.ends t in_t, same (keys + t) (not_own t in_t)));
    }
