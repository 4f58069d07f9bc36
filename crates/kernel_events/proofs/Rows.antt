-- Objects by their numbers, and what they are armed on.
use Rattle.std.proofs.Common.{◌≡◌, ◌≢◌, ◌==◌, ◌||◌, ◌+◌, ℕ, ◌≤◌, Bool, true, false, not, List, [], ◌∷◌, filter, map, option_map, refl, sym, ap, ◌∙◌, arith, ⊎_elim}
use Rattle.std.specs.List.{All, slice_get}
use Rattle.std.proofs.lemmas.Bool.{cases_Bool, cases_eq, eq-eqb, ne_eqb}
use Rattle.std.proofs.lemmas.List.Elements.{All-cons}
use Rattle.std.proofs.lemmas.List.Kept.{AllPairs-cons}
use Rattle.linked_lists.specs.Linked.{Linked, owner_of, tally, times}
use Rattle.tp_base.specs.declared.rows.Arming.{Arming}
use Rattle.tp_base.specs.Armings.{is_armed, without_arming}
use Rattle.kernel_events.specs.Armed.{HasDistinctObjects, first_on, waits_on}
use Rattle.kernel_events.specs.Threaded.{arming_of, armings_of, object_id, objects_on}

-- these without this one
abbrev pub without : ℕ → List ℕ → List ℕ
without o xs = filter (λ x. not (x == o)) xs

-- one that isn't armed leaves nothing behind
pub without_none : (o : ℕ) (armed : List Arming) → is_armed o armed ≡ false → without_arming o armed ≡ armed
without_none o [] none = refl
without_none o (a ∷ rest) none =
    ⊎_elim
    (λ (is : (a.object.0 == o) ≡ true). absurd (let both : true ≡ false = sym (ap (λ b. b || is_armed o rest) is) ∙ none in cc))
    (λ (other : (a.object.0 == o) ≡ false). rw other (ap (λ ys. a ∷ ys) (without_none o rest (sym (ap (λ b. b || is_armed o rest) other) ∙ none))))
    (cases_Bool (a.object.0 == o))

-- ---- what they show

module _ (own : Linked) where
  -- one is armed that is among them
  pub armed_is : (o : ℕ) (xs : List ℕ) (b : Bool) → times o xs ≡ tally b → is_armed o (armings_of own xs) ≡ b
  armed_is o [] true is = absurd (omega (arith, is))
  armed_is o [] false is = refl
  armed_is o (x ∷ xs) b is =
      ⊎_elim
      (λ (here : (x == o) ≡ true). rw here (one_more b (omega (arith, is, ap (λ t. tally t) here))))
      (λ (other : (x == o) ≡ false). rw other (armed_is o xs b (omega (arith, is, ap (λ t. tally t) other))))
      (cases_Bool (x == o))
    where
      one_more : (c : Bool) → 1 + times o xs ≡ tally c → true ≡ c
      one_more true is = refl
      one_more false is = absurd (omega (arith, is))

  pub waits_are : (k : ℕ) (xs : List ℕ) → waits_on k (armings_of own xs) ≡ map object_id (objects_on own k xs)
  waits_are k [] = refl
  waits_are k (x ∷ xs) =
      ⊎_elim
      (λ (on : (owner_of own x == k) ≡ true). rw on (ap (λ ys. object_id x ∷ ys) (waits_are k xs)))
      (λ (off : (owner_of own x == k) ≡ false). rw off (waits_are k xs))
      (cases_Bool (owner_of own x == k))

  pub first_is : (k : ℕ) (xs : List ℕ) → first_on k (armings_of own xs) ≡ option_map object_id (slice_get (objects_on own k xs) 0)
  first_is k [] = refl
  first_is k (x ∷ xs) =
      ⊎_elim
      (λ (on : (owner_of own x == k) ≡ true). rw on refl)
      (λ (off : (owner_of own x == k) ≡ false). rw off (first_is k xs))
      (cases_Bool (owner_of own x == k))

  pub each : (P : ℕ → Type 0) (xs : List ℕ) → ((o : ℕ) → 1 ≤ times o xs → P o) → All (λ a. P a.object.0) (armings_of own xs)
  each P [] all = λ k d lt. absurd (omega arith)
  each P (x ∷ xs) all =
      let here : 1 ≤ times x (x ∷ xs) = rw (eq-eqb x x refl) (omega arith) in
      All-cons (λ a. P a.object.0) (arming_of own x) (armings_of own xs) (all x here) (each P xs (λ o there. all o (omega (arith, there))))

  pub distinct : (xs : List ℕ) → ((o : ℕ) → times o xs ≤ 1) → HasDistinctObjects (armings_of own xs)
  distinct [] once = λ i j d lt within. absurd (omega arith)
  distinct (x ∷ xs) once =
      AllPairs-cons (λ a b. a.object.0 ≢ b.object.0) (arming_of own x) (armings_of own xs)
      (each (λ o. x ≢ o) xs (λ o there same. absurd (omega (arith, there, ap (λ b. tally b) (eq-eqb x o same), once o))))
      (distinct xs (λ o. omega (arith, once o)))

-- ---- as one of them has gone to another list

module _ (object : ℕ) (own new : Linked) (there : (o : ℕ) → o ≢ object → owner_of new o ≡ owner_of own o) where
  is_other : (x : ℕ) (xs : List ℕ) → times object (x ∷ xs) ≡ 0 → x ≢ object
  is_other x xs none same = absurd (omega (arith, none, ap (λ b. tally b) (eq-eqb x object same)))

  pub same_objects : (k : ℕ) (xs : List ℕ) → times object xs ≡ 0 → objects_on new k xs ≡ objects_on own k xs
  same_objects k [] none = refl
  same_objects k (x ∷ xs) none =
      let same : (owner_of new x == k) ≡ (owner_of own x == k) = ap (λ n. n == k) (there x (is_other x xs none)) in
      let rest = same_objects k xs (omega (arith, none)) in
      ⊎_elim
      (λ (on : (owner_of own x == k) ≡ true). rw (same ∙ on, on) (ap (λ ys. x ∷ ys) rest))
      (λ (off : (owner_of own x == k) ≡ false). rw (same ∙ off, off) rest)
      (cases_Bool (owner_of own x == k))

  pub same_armings : (xs : List ℕ) → times object xs ≡ 0 → armings_of new xs ≡ armings_of own xs
  same_armings [] none = refl
  same_armings (x ∷ xs) none = rw (there x (is_other x xs none)) (ap (λ ys. arming_of own x ∷ ys) (same_armings xs (omega (arith, none))))

  pub armings_left : (xs : List ℕ) → armings_of new (without object xs) ≡ without_arming object (armings_of own xs)
  armings_left [] = refl
  armings_left (x ∷ xs) =
      ⊎_elim
      (λ (gone : x ≡ object). rw (eq-eqb x object gone) (armings_left xs))
      (λ (stays : x ≢ object). rw (ne_eqb x object stays, there x stays) (ap (λ ys. arming_of own x ∷ ys) (armings_left xs)))
      (cases_eq x object)

  -- the list that it was in
  pub left_own : (k : ℕ) (xs : List ℕ) → without object (objects_on own k xs) ≡ objects_on new k (without object xs)
  left_own k [] = refl
  left_own k (x ∷ xs) =
      ⊎_elim
      (λ (gone : x ≡ object).
      ⊎_elim
      (λ (on : (owner_of own x == k) ≡ true). rw (on, eq-eqb x object gone) (left_own k xs))
      (λ (off : (owner_of own x == k) ≡ false). rw (off, eq-eqb x object gone) (left_own k xs))
      (cases_Bool (owner_of own x == k)))
      (λ (stays : x ≢ object).
      let same : (owner_of new x == k) ≡ (owner_of own x == k) = ap (λ n. n == k) (there x stays) in
      ⊎_elim
      (λ (on : (owner_of own x == k) ≡ true). rw (on, ne_eqb x object stays, same ∙ on) (ap (λ ys. x ∷ ys) (left_own k xs)))
      (λ (off : (owner_of own x == k) ≡ false). rw (off, ne_eqb x object stays, same ∙ off) (left_own k xs))
      (cases_Bool (owner_of own x == k)))
      (cases_eq x object)

  -- and any other
  pub left_other : (k : ℕ) → (owner_of own object == k) ≡ false → (xs : List ℕ) → objects_on own k xs ≡ objects_on new k (without object xs)
  left_other k off_object [] = refl
  left_other k off_object (x ∷ xs) =
      ⊎_elim
      (λ (gone : x ≡ object). rw (ap (λ o. owner_of own o == k) gone ∙ off_object, eq-eqb x object gone) (left_other k off_object xs))
      (λ (stays : x ≢ object).
      let same : (owner_of new x == k) ≡ (owner_of own x == k) = ap (λ n. n == k) (there x stays) in
      ⊎_elim
      (λ (on : (owner_of own x == k) ≡ true). rw (on, ne_eqb x object stays, same ∙ on) (ap (λ ys. x ∷ ys) (left_other k off_object xs)))
      (λ (off : (owner_of own x == k) ≡ false). rw (off, ne_eqb x object stays, same ∙ off) (left_other k off_object xs))
      (cases_Bool (owner_of own x == k)))
      (cases_eq x object)
