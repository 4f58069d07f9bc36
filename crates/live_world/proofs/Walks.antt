-- Rising things, gone along one after another.
use Rattle.std.proofs.Common.{◌≡◌, ℕ, ◌+◌, ◌<◌, ◌≤◌, Bool, true, false, cond, not, ◌==◌, List, [], ◌∷◌, length, map, nat_lt, nat_le, slice_get, Option, Some, None, refl, sym, ap, ap₂, ◌∙◌, subst, arith, filter, find, eqb-true, eq-eqb, ne_eqb, lt-ltb, le-ltb, leb-true}
use Rattle.std.specs.List.{AllByRecursion}
use Rattle.std.proofs.lemmas.Bool.{le-leb, lt-leb}
use Rattle.std.proofs.lemmas.Bool.{ltb-true}
use Rattle.tp_model.proofs.Lists.{all_along, all_filter, filter_filter, find_all, find_passes}
use Rattle.live_world.proofs.Lists.{all_pass, filter_all}

-- a number is its own key
abbrev pub itself : ℕ → ℕ
itself n = n

module _ {X : Type 0} (key : X → ℕ) where
  -- each key is above those before it
  abbrev pub Rises : ℕ → List X → Type 0
  Rises low [] = Unit {0}
  Rises low (x ∷ xs) = (low ≤ key x) × Rises (key x + 1) xs

  -- what is left from one of them on
  abbrev pub rest : List X → Option X → List X
  rest xs None = []
  rest xs (Some x) = filter (λ y. nat_le (key x) (key y)) xs

  -- one of them, or none
  abbrev pub IsAmong : List X → Option X → Type 0
  IsAmong xs None = Unit {0}
  IsAmong xs (Some x) = find (λ y. key y == key x) xs ≡ Some x

  pub above : (low : ℕ) (xs : List X) → Rises low xs → AllByRecursion (λ x. low ≤ key x) xs
  above low [] r = tt
  above low (x ∷ xs) r = (r.0, all_along (λ y. key x + 1 ≤ key y) (λ y. low ≤ key y) (λ y le. omega (arith, le, r.0)) xs (above (key x + 1) xs r.1))

  rises_lower : (low lower : ℕ) (xs : List X) → lower ≤ low → Rises low xs → Rises lower xs
  rises_lower low lower [] le r = tt
  rises_lower low lower (x ∷ xs) le r = (omega (arith, le, r.0), r.1)

  -- all is left from the first on
  pub rest_first : (low : ℕ) (xs : List X) → Rises low xs → rest xs (slice_get xs 0) ≡ xs
  rest_first low [] r = refl
  rest_first low (x ∷ xs) r =
      filter_all (λ y. nat_le (key x) (key y)) (x ∷ xs)
      (le-leb (key x) (key x) (omega arith), all_along (λ y. key x + 1 ≤ key y) (λ y. nat_le (key x) (key y) ≡ true) (λ y le. le-leb (key x) (key y) (omega (arith, le))) xs (above (key x + 1) xs r.1))

  pub first_among : (xs : List X) → IsAmong xs (slice_get xs 0)
  first_among [] = tt
  first_among (x ∷ xs) = ap (λ b. cond b (Some x) (find (λ y. key y == key x) xs)) (eq-eqb (key x) (key x) refl)

  -- from one on there is left that one and what is left from the next on
  pub rest_next : (low : ℕ) (xs : List X) (x : X) → Rises low xs → find (λ y. key y == key x) xs ≡ Some x → rest xs (Some x) ≡ x ∷ rest xs (find (λ y. nat_lt (key x) (key y)) xs)
  rest_next low [] x r e = absurd cc
  rest_next low (y ∷ ys) x r e =
      elim (key y == key x) as (λ b. (key y == key x) ≡ b → cond b (Some y) (find (λ z. key z == key x) ys) ≡ Some x → rest (y ∷ ys) (Some x) ≡ x ∷ rest (y ∷ ys) (find (λ z. nat_lt (key x) (key z)) (y ∷ ys))) [
        | true ↦ λ here found.
            let is : y ≡ x = cc in
            let same : key y ≡ key x = eqb-true (key y) (key x) here in
            let later = above (key y + 1) ys r.1 in
            let kept : rest (y ∷ ys) (Some x) ≡ y ∷ ys
            = filter_all (λ z. nat_le (key x) (key z)) (y ∷ ys) (le-leb (key x) (key y) (omega (arith, same)), all_along (λ z. key y + 1 ≤ key z) (λ z. nat_le (key x) (key z) ≡ true) (λ z le. le-leb (key x) (key z) (omega (arith, le, same))) ys later) in
            kept ∙ ap₂ (λ (h : X) (t : List X). h ∷ t) is (sym (
            ap (rest (y ∷ ys)) (ap (λ b. cond b (Some y) (find (λ z. nat_lt (key x) (key z)) ys)) (le-ltb (key x) (key y) (omega (arith, same))) ∙ head ys (all_along (λ z. key y + 1 ≤ key z) (λ z. key x < key z) (λ z le. omega (arith, le, same)) ys later))
            ∙ skip y ys r.1
            ∙ rest_first (key y + 1) ys r.1))
        | false ↦ λ other found.
            let ahead : key y < key x = omega (arith, below ys (key y + 1) r.1 found) in
            ap (λ b. cond b (y ∷ rest ys (Some x)) (rest ys (Some x))) (lt-leb (key x) (key y) ahead)
            ∙ rest_next (key y + 1) ys x r.1 found
            ∙ ap (λ t. x ∷ t) (sym (ap (rest (y ∷ ys)) (ap (λ b. cond b (Some y) (find (λ z. nat_lt (key x) (key z)) ys)) (le-ltb (key x) (key y) (omega (arith, ahead))))
            ∙ past (find (λ z. nat_lt (key x) (key z)) ys) (λ z h. omega (arith, ahead, over ys z h))))
      ] refl e
    where
      head : (zs : List X) → AllByRecursion (λ z. key x < key z) zs → find (λ z. nat_lt (key x) (key z)) zs ≡ slice_get zs 0
      head [] all = refl
      head (z ∷ zs) all = ap (λ b. cond b (Some z) (find (λ u. nat_lt (key x) (key u)) zs)) (lt-ltb (key x) (key z) all.0)

      skip : (u : X) (zs : List X) → Rises (key u + 1) zs → rest (u ∷ zs) (slice_get zs 0) ≡ rest zs (slice_get zs 0)
      skip u [] h = refl
      skip u (z ∷ zs) h = ap (λ b. cond b (u ∷ rest (z ∷ zs) (Some z)) (rest (z ∷ zs) (Some z))) (lt-leb (key z) (key u) (omega (arith, h.0)))

      over : (zs : List X) (z : X) → find (λ u. nat_lt (key x) (key u)) zs ≡ Some z → key x < key z
      over zs z h = ltb_less (key x) (key z) (passes zs h)
        where
          passes : (us : List X) → find (λ u. nat_lt (key x) (key u)) us ≡ Some z → nat_lt (key x) (key z) ≡ true
          passes us h = find_passes (λ u. nat_lt (key x) (key u)) z us h

          ltb_less : (m n : ℕ) → nat_lt m n ≡ true → m < n
          ltb_less m n e = ltb-true m n e

      past : (o : Option X) → ((z : X) → o ≡ Some z → key y < key z) → rest (y ∷ ys) o ≡ rest ys o
      past None h = refl
      past (Some z) h = ap (λ b. cond b (y ∷ rest ys (Some z)) (rest ys (Some z))) (lt-leb (key z) (key y) (h z refl))

      below : (zs : List X) (least : ℕ) → Rises least zs → find (λ z. key z == key x) zs ≡ Some x → least ≤ key x
      below zs least h found = find_all (λ z. least ≤ key z) (λ z. key z == key x) x zs (above least zs h) found

  -- and the next is one of them
  pub found_among : (low : ℕ) (p : X → Bool) (xs : List X) → Rises low xs → IsAmong xs (find p xs)
  found_among low p xs r = known (find p xs) refl
    where
      found : (least : ℕ) (zs : List X) (z : X) → Rises least zs → find p zs ≡ Some z → find (λ y. key y == key z) zs ≡ Some z
      found least [] z h e = absurd cc
      found least (u ∷ us) z h e =
          elim (p u) as (λ b. cond b (Some u) (find p us) ≡ Some z → find (λ y. key y == key z) (u ∷ us) ≡ Some z) [
            | true ↦ λ here. let is : u ≡ z = cc in ap (λ b. cond b (Some u) (find (λ y. key y == key z) us)) (eq-eqb (key u) (key z) (ap key is)) ∙ here
            | false ↦ λ later.
                let there = found (key u + 1) us z h.1 later in
                let more : key u + 1 ≤ key z = find_all (λ y. key u + 1 ≤ key y) (λ y. key y == key z) z us (above (key u + 1) us h.1) there in
                ap (λ b. cond b (Some u) (find (λ y. key y == key z) us)) (ne_eqb (key u) (key z) (λ same. omega (arith, same, more))) ∙ there
          ] e

      known : (o : Option X) → find p xs ≡ o → IsAmong xs (find p xs)
      known None e = subst (IsAmong xs) (sym e) tt
      known (Some z) e = subst (IsAmong xs) (sym e) (found low xs z r e)

  -- where one of them is next: that one, and then what is left from the one behind it on
  pub record Onward (xs : List X) (x : X) (next : Option X) : Type 0 where
    pub found : find (λ y. key y == key x) xs ≡ Some x
    pub step : (after : Option X) → after ≡ find (λ y. nat_lt (key x) (key y)) xs → rest xs next ≡ x ∷ rest xs after
    pub later : (after : Option X) → after ≡ find (λ y. nat_lt (key x) (key y)) xs → length (rest xs after) < length (rest xs next)
    pub among : (after : Option X) → after ≡ find (λ y. nat_lt (key x) (key y)) xs → IsAmong xs after

  pub onward : (low : ℕ) (xs : List X) (x : X) (next : Option X) → Rises low xs → next ≡ Some x → IsAmong xs next → Onward xs x next
  onward low xs x next rises is among =
      record {
        found = there;
        step = step;
        later = λ after e. omega (arith, ap length (step after e));
        among = λ after e. subst (IsAmong xs) (sym e) (found_among low (λ y. nat_lt (key x) (key y)) xs rises);
      }
    where
      there : find (λ y. key y == key x) xs ≡ Some x
      there = subst (IsAmong xs) is among

      step : (after : Option X) → after ≡ find (λ y. nat_lt (key x) (key y)) xs → rest xs next ≡ x ∷ rest xs after
      step after e = ap (rest xs) is ∙ rest_next low xs x rises there ∙ ap (λ o. x ∷ rest xs o) (sym e)

  -- what is left from something on is the same without a key below it
  pub rest_without : (n : ℕ) (xs : List X) (o : Option X) → ((x : X) → o ≡ Some x → n < key x) → rest (filter (λ y. not (key y == n)) xs) o ≡ rest xs o
  rest_without n xs None past = refl
  rest_without n xs (Some x) past = filter_filter (λ y. nat_le (key x) (key y)) (λ y. not (key y == n)) (λ y gone. behind y (key y == n) refl gone) xs
    where
      behind : (y : X) (b : Bool) → (key y == n) ≡ b → not b ≡ false → nat_le (key x) (key y) ≡ false
      behind y true e gone = lt-leb (key x) (key y) (omega (arith, eqb-true (key y) n e, past x refl))
      behind y false e gone = absurd cc

  -- and so are those of it that pass a test
  pub passing_without : (n : ℕ) (p : X → Bool) (xs : List X) (o : Option X) → ((x : X) → o ≡ Some x → n < key x) → filter (λ y. not (key y == n)) (filter p (rest xs o)) ≡ filter p (rest xs o)
  passing_without n p xs None past = refl
  passing_without n p xs (Some x) past =
      filter_all (λ y. not (key y == n)) (filter p (rest xs (Some x)))
      (all_filter (λ y. not (key y == n) ≡ true) p (rest xs (Some x))
      (all_along (λ y. nat_le (key x) (key y) ≡ true) (λ y. not (key y == n) ≡ true)
      (λ y le. ap not (ne_eqb (key y) n (λ same. omega (arith, same, leb-true (key x) (key y) le, past x refl))))
      (rest xs (Some x)) (all_pass (λ y. nat_le (key x) (key y)) xs)))

  pub rises_filter : (p : X → Bool) (low : ℕ) (xs : List X) → Rises low xs → Rises low (filter p xs)
  rises_filter p low [] r = tt
  rises_filter p low (x ∷ xs) r =
      let tail : Rises (key x + 1) (filter p xs) = rises_filter p (key x + 1) xs r.1 in
      elim (p x) as (λ b. Rises low (cond b (x ∷ filter p xs) (filter p xs))) [ true ↦ (r.0, tail) | false ↦ rises_lower (key x + 1) low (filter p xs) (omega (arith, r.0)) tail ]

pub rises_map : {X Y : Type 0} (key : Y → ℕ) (f : X → Y) (low : ℕ) (xs : List X) → Rises (λ x. key (f x)) low xs → Rises key low (map f xs)
rises_map key f low [] r = tt
rises_map key f low (x ∷ xs) r = (r.0, rises_map key f (key (f x) + 1) xs r.1)
