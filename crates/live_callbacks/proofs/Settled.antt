-- What a family of lists has of the rows, as a key comes to another list.
use Rattle.std.proofs.Common.{◌≡◌, ◌≢◌, ℕ, zero, suc, ◌+◌, ◌<◌, ◌≤◌, Bool, true, false, not, ◌==◌, List, [], ◌∷◌, ◌++◌, filter, map, slice_index, if◌then◌else◌, refl, sym, ap, ap₂, subst, ◌∙◌, arith, ⊎_elim, append-nil}
use Rattle.std.specs.List.{AllByRecursion}
use Rattle.std.proofs.lemmas.Bool.{cases_eq, cases_lt, eq-eqb, le-ltb, lt-ltb, ne_eqb}
use Rattle.std.proofs.lemmas.List.{map-append}
use Rattle.std.proofs.lemmas.List.Elements.{All-from_recursion, filter-append}
use Rattle.tp_model.proofs.Lists.{all_along, all_appended, all_filter}
use Rattle.linked_lists.specs.Linked.{AreInOrder, Linked, is_below, list_of, owner_of}
use Rattle.linked_lists.specs.Moved.{IsMoved, with_key, without}
use Rattle.live_callbacks.specs.Lists.{AreListed, IsSettled, Mark, MaySettle, list_at, keys_in}

-- ---- order

-- the numbers rise, from low on
abbrev pub MarksRise : ℕ → List Mark → Type 0
MarksRise low [] = Unit {0}
MarksRise low (m ∷ ms) = (low ≤ m.number) × MarksRise (m.number + 1) ms

module _ (numbers : List ℕ) (heads : ℕ) where
  abbrev pub AreNumbered : List Mark → Type 0
  AreNumbered ms = AllByRecursion (λ (m : Mark). m.list < heads → slice_index numbers m.key ≡ m.number) ms

  abbrev AreSorted : List ℕ → Type 0
  AreSorted [] = Unit {0}
  AreSorted (x ∷ xs) = AllByRecursion (λ y. slice_index numbers x ≤ slice_index numbers y) xs × AreSorted xs

  in_order : (xs : List ℕ) → AreSorted xs → AreInOrder numbers xs
  in_order [] sorted i j d lt within = absurd (omega (arith, within))
  in_order (x ∷ xs) sorted zero zero d lt within = absurd (omega (arith, lt))
  in_order (x ∷ xs) sorted zero (suc j) d lt within = All-from_recursion (λ y. slice_index numbers x ≤ slice_index numbers y) xs sorted.0 j d (omega (arith, within))
  in_order (x ∷ xs) sorted (suc i) zero d lt within = absurd (omega (arith, lt))
  in_order (x ∷ xs) sorted (suc i) (suc j) d lt within = in_order xs sorted.1 i j d (omega (arith, lt)) (omega (arith, within))

  module _ (list : ℕ) (there : list < heads) where
    at_least : (low : ℕ) (ms : List Mark) → MarksRise low ms → AreNumbered ms → AllByRecursion (λ p. low ≤ slice_index numbers p) (keys_in list ms)
    at_least low [] rise known = tt
    at_least low (m ∷ ms) rise known =
        let rest = all_along (λ p. m.number + 1 ≤ slice_index numbers p) (λ p. low ≤ slice_index numbers p) (λ p le. omega (arith, le, rise.0)) (keys_in list ms) (at_least (m.number + 1) ms rise.1 known.1) in
        ⊎_elim
        (λ (same : m.list ≡ list). rw (eq-eqb m.list list same) (omega (arith, known.0 (omega (arith, same, there)), rise.0), rest))
        (λ (apart : m.list ≢ list). rw (ne_eqb m.list list apart) rest)
        (cases_eq m.list list)

    sorted : (low : ℕ) (ms : List Mark) → MarksRise low ms → AreNumbered ms → AreSorted (keys_in list ms)
    sorted low [] rise known = tt
    sorted low (m ∷ ms) rise known =
        let rest = sorted (m.number + 1) ms rise.1 known.1 in
        ⊎_elim
        (λ (same : m.list ≡ list).
        let own = known.0 (omega (arith, same, there)) in
        rw (eq-eqb m.list list same)
        (all_along (λ p. m.number + 1 ≤ slice_index numbers p) (λ p. slice_index numbers m.key ≤ slice_index numbers p) (λ p le. omega (arith, le, own)) (keys_in list ms) (at_least (m.number + 1) ms rise.1 known.1), rest))
        (λ (apart : m.list ≢ list). rw (ne_eqb m.list list apart) rest)
        (cases_eq m.list list)

    pub keys_in_order : (low : ℕ) (ms : List Mark) → MarksRise low ms → AreNumbered ms → AreInOrder numbers (keys_in list ms)
    keys_in_order low ms rise known = in_order (keys_in list ms) (sorted low ms rise known)

    -- below a number, and above it
    are_below : (n : ℕ) (ms : List Mark) → AreNumbered ms → AllByRecursion (λ (m : Mark). m.number < n) ms → AllByRecursion (λ p. is_below numbers n p ≡ true) (keys_in list ms)
    are_below n [] known low = tt
    are_below n (m ∷ ms) known low =
        let rest = are_below n ms known.1 low.1 in
        ⊎_elim
        (λ (same : m.list ≡ list). rw (eq-eqb m.list list same) (lt-ltb (slice_index numbers m.key) n (omega (arith, known.0 (omega (arith, same, there)), low.0)), rest))
        (λ (apart : m.list ≢ list). rw (ne_eqb m.list list apart) rest)
        (cases_eq m.list list)

    are_above : (n : ℕ) (ms : List Mark) → AreNumbered ms → AllByRecursion (λ (m : Mark). n < m.number) ms → AllByRecursion (λ p. is_below numbers n p ≡ false) (keys_in list ms)
    are_above n [] known high = tt
    are_above n (m ∷ ms) known high =
        let rest = are_above n ms known.1 high.1 in
        ⊎_elim
        (λ (same : m.list ≡ list). rw (eq-eqb m.list list same) (le-ltb (slice_index numbers m.key) n (omega (arith, known.0 (omega (arith, same, there)), high.0)), rest))
        (λ (apart : m.list ≢ list). rw (ne_eqb m.list list apart) rest)
        (cases_eq m.list list)

-- between those that pass and those that fail
module _ (t : ℕ → Bool) where
  all_pass : (xs : List ℕ) → AllByRecursion (λ x. t x ≡ true) xs → (filter t xs ≡ xs) × (filter (λ x. not (t x)) xs ≡ [])
  all_pass [] pass = (refl, refl)
  all_pass (x ∷ xs) pass =
      let rest = all_pass xs pass.1 in
      (rw pass.0 (ap (λ ys. x ∷ ys) rest.0), rw pass.0 rest.1)

  all_fail : (xs : List ℕ) → AllByRecursion (λ x. t x ≡ false) xs → (filter t xs ≡ []) × (filter (λ x. not (t x)) xs ≡ xs)
  all_fail [] fail = (refl, refl)
  all_fail (x ∷ xs) fail =
      let rest = all_fail xs fail.1 in
      (rw fail.0 rest.0, rw fail.0 (ap (λ ys. x ∷ ys) rest.1))

  between : (place : ℕ) (xs ys : List ℕ) → AllByRecursion (λ x. t x ≡ true) xs → AllByRecursion (λ x. t x ≡ false) ys → filter t (xs ++ ys) ++ place ∷ filter (λ x. not (t x)) (xs ++ ys) ≡ xs ++ place ∷ ys
  between place xs ys pass fail =
      let front = all_pass xs pass in
      let back = all_fail ys fail in
      ap₂ (λ (us vs : List ℕ). us ++ place ∷ vs)
      (filter-append t xs ys ∙ ap₂ (λ (us vs : List ℕ). us ++ vs) front.0 back.0 ∙ append-nil xs)
      (filter-append (λ x. not (t x)) xs ys ∙ ap₂ (λ (us vs : List ℕ). us ++ vs) front.1 back.1)

-- ---- keys

abbrev pub others : ℕ → List Mark → List Mark
others key ms = filter (λ (m : Mark). not (m.key == key)) ms

pub others_apart : (key : ℕ) (ms : List Mark) → AllByRecursion (λ (m : Mark). m.key ≢ key) (others key ms)
others_apart key [] = tt
others_apart key (m ∷ ms) =
    ⊎_elim
    (λ (same : m.key ≡ key). rw (eq-eqb m.key key same) (others_apart key ms))
    (λ (apart : m.key ≢ key). rw (ne_eqb m.key key apart) (apart, others_apart key ms))
    (cases_eq m.key key)

front_of : {X : Type 0} (P : X → Type 0) (xs ys : List X) → AllByRecursion P (xs ++ ys) → AllByRecursion P xs
front_of P [] ys all = tt
front_of P (x ∷ xs) ys all = (all.0, front_of P xs ys all.1)

back_of : {X : Type 0} (P : X → Type 0) (xs ys : List X) → AllByRecursion P (xs ++ ys) → AllByRecursion P ys
back_of P [] ys all = all
back_of P (x ∷ xs) ys all = back_of P xs ys all.1

pub keys-append : (list : ℕ) (xs ys : List Mark) → keys_in list (xs ++ ys) ≡ keys_in list xs ++ keys_in list ys
keys-append list xs ys =
    ap (map (λ (m : Mark). m.key)) (filter-append (λ (m : Mark). m.list == list) xs ys)
    ∙ map-append (λ (m : Mark). m.key) (filter (λ (m : Mark). m.list == list) xs) (filter (λ (m : Mark). m.list == list) ys)

without_keys : (key list : ℕ) (ms : List Mark) → without key (keys_in list ms) ≡ keys_in list (others key ms)
without_keys key list [] = refl
without_keys key list (m ∷ ms) =
    let rest = without_keys key list ms in
    ⊎_elim
    (λ (here : m.key ≡ key).
    ⊎_elim
    (λ (same : m.list ≡ list). rw (eq-eqb m.key key here, eq-eqb m.list list same, eq-eqb m.key key here) rest)
    (λ (other : m.list ≢ list). rw (eq-eqb m.key key here, ne_eqb m.list list other) rest)
    (cases_eq m.list list))
    (λ (apart : m.key ≢ key).
    ⊎_elim
    (λ (same : m.list ≡ list). rw (ne_eqb m.key key apart, eq-eqb m.list list same, ne_eqb m.key key apart) (ap (λ ps. m.key ∷ ps) rest))
    (λ (other : m.list ≢ list). rw (ne_eqb m.key key apart, ne_eqb m.list list other) rest)
    (cases_eq m.list list))
    (cases_eq m.key key)

module _ (heads : ℕ) where
  pub at_skip : (key : ℕ) (xs ys : List Mark) → AllByRecursion (λ (m : Mark). m.key ≢ key) xs → list_at heads key (xs ++ ys) ≡ list_at heads key ys
  at_skip key [] ys apart = refl
  at_skip key (m ∷ xs) ys apart = rw (ne_eqb m.key key apart.0) (at_skip key xs ys apart.1)

  at_front : (key : ℕ) (xs ys : List Mark) → AllByRecursion (λ (m : Mark). m.key ≢ key) ys → list_at heads key (xs ++ ys) ≡ list_at heads key xs
  at_front key [] ys apart = ap (list_at heads key) (sym (append-nil ys)) ∙ at_skip key ys [] apart
  at_front key (m ∷ xs) ys apart = ap (λ n. if m.key == key then m.list else n) (at_front key xs ys apart)

  at_others : (key k : ℕ) → k ≢ key → (ms : List Mark) → list_at heads k (others key ms) ≡ list_at heads k ms
  at_others key k other [] = refl
  at_others key k other (m ∷ ms) =
      ⊎_elim
      (λ (same : m.key ≡ key). rw (eq-eqb m.key key same, ne_eqb m.key k (λ e. other (sym e ∙ same))) (at_others key k other ms))
      (λ (apart : m.key ≢ key). rw (ne_eqb m.key key apart) (ap (λ n. if m.key == k then m.list else n) (at_others key k other ms)))
      (cases_eq m.key key)

  at_between : (key k : ℕ) → k ≢ key → (xs new ys : List Mark) → AllByRecursion (λ (m : Mark). m.key ≡ key) new → list_at heads k (xs ++ (new ++ ys)) ≡ list_at heads k (xs ++ ys)
  at_between key k other [] [] ys own = refl
  at_between key k other [] (m ∷ new) ys own = rw (ne_eqb m.key k (λ e. other (sym e ∙ own.0))) (at_between key k other [] new ys own.1)
  at_between key k other (m ∷ xs) new ys own = ap (λ n. if m.key == k then m.list else n) (at_between key k other xs new ys own)

  pub at_most : (key : ℕ) (ms : List Mark) → AllByRecursion (λ (m : Mark). m.list ≤ heads) ms → list_at heads key ms ≤ heads
  at_most key [] all = omega arith
  at_most key (m ∷ ms) all =
      ⊎_elim
      (λ (same : m.key ≡ key). rw (eq-eqb m.key key same) all.0)
      (λ (apart : m.key ≢ key). rw (ne_eqb m.key key apart) (at_most key ms all.1))
      (cases_eq m.key key)

-- ---- a step of one key

-- the key is among the others at its number, in this list, or is gone from them
pub record IsStep (heads : ℕ) (ms ds : List Mark) (key number list : ℕ) : Type 0 where
  pub lo : List Mark
  pub new : List Mark
  pub hi : List Mark
  pub rest : others key ms ≡ lo ++ hi
  pub after : ds ≡ lo ++ (new ++ hi)
  pub low : AllByRecursion (λ (m : Mark). m.number < number) lo
  pub high : AllByRecursion (λ (m : Mark). number < m.number) hi
  pub are : AllByRecursion (λ (m : Mark). m ≡ record { key = key; number = number; list = list }) new
  pub shows : (s : ℕ) → s < heads → keys_in s new ≡ if s == list then key ∷ [] else []
  pub stands : list_at heads key new ≡ list
  pub same : list_at heads key ms ≡ list → list < heads → ds ≡ ms

module _ {heads places : ℕ} {ms : List Mark} {old : Linked} (key list : ℕ) (are : AreListed heads places ms old) (within : list ≤ heads) where
  pub may_settle : MarksRise 0 ms → key < places → MaySettle heads old key list
  may_settle rise there = record {
    many = are.many;
    within = within;
    common = record {
      there = omega (arith, are.sized, there);
      owned = omega (arith, are.owned key, are.many, at_most heads key ms are.bounded);
    };
    order = λ lt. subst (AreInOrder old.numbers) (sym (are.listed list lt)) (keys_in_order old.numbers heads list lt 0 ms rise are.numbered);
  }

  module _ (ds : List Mark) (number : ℕ) (new : Linked) (step : IsStep heads ms ds key number list) (moved : IsMoved old new key list number) where
    abbrev lo : List Mark
    lo = step.lo

    abbrev hi : List Mark
    hi = step.hi

    apart_lo : AllByRecursion (λ (m : Mark). m.key ≢ key) lo
    apart_lo = front_of (λ (m : Mark). m.key ≢ key) lo hi (subst (AllByRecursion (λ (m : Mark). m.key ≢ key)) step.rest (others_apart key ms))

    apart_hi : AllByRecursion (λ (m : Mark). m.key ≢ key) hi
    apart_hi = back_of (λ (m : Mark). m.key ≢ key) lo hi (subst (AllByRecursion (λ (m : Mark). m.key ≢ key)) step.rest (others_apart key ms))

    known : AreNumbered old.numbers heads (lo ++ hi)
    known = subst (AreNumbered old.numbers heads) step.rest (all_filter (λ (m : Mark). m.list < heads → slice_index old.numbers m.key ≡ m.number) (λ (m : Mark). not (m.key == key)) ms are.numbered)

    bound : AllByRecursion (λ (m : Mark). m.list ≤ heads) (lo ++ hi)
    bound = subst (AllByRecursion (λ (m : Mark). m.list ≤ heads)) step.rest (all_filter (λ (m : Mark). m.list ≤ heads) (λ (m : Mark). not (m.key == key)) ms are.bounded)

    left : (s : ℕ) → s < heads → without key (list_of old s) ≡ keys_in s lo ++ keys_in s hi
    left s lt = ap (without key) (are.listed s lt) ∙ without_keys key s ms ∙ ap (keys_in s) step.rest ∙ keys-append s lo hi

    shown : (s : ℕ) → s < heads → keys_in s ds ≡ keys_in s lo ++ ((if s == list then key ∷ [] else []) ++ keys_in s hi)
    shown s lt =
        ap (keys_in s) step.after
        ∙ keys-append s lo (step.new ++ hi)
        ∙ ap (λ ps. keys_in s lo ++ ps) (keys-append s step.new hi ∙ ap (λ ps. ps ++ keys_in s hi) (step.shows s lt))

    listed : (s : ℕ) → s < heads → list_of new s ≡ keys_in s ds
    listed s lt =
        moved.listed s (omega (arith, lt, are.many))
        ∙ ⊎_elim
        (λ (same : s ≡ list).
        let numbers = old.numbers in
        rw (shown s lt, eq-eqb s list same)
        (ap (with_key numbers number key) (left s lt)
        ∙ between (is_below numbers number) key (keys_in s lo) (keys_in s hi)
        (are_below numbers heads s lt number lo (front_of (λ (m : Mark). m.list < heads → slice_index numbers m.key ≡ m.number) lo hi known) step.low)
        (are_above numbers heads s lt number hi (back_of (λ (m : Mark). m.list < heads → slice_index numbers m.key ≡ m.number) lo hi known) step.high)))
        (λ (apart : s ≢ list). rw (shown s lt, ne_eqb s list apart) (left s lt))
        (cases_eq s list)

    owned : (k : ℕ) → owner_of new k ≡ list_at heads k ds
    owned k =
        moved.owners k
        ∙ ⊎_elim
        (λ (same : k ≡ key).
        rw (eq-eqb k key same)
        (sym
        (ap (λ n. list_at heads n ds) same
        ∙ ap (list_at heads key) step.after
        ∙ at_skip heads key lo (step.new ++ hi) apart_lo
        ∙ at_front heads key step.new hi apart_hi
        ∙ step.stands)))
        (λ (other : k ≢ key).
        rw (ne_eqb k key other)
        (are.owned k
        ∙ sym
        (ap (list_at heads k) step.after
        ∙ at_between heads key k other lo step.new hi (all_along (λ (m : Mark). m ≡ record { key = key; number = number; list = list }) (λ (m : Mark). m.key ≡ key) (λ m e. ap (λ (x : Mark). x.key) e) step.new step.are)
        ∙ ap (list_at heads k) (sym step.rest)
        ∙ at_others heads key k other ms)))
        (cases_eq k key)

    abbrev IsKnown : Mark → Type 0
    IsKnown = λ (m : Mark). m.list < heads → slice_index new.numbers m.key ≡ m.number

    kept_known : (xs : List Mark) → AllByRecursion (λ (m : Mark). m.key ≢ key) xs → AreNumbered old.numbers heads xs → AreNumbered new.numbers heads xs
    kept_known [] apart all = tt
    kept_known (m ∷ xs) apart all = (λ lt. moved.numbers m.key apart.0 ∙ all.0 lt, kept_known xs apart.1 all.1)

    new_known : (m : Mark) → m ≡ record { key = key; number = number; list = list } → IsKnown m
    new_known m is lt =
        ap (λ (x : Mark). slice_index new.numbers x.key) is
        ∙ moved.known (omega (arith, lt, ap (λ (x : Mark). x.list) is, are.many))
        ∙ sym (ap (λ (x : Mark). x.number) is)

    pub moved_listed : AreListed heads places ds new
    moved_listed = record {
      sized = moved.keys ∙ are.sized;
      many = moved.many ∙ are.many;
      bounded =
          subst (AllByRecursion (λ (m : Mark). m.list ≤ heads)) (sym step.after)
          (all_appended (λ (m : Mark). m.list ≤ heads) lo (step.new ++ hi) (front_of (λ (m : Mark). m.list ≤ heads) lo hi bound)
          (all_appended (λ (m : Mark). m.list ≤ heads) step.new hi
          (all_along (λ (m : Mark). m ≡ record { key = key; number = number; list = list }) (λ (m : Mark). m.list ≤ heads) (λ m e. omega (arith, within, ap (λ (x : Mark). x.list) e)) step.new step.are)
          (back_of (λ (m : Mark). m.list ≤ heads) lo hi bound)));
      listed = listed;
      owned = owned;
      numbered =
          subst (AreNumbered new.numbers heads) (sym step.after)
          (all_appended IsKnown lo (step.new ++ hi) (kept_known lo apart_lo (front_of (λ (m : Mark). m.list < heads → slice_index old.numbers m.key ≡ m.number) lo hi known))
          (all_appended IsKnown step.new hi (all_along (λ (m : Mark). m ≡ record { key = key; number = number; list = list }) IsKnown new_known step.new step.are)
          (kept_known hi apart_hi (back_of (λ (m : Mark). m.list < heads → slice_index old.numbers m.key ≡ m.number) lo hi known))));
    }

  pub settled : (ds : List Mark) (number : ℕ) (new : Linked) → IsStep heads ms ds key number list → IsSettled heads old new key list number → AreListed heads places ds new
  settled ds number new step done =
      ⊎_elim
      (λ (here : owner_of old key ≡ list).
      ⊎_elim
      (λ (lt : list < heads).
      let same : ds ≡ ms = step.same (sym (are.owned key) ∙ here) lt in
      subst (λ (l : Linked). AreListed heads places ds l) (sym (done.stays here)) (subst (λ (xs : List Mark). AreListed heads places xs old) (sym same) are))
      (λ (le : heads ≤ list). moved_listed ds number new step (done.none (omega (arith, le, within))))
      (cases_lt list heads))
      (λ (apart : owner_of old key ≢ list). moved_listed ds number new step (done.moves apart))
      (cases_eq (owner_of old key) list)
