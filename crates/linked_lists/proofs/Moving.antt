-- What is told of lists as a key leaves one and comes into another.
use Rattle.std.proofs.Common.{◌≡◌, ◌≢◌, ◌==◌, ℕ, ◌≤◌, ◌<◌, not, List, [], ◌∷◌, Option, None, Some, IfSome, length, get_or, set, slice_index, if◌then◌else◌, refl, sym, ap, ap₂, subst, ◌∙◌, arith, ⊎_elim, ne_eqb, eq-eqb, length-set, get_or-set_same, get_or-set_other}
use Rattle.std.proofs.lemmas.Bool.{cases_eq, cases_lt}
use Rattle.std.proofs.lemmas.List.{get_or_past}
use Rattle.std.proofs.lemmas.List.Kept.{AllPairs-filter}
use Rattle.linked_lists.specs.Linked.{AreInOrder, AreOwned, IsFree, Linked, list_of, moved, owner_of, times}
use Rattle.linked_lists.specs.Moved.{IsEntered, IsLeft, IsMoved, with_key, without}
use Rattle.linked_lists.proofs.Runs.{tally_other, tally_same}

-- ---- places that are not among these

module _ (place : ℕ) where
  apart_first : (x : ℕ) (xs : List ℕ) → times place (x ∷ xs) ≡ 0 → x ≢ place
  apart_first x xs none same = absurd (omega (arith, none, tally_same x place same))

  pub without_none : (xs : List ℕ) → times place xs ≡ 0 → without place xs ≡ xs
  without_none [] none = refl
  without_none (x ∷ xs) none = rw (ne_eqb x place (apart_first x xs none)) (ap (λ ys. x ∷ ys) (without_none xs (omega (arith, none))))

  pub none_without : (xs : List ℕ) → times place (without place xs) ≡ 0
  none_without [] = refl
  none_without (x ∷ xs) =
      ⊎_elim
      (λ (same : x ≡ place). rw (eq-eqb x place same) (none_without xs))
      (λ (apart : x ≢ place). rw (ne_eqb x place apart) (omega (arith, tally_other x place apart, none_without xs)))
      (cases_eq x place)

-- ---- a place gets a list, and the list places

list_moved : (all : Linked) (place o list : ℕ) (places : List ℕ) (x : ℕ) → x < length all.lists → list_of (moved all place o list places) x ≡ if x == list then places else list_of all x
list_moved all place o list places x within =
    ⊎_elim
    (λ (same : x ≡ list). rw (eq-eqb x list same) (subst (λ n. get_or (set all.lists n places) x [] ≡ places) same (get_or-set_same all.lists x places [] within)))
    (λ (apart : x ≢ list). rw (ne_eqb x list apart) (get_or-set_other all.lists list x places [] apart))
    (cases_eq x list)

pub owner_moved : (all : Linked) (place o list : ℕ) (places : List ℕ) (q : ℕ) → place < length all.owners → owner_of (moved all place o list places) q ≡ if q == place then o else owner_of all q
owner_moved all place o list places q within =
    rw (length-set all.lists list places)
    (⊎_elim
    (λ (same : q ≡ place). rw (eq-eqb q place same) (rw same (get_or-set_same all.owners place o (length all.lists) within)))
    (λ (apart : q ≢ place). rw (ne_eqb q place apart) (get_or-set_other all.owners place q o (length all.lists) apart))
    (cases_eq q place))

-- no list has a place that is in none
none_in : (all : Linked) (place x : ℕ) → AreOwned all → owner_of all place ≡ length all.lists → x < length all.lists → times place (list_of all x) ≡ 0
none_in all place x are free within = are.once x place within ∙ tally_other (owner_of all place) x (λ e. absurd (omega (arith, e, free, within)))

-- ---- a place leaves

pub left_none : (all : Linked) (place : ℕ) → AreOwned all → owner_of all place ≡ length all.lists → IsLeft all all place
left_none all place are free = record {
  keys = refl;
  many = refl;
  listed = λ x within. sym (without_none place (list_of all x) (none_in all place x are free within));
  owners = λ q.
      ⊎_elim
      (λ (same : q ≡ place). rw (eq-eqb q place same) (rw same free))
      (λ (apart : q ≢ place). rw (ne_eqb q place apart) refl)
      (cases_eq q place);
  numbers = refl;
}

pub left_taken : (all : Linked) (place : ℕ) → AreOwned all → owner_of all place < length all.lists → IsLeft all (moved all place (length all.lists) (owner_of all place) (without place (list_of all (owner_of all place)))) place
left_taken all place are some =
    let list = owner_of all place in
    let places = without place (list_of all list) in
    let within : place < length all.owners =
    ⊎_elim
    (λ (lt : place < length all.owners). lt)
    (λ (past : length all.owners ≤ place). absurd (omega (arith, some, get_or_past all.owners place (length all.lists) past)))
    (cases_lt place (length all.owners))
    in
    record {
      keys = refl;
      many = length-set all.lists list places;
      listed = λ x lt.
          list_moved all place (length all.lists) list places x lt
          ∙ ⊎_elim
          (λ (same : x ≡ list). rw (eq-eqb x list same) (ap (λ n. without place (list_of all n)) (sym same)))
          (λ (apart : x ≢ list). rw (ne_eqb x list apart) (sym (without_none place (list_of all x) (are.once x place lt ∙ tally_other list x (λ e. apart (sym e))))))
          (cases_eq x list);
      owners = λ q. owner_moved all place (length all.lists) list places q within;
      numbers = refl;
    }

-- ---- a place comes in

pub entered :
    (old : Linked) (place list number : ℕ) → place < length old.owners → IsFree old place
    → IsEntered old (record (moved old place list list (with_key old.numbers number place (list_of old list))) { numbers = set old.numbers place number }) place list number
entered old place list number held free =
    let places = with_key old.numbers number place (list_of old list) in
    record {
      keys = length-set old.numbers place number;
      many = length-set old.lists list places;
      listed = λ x lt.
          list_moved old place list list places x lt
          ∙ ⊎_elim
          (λ (same : x ≡ list). rw (eq-eqb x list same) (ap (λ n. with_key old.numbers number place (list_of old n)) (sym same)))
          (λ (apart : x ≢ list). rw (ne_eqb x list apart) refl)
          (cases_eq x list);
      owners = λ q. owner_moved old place list list places q held;
      numbers = λ q apart. get_or-set_other old.numbers place q number 0 apart;
      known = get_or-set_same old.numbers place number 0 free.there;
    }

-- ---- and both

module _ (old mid : Linked) (place list number : ℕ) (left : IsLeft old mid place) where
  pub left_order : list < length old.lists → AreInOrder old.numbers (list_of old list) → AreInOrder mid.numbers (list_of mid list)
  left_order within order =
      subst (λ ns. AreInOrder ns (list_of mid list)) (sym left.numbers)
      (subst (AreInOrder old.numbers) (sym (left.listed list within)) (AllPairs-filter (λ (a b : ℕ). slice_index old.numbers a ≤ slice_index old.numbers b) (λ p. not (p == place)) (list_of old list) order))

  pub left_free : owner_of mid place ≡ length mid.lists
  left_free = left.owners place ∙ ap (λ b. if b then length old.lists else owner_of old place) (eq-eqb place place refl) ∙ sym left.many

  pub near_left : owner_of old place ≢ list → (near : Option ℕ) → IfSome near (λ at. owner_of old at ≡ list) → IfSome near (λ at. owner_of mid at ≡ list)
  near_left apart None is = is
  near_left apart (Some at) is = left.owners at ∙ ap (λ b. if b then length old.lists else owner_of old at) (ne_eqb at place (λ e. apart (ap (owner_of old) (sym e) ∙ is))) ∙ is

  pub left_moved : list ≡ length old.lists → IsMoved old mid place list number
  left_moved none = record {
    keys = left.keys;
    many = left.many;
    listed = λ x lt. left.listed x lt ∙ sym (ap (λ b. if b then with_key old.numbers number place (without place (list_of old x)) else without place (list_of old x)) (ne_eqb x list (λ e. absurd (omega (arith, e, none, lt)))));
    owners = λ q. left.owners q ∙ ap (λ n. if q == place then n else owner_of old q) (sym none);
    numbers = λ q apart. ap (λ ns. slice_index ns q) left.numbers;
    known = λ lt. absurd (omega (arith, lt, none));
  }

  pub both_moved : (new : Linked) → list < length old.lists → IsEntered mid new place list number → IsMoved old new place list number
  both_moved new within entered = record {
    keys = entered.keys ∙ left.keys;
    many = entered.many ∙ left.many;
    listed = λ x lt.
        entered.listed x (omega (arith, lt, left.many))
        ∙ ap₂ (λ (ns : List ℕ) (xs : List ℕ). if x == list then with_key ns number place xs else xs) left.numbers (left.listed x lt);
    owners = λ q. entered.owners q ∙ owner_both q;
    numbers = λ q apart. entered.numbers q apart ∙ ap (λ ns. slice_index ns q) left.numbers;
    known = λ lt. entered.known;
  }
    where
      owner_both : (q : ℕ) → (if q == place then list else owner_of mid q) ≡ (if q == place then list else owner_of old q)
      owner_both q =
          ⊎_elim
          (λ (same : q ≡ place). rw (eq-eqb q place same) refl)
          (λ (apart : q ≢ place). rw (ne_eqb q place apart) (left.owners q ∙ ap (λ b. if b then length old.lists else owner_of old q) (ne_eqb q place apart)))
          (cases_eq q place)
