-- How the lists of notices are threaded, and what they show as objects come and go.
use Rattle.std.proofs.Common.{◌≡◌, ◌≢◌, ◌==◌, ◌||◌, ◌+◌, ℕ, zero, suc, ◌<◌, ◌≤◌, Bool, true, false, not, List, [], ◌∷◌, ◌++◌, None, Some, drop, filter, get_or, length, map, replicate, slice_get, slice_set, refl, sym, ap, ◌∙◌, arith, ⊎_elim}
use Rattle.std.proofs.lemmas.Bool.{cases_eq, cases_lt, eq-eqb, eqb-true, false≢true, ne_eqb}
use Rattle.std.proofs.lemmas.List.{get_or-set_same, length-map, length-set, map-append, map-set}
use Rattle.linked_lists.specs.Linked.{AreOwned, IsFree, Linked, list_of, moved, owner_of, tally, times}
use Rattle.tp_base.specs.declared.ids.ObjectId.{ObjectId}
use Rattle.begun_waits.specs.Notices.{AreThreaded, IsCleared, Told, is_listed, object_of, objects_of, told_at, with_told}

-- ---- the first of a list

pub record IsFirst (all : Linked) (list place : ℕ) : Type 0 where
  pub rest : List ℕ
  pub is : list_of all list ≡ place ∷ rest
  pub owner : owner_of all place ≡ list
  pub others : filter (λ p. not (p == place)) (list_of all list) ≡ rest

tally_true : (b : Bool) → 1 ≤ tally b → b ≡ true
tally_true true h = refl
tally_true false h = absurd (omega (arith, h))

tally_most : (b : Bool) → tally b ≤ 1
tally_most true = omega arith
tally_most false = omega arith

-- a place that isn't there is taken out
none_out : (place : ℕ) (xs : List ℕ) → times place xs ≡ 0 → filter (λ p. not (p == place)) xs ≡ xs
none_out place [] none = refl
none_out place (x ∷ xs) none =
    ⊎_elim
    (λ (same : x ≡ place). absurd (omega (arith, none, ap tally (eq-eqb x place same))))
    (λ (apart : x ≢ place). rw (ne_eqb x place apart) (ap (λ ys. x ∷ ys) (none_out place xs (omega (arith, none)))))
    (cases_eq x place)

pub first_is : (all : Linked) (list place : ℕ) → list < length all.lists → AreOwned all → Some place ≡ slice_get (list_of all list) 0 → IsFirst all list place
first_is all list place within owned first = of_list (list_of all list) refl first
  where
    of_list : (xs : List ℕ) → list_of all list ≡ xs → Some place ≡ slice_get xs 0 → IsFirst all list place
    of_list [] is e = absurd cc
    of_list (x ∷ xs) is e =
        let same : x ≡ place = cc in
        let once : times place (x ∷ xs) ≡ tally (owner_of all place == list) = ap (times place) (sym is) ∙ owned.once list place within in
        let here : tally (x == place) ≡ 1 = ap tally (eq-eqb x place same) in
        let owner : owner_of all place ≡ list = eqb-true (owner_of all place) list (tally_true (owner_of all place == list) (omega (arith, once, here))) in
        let none : times place xs ≡ 0 = omega (arith, once, here, tally_most (owner_of all place == list)) in
        record {
          rest = xs;
          is = is ∙ ap (λ n. n ∷ xs) same;
          owner = owner;
          others = ap (filter (λ p. not (p == place))) is ∙ rw (eq-eqb x place same) (none_out place xs none);
        }

-- ---- who owns what

-- another owner of one place
below_set : (owners : List ℕ) (place owner q d e most : ℕ) → owner ≤ most → e ≤ most → get_or owners q d ≤ most → get_or (slice_set owners place owner) q e ≤ most
below_set [] place owner q d e most new past old = past
below_set (o ∷ os) zero owner zero d e most new past old = new
below_set (o ∷ os) zero owner (suc q) d e most new past old = below_get os q d e most past old
  where
    below_get : (xs : List ℕ) (n a b bound : ℕ) → b ≤ bound → get_or xs n a ≤ bound → get_or xs n b ≤ bound
    below_get [] n a b bound past old = past
    below_get (x ∷ xs) zero a b bound past old = old
    below_get (x ∷ xs) (suc n) a b bound past old = below_get xs n a b bound past old
below_set (o ∷ os) (suc place) owner zero d e most new past old = old
below_set (o ∷ os) (suc place) owner (suc q) d e most new past old = below_set os place owner q d e most new past old

pub owned_moved : (all : Linked) (place owner list : ℕ) (places : List ℕ) (most : ℕ) → owner ≤ most → length all.lists ≤ most → ((q : ℕ) → owner_of all q ≤ most) → (q : ℕ) → owner_of (moved all place owner list places) q ≤ most
owned_moved all place owner list places most new many old q =
    below_set all.owners place owner q (length all.lists) (length (slice_set all.lists list places)) most new (omega (arith, many, length-set all.lists list places)) (old q)

-- what is there already is put there
set_same : {X : Type 0} (xs : List X) (n : ℕ) (d y : X) → get_or xs n d ≡ y → slice_set xs n y ≡ xs
set_same [] n d y is = refl
set_same (x ∷ xs) zero d y is = ap (λ z. z ∷ xs) (sym is)
set_same (x ∷ xs) (suc n) d y is = ap (λ zs. x ∷ zs) (set_same xs n d y is)

module _ (objects : ℕ) where
  abbrev pub shown : Linked → Told
  shown all = record { objects = objects; lists = map objects_of all.lists }

  pub shown_at : (all : Linked) (actor : ℕ) → told_at (shown all) actor ≡ objects_of (list_of all actor)
  shown_at all actor = of_lists all.lists actor
    where
      of_lists : (ls : List (List ℕ)) (n : ℕ) → get_or (map objects_of ls) n [] ≡ objects_of (get_or ls n [])
      of_lists [] n = refl
      of_lists (l ∷ ls) zero = refl
      of_lists (l ∷ ls) (suc n) = of_lists ls n

  pub there_in : (all : Linked) (actor : ℕ) → actor < length (shown all).lists → actor < length all.lists
  there_in all actor there = omega (arith, there, length-map all.lists objects_of)

  pub shown_first : (all : Linked) (actor place : ℕ) → actor < length (shown all).lists → AreOwned all → Some place ≡ slice_get (list_of all actor) 0 → IsFirst all actor place
  shown_first all actor place there owned first = first_is all actor place (there_in all actor there) owned first

  -- the first that is shown
  pub none_first : (all : Linked) (actor : ℕ) → slice_get (list_of all actor) 0 ≡ None → slice_get (told_at (shown all) actor) 0 ≡ None
  none_first all actor none = ap (λ os. slice_get os 0) (shown_at all actor) ∙ of_list (list_of all actor) none
    where
      of_list : (xs : List ℕ) → slice_get xs 0 ≡ None → slice_get (objects_of xs) 0 ≡ None
      of_list [] e = refl
      of_list (x ∷ xs) e = absurd cc

  pub one_first : (all : Linked) (actor place : ℕ) → IsFirst all actor place → slice_get (told_at (shown all) actor) 0 ≡ Some (object_of place)
  one_first all actor place first = ap (λ os. slice_get os 0) (shown_at all actor ∙ ap objects_of first.is)

  -- what is shown where one list has other places
  pub shown_set : (all : Linked) (place owner list : ℕ) (places : List ℕ) → shown (moved all place owner list places) ≡ with_told (shown all) list (objects_of places)
  shown_set all place owner list places = ap (λ ls. record { objects = objects; lists = ls }) (map-set objects_of all.lists list places)

  pub threaded_moved : (all : Linked) (object owner list : ℕ) (numbers : List ℕ) → owner ≤ length all.lists → AreThreaded objects all → AreThreaded objects (moved all object owner list numbers)
  threaded_moved all object owner list numbers most k =
      let many = length-set all.lists list numbers in
      record {
        keys = k.keys;
        owned = λ q. omega (arith, many, owned_moved all object owner list numbers (length all.lists) most (omega arith) k.owned q);
      }

  -- ---- an object comes

  listed : (o : ℕ) (xs : List ℕ) → 1 ≤ times o xs → is_listed (object_of o) (objects_of xs) ≡ true
  listed o [] there = absurd (omega (arith, there))
  listed o (x ∷ xs) there =
      ⊎_elim
      (λ (same : x ≡ o). ap (λ b. b || is_listed (object_of o) (objects_of xs)) (eq-eqb x o same))
      (λ (apart : x ≢ o). ap (λ b. (x == o) || b) (listed o xs (omega (arith, there, ap tally (ne_eqb x o apart)))) ∙ or_true (x == o))
      (cases_eq x o)
    where
      or_true : (b : Bool) → (b || true) ≡ true
      or_true true = refl
      or_true false = refl

  -- an object of which no actor has a notice
  pub free : (all : Linked) (o : ℕ) → o ≤ objects → AreOwned all → AreThreaded objects all → ((other : ℕ) → is_listed (object_of o) (told_at (shown all) other) ≡ false) → IsFree all o
  free all o most owned k none =
      let owner = owner_of all o in
      record {
        there = omega (arith, most, k.keys);
        in_none = ⊎_elim
            (λ (within : owner < length all.lists).
            let once : times o (list_of all owner) ≡ 1 = owned.once owner o within ∙ ap tally (eq-eqb owner owner refl) in
            let here : is_listed (object_of o) (objects_of (list_of all owner)) ≡ true = listed o (list_of all owner) (omega (arith, once)) in
            absurd (false≢true (sym (none owner) ∙ ap (is_listed (object_of o)) (shown_at all owner) ∙ here)))
            (λ (past : length all.lists ≤ owner). omega (arith, past, k.owned o))
            (cases_lt owner (length all.lists));
      }

  pub shown_put : (all : Linked) (list o owner : ℕ) → shown (moved all o owner list (list_of all list ++ o ∷ [])) ≡ with_told (shown all) list (told_at (shown all) list ++ object_of o ∷ [])
  shown_put all list o owner =
      shown_set all o owner list (list_of all list ++ o ∷ [])
      ∙ ap (λ os. with_told (shown all) list os) (map-append object_of (list_of all list) (o ∷ []) ∙ ap (λ os. os ++ object_of o ∷ []) (sym (shown_at all list)))

  -- ---- the first goes

  pub shown_taken : (all : Linked) (list place owner : ℕ) → (first : IsFirst all list place) → shown (moved all place owner list (filter (λ p. not (p == place)) (list_of all list))) ≡ with_told (shown all) list (drop 1 (told_at (shown all) list))
  shown_taken all list place owner first =
      shown_set all place owner list (filter (λ p. not (p == place)) (list_of all list))
      ∙ ap (λ os. with_told (shown all) list os) (ap objects_of first.others ∙ ap (drop 1) (sym (shown_at all list ∙ ap objects_of first.is)))

  -- nothing goes of an empty list
  pub none_taken : (all : Linked) (list : ℕ) → slice_get (list_of all list) 0 ≡ None → shown all ≡ with_told (shown all) list (drop 1 (told_at (shown all) list))
  none_taken all list none =
      ap (λ ls. record { objects = objects; lists = ls }) (sym (set_same (shown all).lists list [] (drop 1 (told_at (shown all) list)) (of_list (list_of all list) none (told_at (shown all) list) (shown_at all list))))
    where
      of_list : (xs : List ℕ) → slice_get xs 0 ≡ None → (os : List ObjectId) → os ≡ objects_of xs → os ≡ drop 1 os
      of_list [] e os is = is ∙ sym (ap (drop 1) is)
      of_list (x ∷ xs) e os is = absurd cc

  -- ---- all go

  pub threaded_cleared : (old new : Linked) (list : ℕ) → IsCleared old new list → AreThreaded objects old → AreThreaded objects new
  threaded_cleared old new list cleared k =
      let many : length new.lists ≡ length old.lists = ap length cleared.lists ∙ length-set old.lists list [] in
      record { keys = cleared.keys ∙ k.keys; owned = λ q. omega (arith, many, cleared.owned (length old.lists) (omega arith) k.owned q) }

  pub shown_cleared : (old new : Linked) (list : ℕ) → IsCleared old new list → shown new ≡ with_told (shown old) list []
  shown_cleared old new list cleared = ap (λ ls. record { objects = objects; lists = map objects_of ls }) cleared.lists ∙ ap (λ ls. record { objects = objects; lists = ls }) (map-set objects_of old.lists list [])

-- some have gone of a list
pub record IsClearing (old now : Linked) (list : ℕ) : Type 0 where
  pub keys : length now.numbers ≡ length old.numbers
  pub many : length now.lists ≡ length old.lists
  pub others : slice_set now.lists list [] ≡ slice_set old.lists list []
  pub owned : (most : ℕ) → length old.lists ≤ most → ((place : ℕ) → owner_of old place ≤ most) → (place : ℕ) → owner_of now place ≤ most

pub clearing_first : (all : Linked) (list : ℕ) → IsClearing all all list
clearing_first all list = record { keys = refl; many = refl; others = refl; owned = λ most many old. old }

pub clearing_more : (old now : Linked) (list place : ℕ) (places : List ℕ) → IsClearing old now list → IsClearing old (moved now place (length now.lists) list places) list
clearing_more old now list place places k =
    record {
      keys = k.keys;
      many = length-set now.lists list places ∙ k.many;
      others = set_twice now.lists list places [] ∙ k.others;
      owned = λ most many below. owned_moved now place (length now.lists) list places most (omega (arith, many, k.many)) (omega (arith, many, k.many)) (k.owned most many below);
    }
  where
    set_twice : {X : Type 0} (xs : List X) (n : ℕ) (a b : X) → slice_set (slice_set xs n a) n b ≡ slice_set xs n b
    set_twice [] n a b = refl
    set_twice (x ∷ xs) zero a b = refl
    set_twice (x ∷ xs) (suc n) a b = ap (λ ys. x ∷ ys) (set_twice xs n a b)

-- one less is left
pub clears : (all : Linked) (list place owner : ℕ) → list < length all.lists → IsFirst all list place → length (list_of (moved all place owner list (filter (λ p. not (p == place)) (list_of all list))) list) < length (list_of all list)
clears all list place owner within first =
    omega (arith, ap length (get_or-set_same all.lists list (filter (λ p. not (p == place)) (list_of all list)) [] within), ap length first.others, ap length first.is)

pub all_cleared : (old now : Linked) (list : ℕ) → slice_get (list_of now list) 0 ≡ None → IsClearing old now list → IsCleared old now list
all_cleared old now list none k =
    record {
      keys = k.keys;
      lists = sym (set_same now.lists list [] [] (of_list (list_of now list) none)) ∙ k.others;
      owned = k.owned;
    }
  where
    of_list : (xs : List ℕ) → slice_get xs 0 ≡ None → xs ≡ []
    of_list [] e = refl
    of_list (x ∷ xs) e = absurd cc

-- ---- none is there

pub replicate_most : (n place most d : ℕ) → d ≤ most → get_or (replicate n most) place d ≤ most
replicate_most zero place most d h = h
replicate_most (suc n) zero most d h = omega arith
replicate_most (suc n) (suc place) most d h = replicate_most n place most d h

pub none_shown : (n : ℕ) → map objects_of (replicate n []) ≡ replicate n []
none_shown zero = refl
none_shown (suc n) = ap (λ ls. [] ∷ ls) (none_shown n)
