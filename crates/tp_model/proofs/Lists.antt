-- What filters, searches and changes of rows leave of each other.
use Rattle.std.specs.Option.{option_or}
use Rattle.std.proofs.lemmas.List.Folds.{find-append}
use Rattle.std.proofs.Common.{◌≡◌, ◌≢◌, ℕ, suc, zero, ◌+◌, ◌<◌, ◌≤◌, Bool, true, false, cond, ◌||◌, List, [], ◌∷◌, ◌++◌, length, map, slice_get, slice_set, Some, refl, sym, ap, ◌∙◌, subst, arith, filter, find, ap₂, ◌&&◌}
use Rattle.std.specs.List.{AllByRecursion, list_any, list_all}

-- a filter by p sees nothing of a filter by what p implies
pub filter_filter : {X : Type 0} (p q : X → Bool) → ((x : X) → q x ≡ false → p x ≡ false) → (xs : List X) → filter p (filter q xs) ≡ filter p xs
filter_filter p q h [] = refl
filter_filter {X} p q h (x ∷ xs) =
    elim (q x) as (λ b. q x ≡ b → filter p (cond b (x ∷ filter q xs) (filter q xs)) ≡ filter p (x ∷ xs)) [
      | true ↦ λ _. ap (λ t. cond (p x) (x ∷ t) t) (filter_filter p q h xs)
      | false ↦ λ e. filter_filter p q h xs ∙ ap (λ b. cond b (x ∷ filter p xs) (filter p xs)) (sym (h x e))
    ] refl

-- what is found and passes q is found among what passes q
pub find_kept : {X : Type 0} (p q : X → Bool) (c : X) → q c ≡ true → (xs : List X) → find p xs ≡ Some c → find p (filter q xs) ≡ Some c
find_kept p q c kept [] e = e
find_kept {X} p q c kept (x ∷ xs) e =
    elim (p x) as (λ b. p x ≡ b → cond b (Some x) (find p xs) ≡ Some c → find p (filter q (x ∷ xs)) ≡ Some c) [
      | true ↦ λ px found.
          let same : x ≡ c = cc in
          let qx : q x ≡ true = ap q same ∙ kept in
          ap (λ b. find p (cond b (x ∷ filter q xs) (filter q xs))) qx ∙ ap (λ b. cond b (Some x) (find p (filter q xs))) px ∙ found
      | false ↦ λ px found.
          elim (q x) as (λ b. find p (cond b (x ∷ filter q xs) (filter q xs)) ≡ Some c) [
            | true ↦ ap (λ b. cond b (Some x) (find p (filter q xs))) px ∙ find_kept p q c kept xs found
            | false ↦ find_kept p q c kept xs found
          ]
    ] refl e

-- what is found passes the test
-- what fails q fails p too, so that p finds the same among what passes q
pub find_filter : {X : Type 0} (p q : X → Bool) → ((x : X) → q x ≡ false → p x ≡ false) → (xs : List X) → find p (filter q xs) ≡ find p xs
find_filter p q over [] = refl
find_filter p q over (x ∷ xs) =
    elim (q x) as (λ b. q x ≡ b → find p (cond b (x ∷ filter q xs) (filter q xs)) ≡ cond (p x) (Some x) (find p xs)) [
      | true ↦ λ _. ap (λ t. cond (p x) (Some x) t) (find_filter p q over xs)
      | false ↦ λ e. find_filter p q over xs ∙ sym (ap (λ b. cond b (Some x) (find p xs)) (over x e))
    ] refl

pub find_passes : {X : Type 0} (p : X → Bool) (c : X) (xs : List X) → find p xs ≡ Some c → p c ≡ true
find_passes p c [] e = cc
find_passes {X} p c (x ∷ xs) e =
    elim (p x) as (λ b. p x ≡ b → cond b (Some x) (find p xs) ≡ Some c → p c ≡ true) [
      | true ↦ λ px found. let same : x ≡ c = cc in ap p (sym same) ∙ px
      | false ↦ λ px found. find_passes p c xs found
    ] refl e

-- what is found has what all have
pub find_all : {X : Type 0} (P : X → Type 0) (p : X → Bool) (c : X) (xs : List X) → AllByRecursion P xs → find p xs ≡ Some c → P c
find_all P p c [] all e = absurd cc
find_all {X} P p c (x ∷ xs) all e =
    elim (p x) as (λ b. cond b (Some x) (find p xs) ≡ Some c → P c) [
      | true ↦ λ found. let same : x ≡ c = cc in subst P same all.0
      | false ↦ λ found. find_all P p c xs all.1 found
    ] e

-- what is found is found in a longer list
pub find_more : {X : Type 0} (p : X → Bool) (c : X) (xs ys : List X) → find p xs ≡ Some c → find p (xs ++ ys) ≡ Some c
find_more p c xs ys found = find-append p xs ys ∙ ap (λ o. option_or o (find p ys)) found

-- tests that agree find the same
pub find_agree : {X : Type 0} (p q : X → Bool) → ((x : X) → p x ≡ q x) → (xs : List X) → find p xs ≡ find q xs
find_agree p q h [] = refl
find_agree p q h (x ∷ xs) = ap (λ b. cond b (Some x) (find p xs)) (h x) ∙ ap (λ t. cond (q x) (Some x) t) (find_agree p q h xs)

-- what all have, all that pass have
pub all_filter : {X : Type 0} (P : X → Type 0) (p : X → Bool) (xs : List X) → AllByRecursion P xs → AllByRecursion P (filter p xs)
all_filter P p [] all = tt
all_filter {X} P p (x ∷ xs) all =
    elim (p x) as (λ b. AllByRecursion P (cond b (x ∷ filter p xs) (filter p xs))) [
      | true ↦ (all.0, all_filter P p xs all.1)
      | false ↦ all_filter P p xs all.1
    ]

pub all_along : {X : Type 0} (P Q : X → Type 0) → ((x : X) → P x → Q x) → (xs : List X) → AllByRecursion P xs → AllByRecursion Q xs
all_along P Q f [] all = tt
all_along P Q f (x ∷ xs) all = (f x all.0, all_along P Q f xs all.1)

pub all_append : {X : Type 0} (P : X → Type 0) (xs : List X) (x : X) → AllByRecursion P xs → P x → AllByRecursion P (xs ++ x ∷ [])
all_append P [] x all here = (here, tt)
all_append P (y ∷ xs) x all here = (all.0, all_append P xs x all.1 here)

pub all_appended : {X : Type 0} (P : X → Type 0) (xs ys : List X) → AllByRecursion P xs → AllByRecursion P ys → AllByRecursion P (xs ++ ys)
all_appended P [] ys all more = more
all_appended P (x ∷ xs) ys all more = (all.0, all_appended P xs ys all.1 more)

pub all_map : {X : Type 0} (P : X → Type 0) (f : X → X) → ((x : X) → P x → P (f x)) → (xs : List X) → AllByRecursion P xs → AllByRecursion P (map f xs)
all_map P f h [] all = tt
all_map P f h (x ∷ xs) all = (h x all.0, all_map P f h xs all.1)

pub all_get : {X : Type 0} (P : X → Type 0) (xs : List X) (i : ℕ) (x : X) → AllByRecursion P xs → slice_get xs i ≡ Some x → P x
all_get P [] i x all e = absurd cc
all_get P (y ∷ xs) zero x all e = let same : y ≡ x = cc in subst P same all.0
all_get P (y ∷ xs) (suc i) x all e = all_get P xs i x all.1 e

-- a filter keeps at most all, and by a test that implies another no more than by that
pub length_filter_le : {X : Type 0} (p q : X → Bool) → ((x : X) → q x ≡ false → p x ≡ false) → (xs : List X) → length (filter p xs) ≤ length (filter q xs)
length_filter_le p q h [] = omega arith
length_filter_le {X} p q h (x ∷ xs) =
    elim (q x) as (λ b. q x ≡ b → length (cond (p x) (x ∷ filter p xs) (filter p xs)) ≤ length (cond b (x ∷ filter q xs) (filter q xs))) [
      | true ↦ λ _. elim (p x) as (λ b. length (cond b (x ∷ filter p xs) (filter p xs)) ≤ length (x ∷ filter q xs)) [
        | true ↦ omega (arith, length_filter_le p q h xs)
        | false ↦ omega (arith, length_filter_le p q h xs)
      ]
      | false ↦ λ e. subst (λ b. length (cond b (x ∷ filter p xs) (filter p xs)) ≤ length (filter q xs)) (sym (h x e)) (length_filter_le p q h xs)
    ] refl

pub slice_get_append : {X : Type 0} (xs ys : List X) (i : ℕ) (x : X) → slice_get xs i ≡ Some x → slice_get (xs ++ ys) i ≡ Some x
slice_get_append [] ys i x e = absurd cc
slice_get_append (y ∷ xs) ys zero x e = e
slice_get_append (y ∷ xs) ys (suc i) x e = slice_get_append xs ys i x e

-- a filter after a row was put in another's place
pub length_filter_set : {X : Type 0} (p : X → Bool) (xs : List X) (i : ℕ) (old new : X) → slice_get xs i ≡ Some old →
    length (filter p (slice_set xs i new)) + cond (p old) 1 0 ≡ length (filter p xs) + cond (p new) 1 0
length_filter_set p [] i old new e = absurd cc
length_filter_set {X} p (x ∷ xs) zero old new e =
    let same : x ≡ old = cc in
    subst (λ o. length (filter p (new ∷ xs)) + cond (p o) 1 0 ≡ length (filter p (x ∷ xs)) + cond (p new) 1 0) same
    (elim (p new) as (λ b. length (cond b (new ∷ filter p xs) (filter p xs)) + cond (p x) 1 0 ≡ length (filter p (x ∷ xs)) + cond b 1 0) [
      | true ↦ elim (p x) as (λ b. length (new ∷ filter p xs) + cond b 1 0 ≡ length (cond b (x ∷ filter p xs) (filter p xs)) + 1) [ true ↦ omega arith | false ↦ omega arith ]
      | false ↦ elim (p x) as (λ b. length (filter p xs) + cond b 1 0 ≡ length (cond b (x ∷ filter p xs) (filter p xs)) + 0) [ true ↦ omega arith | false ↦ omega arith ]
    ])
length_filter_set {X} p (x ∷ xs) (suc i) old new e =
    elim (p x) as (λ b. length (cond b (x ∷ filter p (slice_set xs i new)) (filter p (slice_set xs i new))) + cond (p old) 1 0 ≡ length (cond b (x ∷ filter p xs) (filter p xs)) + cond (p new) 1 0) [
      | true ↦ omega (arith, length_filter_set p xs i old new e)
      | false ↦ length_filter_set p xs i old new e
    ]

-- below a bound, and so below a greater one
pub all_below : {X : Type 0} (f : X → ℕ) (n m : ℕ) → n ≤ m → (xs : List X) → AllByRecursion (λ x. f x < n) xs → AllByRecursion (λ x. f x < m) xs
all_below f n m le [] all = tt
all_below f n m le (x ∷ xs) all = (omega (arith, all.0, le), all_below f n m le xs all.1)

-- a test that fails where p does sees nothing of a filter by p
pub any_filter : {X : Type 0} (test p : X → Bool) → ((x : X) → p x ≡ false → test x ≡ false) → (xs : List X) → list_any test (filter p xs) ≡ list_any test xs
any_filter test p h [] = refl
any_filter {X} test p h (x ∷ xs) =
    elim (p x) as (λ b. p x ≡ b → list_any test (cond b (x ∷ filter p xs) (filter p xs)) ≡ (test x || list_any test xs)) [
      | true ↦ λ _. ap (λ t. test x || t) (any_filter test p h xs)
      | false ↦ λ e. any_filter test p h xs ∙ ap (λ b. b || list_any test xs) (sym (h x e))
    ] refl

pub all_agree : {X : Type 0} (p q : X → Bool) → ((x : X) → p x ≡ q x) → (xs : List X) → list_all p xs ≡ list_all q xs
all_agree p q same [] = refl
all_agree p q same (x ∷ xs) = ap₂ (λ a b. a && b) (same x) (all_agree p q same xs)

pub filter_agree : {X : Type 0} (p q : X → Bool) → ((x : X) → p x ≡ q x) → (xs : List X) → filter p xs ≡ filter q xs
filter_agree p q same [] = refl
filter_agree p q same (x ∷ xs) = ap (λ b. cond b (x ∷ filter p xs) (filter p xs)) (same x) ∙ ap (λ l. cond (q x) (x ∷ l) l) (filter_agree p q same xs)

pub all_set : {X : Type 0} (P : X → Type 0) (xs : List X) (i : ℕ) (x : X) → P x → AllByRecursion P xs → AllByRecursion P (slice_set xs i x)
all_set P [] i x here all = tt
all_set P (y ∷ xs) zero x here all = (here, all.1)
all_set P (y ∷ xs) (suc i) x here all = (all.0, all_set P xs i x here all.1)

-- none of the elements that are left passes a test that none passes
pub any_filter_none : {X : Type 0} (test p : X → Bool) (xs : List X) → list_any test xs ≡ false → list_any test (filter p xs) ≡ false
any_filter_none test p [] none = refl
any_filter_none {X} test p (x ∷ xs) none =
    elim (test x) as (λ t. (t || list_any test xs) ≡ false → test x ≡ t → list_any test (cond (p x) (x ∷ filter p xs) (filter p xs)) ≡ false) [
      | true ↦ λ h _. absurd cc
      | false ↦ λ h is. elim (p x) as (λ b. list_any test (cond b (x ∷ filter p xs) (filter p xs)) ≡ false) [
        | true ↦ ap (λ b. b || list_any test (filter p xs)) is ∙ any_filter_none test p xs h
        | false ↦ any_filter_none test p xs h
      ]
    ] none refl

-- a row put in the place of another
pub get_set : {X : Type 0} (xs : List X) (n : ℕ) (old new : X) → slice_get xs n ≡ Some old → slice_get (slice_set xs n new) n ≡ Some new
get_set [] n old new e = absurd cc
get_set (x ∷ xs) zero old new e = refl
get_set (x ∷ xs) (suc n) old new e = get_set xs n old new e

pub get_set_other : {X : Type 0} (xs : List X) (n k : ℕ) (new : X) → n ≢ k → slice_get (slice_set xs n new) k ≡ slice_get xs k
get_set_other [] n k new apart = refl
get_set_other (x ∷ xs) zero zero new apart = absurd (apart refl)
get_set_other (x ∷ xs) zero (suc k) new apart = refl
get_set_other (x ∷ xs) (suc n) zero new apart = refl
get_set_other (x ∷ xs) (suc n) (suc k) new apart = get_set_other xs n k new (λ e. apart (ap suc e))
