-- Lists: what passes a test, and what stays so when a row is set.
use Rattle.std.proofs.Common.{◌≡◌, ℕ, suc, zero, ◌+◌, ◌<◌, ◌≤◌, Bool, true, false, cond, ◌&&◌, ◌||◌, List, [], ◌∷◌, ◌++◌, length, map, slice_get, slice_set, replicate, Some, None, refl, ap, ap₂, ◌∙◌, arith, filter, length-append}
use Rattle.std.specs.List.{AllByRecursion, list_any}
use Rattle.std.specs.Option.{option_map_or}
use Rattle.std.proofs.lemmas.List.Elements.{filter-append}
use Rattle.tp_model.proofs.Lists.{length_filter_set}

-- ---- filters

pub filter_all : {X : Type 0} (p : X → Bool) (xs : List X) → AllByRecursion (λ x. p x ≡ true) xs → filter p xs ≡ xs
filter_all p [] all = refl
filter_all p (x ∷ xs) all = ap (λ b. cond b (x ∷ filter p xs) (filter p xs)) all.0 ∙ ap (λ t. x ∷ t) (filter_all p xs all.1)

pub filter_none : {X : Type 0} (p : X → Bool) (xs : List X) → AllByRecursion (λ x. p x ≡ false) xs → filter p xs ≡ []
filter_none p [] all = refl
filter_none p (x ∷ xs) all = ap (λ b. cond b (x ∷ filter p xs) (filter p xs)) all.0 ∙ filter_none p xs all.1

pub filter_map : {X Y : Type 0} (p : Y → Bool) (f : X → Y) (xs : List X) → filter p (map f xs) ≡ map f (filter (λ x. p (f x)) xs)
filter_map p f [] = refl
filter_map {X} p f (x ∷ xs) =
    elim (p (f x)) as (λ b. cond b (f x ∷ filter p (map f xs)) (filter p (map f xs)) ≡ map f (cond b (x ∷ filter (λ y. p (f y)) xs) (filter (λ y. p (f y)) xs))) [
      | true ↦ ap (λ t. f x ∷ t) (filter_map p f xs)
      | false ↦ filter_map p f xs
    ]

pub filter_alike : {X : Type 0} (p q : X → Bool) (xs : List X) → AllByRecursion (λ x. p x ≡ q x) xs → filter p xs ≡ filter q xs
filter_alike p q [] all = refl
filter_alike p q (x ∷ xs) all = ap₂ (λ b t. cond b (x ∷ t) t) all.0 (filter_alike p q xs all.1)

pub filter_both : {X : Type 0} (p q : X → Bool) (xs : List X) → filter p (filter q xs) ≡ filter (λ x. q x && p x) xs
filter_both p q [] = refl
filter_both {X} p q (x ∷ xs) =
    elim (q x) as (λ b. filter p (cond b (x ∷ filter q xs) (filter q xs)) ≡ cond (b && p x) (x ∷ filter (λ y. q y && p y) xs) (filter (λ y. q y && p y) xs)) [
      | true ↦ ap (λ t. cond (p x) (x ∷ t) t) (filter_both p q xs)
      | false ↦ filter_both p q xs
    ]

pub all_pass : {X : Type 0} (p : X → Bool) (xs : List X) → AllByRecursion (λ x. p x ≡ true) (filter p xs)
all_pass p [] = tt
all_pass p (x ∷ xs) =
    elim (p x) as (λ b. p x ≡ b → AllByRecursion (λ y. p y ≡ true) (cond b (x ∷ filter p xs) (filter p xs))) [
      | true ↦ λ e. (e, all_pass p xs)
      | false ↦ λ _. all_pass p xs
    ] refl

-- where a filter leaves nothing, none passes
pub none_passes : {X : Type 0} (p : X → Bool) (xs : List X) → filter p xs ≡ [] → AllByRecursion (λ x. p x ≡ false) xs
none_passes p [] e = tt
none_passes p (x ∷ xs) e =
    elim (p x) as (λ b. cond b (x ∷ filter p xs) (filter p xs) ≡ [] → (b ≡ false) × AllByRecursion (λ y. p y ≡ false) xs) [
      | true ↦ λ h. absurd cc
      | false ↦ λ h. (refl, none_passes p xs h)
    ] e

pub none_more : {X : Type 0} (p : X → Bool) (xs : List X) (x : X) → p x ≡ false → length (filter p (xs ++ x ∷ [])) ≡ length (filter p xs)
none_more p xs x e =
    ap length (filter-append p xs (x ∷ [])) ∙ length-append (filter p xs) (filter p (x ∷ [])) ∙ ap (λ b. length (filter p xs) + length (cond b (x ∷ []) [])) e ∙ omega arith

abbrev pub one_if : Bool → ℕ
one_if b = cond b 1 0

pub length_same : {X : Type 0} (p : X → Bool) (xs : List X) (i : ℕ) (old new : X) → slice_get xs i ≡ Some old → p old ≡ p new → length (filter p (slice_set xs i new)) ≡ length (filter p xs)
length_same p xs i old new is same = omega (arith, length_filter_set p xs i old new is, ap (λ b. one_if b) same)

-- ---- a row is set

pub set_twice : {X : Type 0} (xs : List X) (i : ℕ) (x y : X) → slice_set (slice_set xs i x) i y ≡ slice_set xs i y
set_twice [] i x y = refl
set_twice (z ∷ zs) zero x y = refl
set_twice (z ∷ zs) (suc i) x y = ap (λ t. z ∷ t) (set_twice zs i x y)

pub set_there : {X : Type 0} (xs : List X) (i : ℕ) (x : X) → slice_get xs i ≡ Some x → slice_set xs i x ≡ xs
set_there [] i x e = refl
set_there (y ∷ ys) zero x e = cc
set_there (y ∷ ys) (suc i) x e = ap (λ t. y ∷ t) (set_there ys i x e)

pub past_end : {X : Type 0} (xs : List X) (i : ℕ) → slice_get xs i ≡ None → length xs ≤ i
past_end [] i e = omega arith
past_end (x ∷ xs) zero e = absurd cc
past_end (x ∷ xs) (suc i) e = omega (arith, past_end xs i e)

-- ---- some of a list

pub any_at : {X : Type 0} (p : X → Bool) (xs : List X) (i : ℕ) → option_map_or p (slice_get xs i) false ≡ true → list_any p xs ≡ true
any_at p [] i e = absurd cc
any_at p (x ∷ xs) zero e = ap (λ b. b || list_any p xs) e
any_at p (x ∷ xs) (suc i) e = ap (λ b. p x || b) (any_at p xs i e) ∙ or_true (p x)
  where
    or_true : (b : Bool) → (b || true) ≡ true
    or_true true = refl
    or_true false = refl

pub any_nowhere : {X : Type 0} (p : X → Bool) (xs : List X) → ((k : ℕ) → k < length xs → option_map_or p (slice_get xs k) false ≡ false) → list_any p xs ≡ false
any_nowhere p [] nowhere = refl
any_nowhere p (x ∷ xs) nowhere = ap₂ (λ a b. a || b) (nowhere 0 (omega arith)) (any_nowhere p xs (λ k lt. nowhere (suc k) (omega (arith, lt))))

-- ---- so many equal rows

pub map_replicate : {X Y : Type 0} (f : X → Y) (x : X) (n : ℕ) → map f (replicate n x) ≡ replicate n (f x)
map_replicate f x zero = refl
map_replicate f x (suc n) = ap (λ t. f x ∷ t) (map_replicate f x n)

pub length_replicate : {X : Type 0} (x : X) (n : ℕ) → length (replicate n x) ≡ n
length_replicate x zero = refl
length_replicate x (suc n) = ap suc (length_replicate x n)

pub all_replicate : {X : Type 0} (P : X → Type 0) (x : X) → P x → (n : ℕ) → AllByRecursion P (replicate n x)
all_replicate P x here zero = tt
all_replicate P x here (suc n) = (here, all_replicate P x here n)
