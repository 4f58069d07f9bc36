-- What is found, counted and changed in a list whose rows were each changed alike.
use Rattle.std.proofs.Common.{◌≡◌, ℕ, suc, zero, ◌-◌, ◌==◌, ◌||◌, ◌&&◌, is_some, is_none, Bool, true, false, cond, List, [], ◌∷◌, length, map, slice_get, slice_set, Option, Some, None, option_map, refl, ap, ap₂, ◌∙◌, filter, find}
use Rattle.std.specs.List.{list_any, list_all}
use Rattle.std.specs.Option.{option_map_or}
use Rattle.std.proofs.lemmas.Option.{slice_get-map}
use Rattle.std.proofs.lemmas.List.{length-map}
use Rattle.tp_model.specs.Counts.{numbered}

module _ {X Y : Type 0} (f : X → Y) where
  pub numbered_map : (xs : List X) (number : ℕ) → numbered (map f xs) number ≡ option_map f (numbered xs number)
  numbered_map xs number = elim (number == 0) as (λ b. cond b None (slice_get (map f xs) (number - 1)) ≡ option_map f (cond b None (slice_get xs (number - 1)))) [ true ↦ refl | false ↦ slice_get-map f xs (number - 1) ]

  pub set_map : (xs : List X) (i : ℕ) (x : X) → slice_set (map f xs) i (f x) ≡ map f (slice_set xs i x)
  set_map [] i x = refl
  set_map (y ∷ xs) zero x = refl
  set_map (y ∷ xs) (suc i) x = ap (λ t. f y ∷ t) (set_map xs i x)

  -- a test of the rows after that is a test of the rows before
  module _ (after : Y → Bool) (before : X → Bool) (agree : (x : X) → after (f x) ≡ before x) where
    pub find_map : (xs : List X) → find after (map f xs) ≡ option_map f (find before xs)
    find_map [] = refl
    find_map (x ∷ xs) =
        ap₂ (λ b t. cond b (Some (f x)) t) (agree x) (find_map xs)
        ∙ elim (before x) as (λ b. cond b (Some (f x)) (option_map f (find before xs)) ≡ option_map f (cond b (Some x) (find before xs))) [ true ↦ refl | false ↦ refl ]

    pub filter_map : (xs : List X) → filter after (map f xs) ≡ map f (filter before xs)
    filter_map [] = refl
    filter_map (x ∷ xs) =
        ap₂ (λ b t. cond b (f x ∷ t) t) (agree x) (filter_map xs)
        ∙ elim (before x) as (λ b. cond b (f x ∷ map f (filter before xs)) (map f (filter before xs)) ≡ map f (cond b (x ∷ filter before xs) (filter before xs))) [ true ↦ refl | false ↦ refl ]

    pub count_map : (xs : List X) → length (filter after (map f xs)) ≡ length (filter before xs)
    count_map xs = ap length (filter_map xs) ∙ length-map (filter before xs) f

    pub any_map : (xs : List X) → list_any after (map f xs) ≡ list_any before xs
    any_map [] = refl
    any_map (x ∷ xs) = ap₂ (λ a b. a || b) (agree x) (any_map xs)

    pub found_map : (o : Option X) (default : Bool) → option_map_or after (option_map f o) default ≡ option_map_or before o default
    found_map None default = refl
    found_map (Some x) default = agree x

    pub all_map : (xs : List X) → list_all after (map f xs) ≡ list_all before xs
    all_map [] = refl
    all_map (x ∷ xs) = ap₂ (λ a b. a && b) (agree x) (all_map xs)

pub some_mapped : {X Y : Type 0} (f : X → Y) (o : Option X) → is_some (option_map f o) ≡ is_some o
some_mapped f None = refl
some_mapped f (Some x) = refl

pub none_mapped : {X Y : Type 0} (f : X → Y) (o : Option X) → is_none (option_map f o) ≡ is_none o
none_mapped f None = refl
none_mapped f (Some x) = refl

-- tests that agree
pub all_agree : {X : Type 0} (after before : X → Bool) → ((x : X) → after x ≡ before x) → (xs : List X) → list_all after xs ≡ list_all before xs
all_agree after before agree [] = refl
all_agree after before agree (x ∷ xs) = ap₂ (λ a b. a && b) (agree x) (all_agree after before agree xs)

pub filter_agree : {X : Type 0} (after before : X → Bool) → ((x : X) → after x ≡ before x) → (xs : List X) → filter after xs ≡ filter before xs
filter_agree after before agree [] = refl
filter_agree after before agree (x ∷ xs) = ap₂ (λ b t. cond b (x ∷ t) t) (agree x) (filter_agree after before agree xs)
