-- What stands at a place of a list, once one more is put behind it.
use Rattle.std.proofs.Common.{◌≡◌, ◌⊎◌, ℕ, zero, suc, ◌+◌, ◌<◌, true, false, is_some, Option, None, Some, List, [], ◌∷◌, ◌++◌, All, map, length, slice_get, get_or, option_map, drop, refl, sym, ap, ◌∙◌, subst, inl, inr, arith}
use Rattle.std.proofs.lemmas.Option.{slice_get-map, slice_get-get_or}

module _ {X : Type 0} where
  pub get_kept : (xs ys : List X) (i : ℕ) (x : X) → slice_get xs i ≡ Some x → slice_get (xs ++ ys) i ≡ Some x
  get_kept [] ys i x h = let off : ⊥ = cc in absurd off
  get_kept (z ∷ xs) ys zero x h = h
  get_kept (z ∷ xs) ys (suc i) x h = get_kept xs ys i x h

  pub get_last : (xs : List X) (y : X) → slice_get (xs ++ y ∷ []) (length xs) ≡ Some y
  get_last [] y = refl
  get_last (x ∷ xs) y = get_last xs y

  pub get_pushed : (xs : List X) (y : X) (i : ℕ) (x : X) → slice_get (xs ++ y ∷ []) i ≡ Some x → (slice_get xs i ≡ Some x) ⊎ ((i ≡ length xs) × (y ≡ x))
  get_pushed [] y zero x h = inr (refl, cc)
  get_pushed [] y (suc i) x h = let off : ⊥ = cc in absurd off
  get_pushed (z ∷ xs) y zero x h = inl h
  get_pushed (z ∷ xs) y (suc i) x h = elim (get_pushed xs y i x h) [
    | inl old ↦ inl old
    | inr new ↦ inr (omega arith, new.1)
  ]

  -- where a list is long enough, something stands there
  pub get_some : (xs : List X) (i : ℕ) → i < length xs → (x : X) × (slice_get xs i ≡ Some x)
  get_some [] i h = absurd (omega arith)
  get_some (x ∷ xs) zero h = (x, refl)
  get_some (x ∷ xs) (suc i) h = get_some xs i (omega arith)

module _ {X Y : Type 0} (f : X → Y) (P : Y → Type 0) where
  pub all_map : (xs : List X) → ((i : ℕ) (x : X) → slice_get xs i ≡ Some x → P (f x)) → All P (map f xs)
  all_map xs each k d h = by (slice_get xs k) refl
    where
      there : option_map f (slice_get xs k) ≡ Some (get_or (map f xs) k d)
      there = sym (slice_get-map f xs k) ∙ slice_get-get_or (map f xs) k d h

      by : (o : Option X) → slice_get xs k ≡ o → P (get_or (map f xs) k d)
      by None e = let both = sym (ap (option_map f) e) ∙ there in let off : ⊥ = cc in absurd off
      by (Some x) e = let both = sym (ap (option_map f) e) ∙ there in let same : f x ≡ get_or (map f xs) k d = cc in subst P same (each k x e)

module _ {X : Type 0} where
  pub some_of : (o : Option X) → is_some o ≡ true → (x : X) × (o ≡ Some x)
  some_of None h = let off : ⊥ = cc in absurd off
  some_of (Some x) h = (x, refl)

  pub none_of : (o : Option X) → is_some o ≡ false → o ≡ None
  none_of None h = refl
  none_of (Some x) h = let off : ⊥ = cc in absurd off

  -- what stands at a place is the first of the rest from there on
  pub drop_at : (xs : List X) (i : ℕ) (x : X) → slice_get xs i ≡ Some x → drop i xs ≡ x ∷ drop (i + 1) xs
  drop_at [] i x h = let off : ⊥ = cc in absurd off
  drop_at (y ∷ xs) zero x h = let e : y ≡ x = cc in ap (λ (z : X). z ∷ xs) e
  drop_at (y ∷ xs) (suc i) x h = drop_at xs i x h ∙ ap (λ (k : ℕ). x ∷ drop k (y ∷ xs)) one
    where
      one : suc (i + 1) ≡ suc i + 1
      one = omega arith
