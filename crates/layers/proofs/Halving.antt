-- In a list whose elements' numbers rise the one of a number is found by halving.
use Rattle.std.proofs.Common.{◌≡◌, ◌≢◌, ℕ, ◌<◌, ◌≤◌, ◌==◌, Bool, true, false, cond, List, [], ◌∷◌, length, get_or, Some, None, ap, ◌∙◌, subst, arith, find, zero, suc, nat_cmp, nat_lt, refl}
use Rattle.std.specs.List.{AllPairs}
use Rattle.std.specs.List.Sorted.{IsNonDecreasingBy, IsPartitionPoint}
use Rattle.std.specs.Ordering.{ordering_index}
use Rattle.std.specs.declared.cmp.Ordering.TheVariants.{Less, Equal, Greater}
use Rattle.std.proofs.lemmas.Bool.Decides.{nat_tests}

equal_tests : (a b : ℕ) → a ≡ b → (a == b) ≡ true
equal_tests a b e = grind (arith, nat_tests, e)

apart_tests : (a b : ℕ) → a ≢ b → (a == b) ≡ false
apart_tests a b h = grind (arith, nat_tests, h)

equal_from : (a b : ℕ) → nat_cmp a b ≡ Equal → a ≡ b
equal_from a b e = grind (arith, nat_tests, e)

less_from : (a b : ℕ) → nat_cmp a b ≡ Less → a < b
less_from a b e = grind (arith, nat_tests, e)

greater_from : (a b : ℕ) → nat_cmp a b ≡ Greater → b < a
greater_from a b e = grind (arith, nat_tests, e)

index_rises : (number a b : ℕ) → a ≤ b → ordering_index (nat_cmp a number) ≤ ordering_index (nat_cmp b number)
index_rises number a b h = grind (arith, nat_tests, h)

module _ {A : Type 0} (key : A → ℕ) where
  abbrev pub IsBefore : A → A → Type 0
  IsBefore a b = key a < key b

  abbrev is_of : ℕ → A → Bool
  is_of number a = key a == number

  module _ (x : A) (rest : List A) (rising : AllPairs IsBefore (x ∷ rest)) where
    rest_rises : AllPairs IsBefore rest
    rest_rises i j d lt h = rising (suc i) (suc j) d (omega (arith, lt)) (omega (arith, h))

    head_before : (k : ℕ) (d : A) → k < length rest → key x < key (get_or rest k d)
    head_before k d h = rising zero (suc k) d (omega arith) (omega (arith, h))

  found_some : (number : ℕ) (xs : List A) (place : ℕ) (d : A) → AllPairs IsBefore xs → place < length xs → key (get_or xs place d) ≡ number → find (is_of number) xs ≡ Some (get_or xs place d)
  found_some number [] place d r h e = absurd (omega (arith, h))
  found_some number (x ∷ xs) zero d r h e = ap (λ b. cond b (Some x) (find (is_of number) xs)) (equal_tests (key x) number e)
  found_some number (x ∷ xs) (suc place) d r h e =
      let in_rest : place < length xs = omega (arith, h) in
      let apart : key x ≢ number = λ same. omega (arith, same, e, head_before x xs r place d in_rest) in
      ap (λ b. cond b (Some x) (find (is_of number) xs)) (apart_tests (key x) number apart) ∙ found_some number xs place d (rest_rises x xs r) in_rest e

  found_none : (number : ℕ) (xs : List A) → ((k : ℕ) (d : A) → k < length xs → key (get_or xs k d) ≢ number) → find (is_of number) xs ≡ None
  found_none number [] h = refl
  found_none number (x ∷ xs) h = ap (λ b. cond b (Some x) (find (is_of number) xs)) (apart_tests (key x) number (h zero x (omega arith))) ∙ found_none number xs (λ k d lt. h (suc k) d (omega (arith, lt)))

  keys_rise : (xs : List A) (i j : ℕ) (d : A) → AllPairs IsBefore xs → i ≤ j → j < length xs → key (get_or xs i d) ≤ key (get_or xs j d)
  keys_rise xs i j d r le h =
      elim (nat_lt i j) as (λ b. nat_lt i j ≡ b → key (get_or xs i d) ≤ key (get_or xs j d)) [
        | true ↦ λ is. let lt : i < j = grind (arith, nat_tests, is) in omega (arith, r i j d lt h)
        | false ↦ λ is. let same : i ≡ j = grind (arith, nat_tests, is, le) in subst (λ k. key (get_or xs i d) ≤ key (get_or xs k d)) same (omega arith)
      ] refl

  pub halved_found : (xs : List A) (number place : ℕ) (d : A) → AllPairs IsBefore xs → place < length xs → ((e : A) → nat_cmp (key (get_or xs place e)) number ≡ Equal)
      → find (λ a. key a == number) xs ≡ Some (get_or xs place d)
  halved_found xs number place d r h is = found_some number xs place d r h (equal_from _ _ (is d))

  abbrev IsParted : List A → ℕ → ℕ → Type 0
  IsParted xs number place = IsPartitionPoint (λ y. nat_cmp (key y) number ≡ Less) (λ y. nat_cmp (key y) number ≡ Greater) xs place

  all_apart : (xs : List A) (number place : ℕ) → IsParted xs number place → (k : ℕ) (d : A) → k < length xs → key (get_or xs k d) ≢ number
  all_apart xs number place parts k d h same =
      elim (nat_lt k place) as (λ b. nat_lt k place ≡ b → ⊥) [
        | true ↦ λ is. let lt : k < place = grind (arith, nat_tests, is) in omega (arith, same, less_from (key (get_or xs k d)) number (parts.0 k d (omega arith) lt))
        | false ↦ λ is. let le : place ≤ k = grind (arith, nat_tests, is) in omega (arith, same, greater_from (key (get_or xs k d)) number (parts.1 k d le h))
      ] refl

  pub halved_missing : (xs : List A) (number place : ℕ) → AllPairs IsBefore xs → (IsNonDecreasingBy (λ y. ordering_index (nat_cmp (key y) number)) xs → IsParted xs number place)
      → find (λ a. key a == number) xs ≡ None
  halved_missing xs number place r parted =
      let parts = parted (λ i j d le h. index_rises number (key (get_or xs i d)) (key (get_or xs j d)) (keys_rise xs i j d r le h)) in
      found_none number xs (all_apart xs number place parts)
