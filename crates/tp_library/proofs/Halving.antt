-- What a shelf keeps, and how a simple callback is found on it.
use Rattle.std.proofs.Common.{◌≡◌, ℕ, ◌+◌, ◌<◌, ◌==◌, List, [], length, get_or, replicate, sym, ap, subst, arith, find, nat_cmp}
use Rattle.std.specs.List.{AllPairs}
use Rattle.std.specs.Option.{option_map_or}
use Rattle.std.specs.Ordering.{ordering_index}
use Rattle.std.specs.declared.cmp.Ordering.TheVariants.{Less, Equal, Greater}
use Rattle.std.specs.List.Sorted.{IsNonDecreasingBy, IsPartitionPoint}
use Rattle.layers.proofs.Halving.{halved_found, halved_missing}
use Rattle.tp_library.proofs.Tallies.{none_at}
use Rattle.tp_library.specs.Tallied.{none_held}
use Rattle.tp_library.specs.Shelved.{IsBefore, IsShelved}
use Rattle.tp_library.specs.declared.TheConstants.{LIBRARY_LIMIT}

pub nothing_shelved : (loads of_object : List ℕ) (of_simple : List (ℕ × ℕ)) (slots : List ℕ) (workers : ℕ)
    → loads ≡ none_held → of_object ≡ [] → of_simple ≡ [] → slots ≡ replicate workers 0 → IsShelved loads of_object of_simple slots
nothing_shelved loads of_object of_simple slots workers l o s w =
    subst (λ xs. IsShelved xs of_object of_simple slots) (sym l)
    (subst (λ xs. IsShelved none_held xs of_simple slots) (sym o)
    (subst (λ xs. IsShelved none_held [] xs slots) (sym s)
    (subst (λ xs. IsShelved none_held [] [] xs) (sym w) record {
      most = λ k. omega (arith, none_at (LIBRARY_LIMIT + 1) k);
      objects = λ k. omega arith;
      simple = λ i d h. absurd (omega (arith, h));
      rising = λ i j d h lt. absurd (omega (arith, lt));
      slots = λ k. omega (arith, none_at workers k);
    })))

-- ---- a simple callback is found by halving

abbrev pub Made : Type 0
Made = ℕ × ℕ

abbrev pub simple_among : List Made → ℕ → ℕ
simple_among xs callback = option_map_or (λ (made : Made). made.1) (find (λ (made : Made). made.0 == callback) xs) 0

-- what the halving comes to
pub simple_found : (xs : List Made) (callback place : ℕ) (d : Made) → AllPairs IsBefore xs → place < length xs
    → ((e : Made) → nat_cmp (get_or xs place e).0 callback ≡ Equal) → (get_or xs place d).1 ≡ simple_among xs callback
simple_found xs callback place d r h is = sym (ap (λ o. option_map_or (λ (made : Made). made.1) o 0) (halved_found (λ (made : Made). made.0) xs callback place d r h is))

pub simple_missing : (xs : List Made) (callback place : ℕ) → AllPairs IsBefore xs
    → (IsNonDecreasingBy (λ (y : Made). ordering_index (nat_cmp y.0 callback)) xs → IsPartitionPoint (λ (y : Made). nat_cmp y.0 callback ≡ Less) (λ (y : Made). nat_cmp y.0 callback ≡ Greater) xs place)
    → 0 ≡ simple_among xs callback
simple_missing xs callback place r parted = sym (ap (λ o. option_map_or (λ (made : Made). made.1) o 0) (halved_missing (λ (made : Made). made.0) xs callback place r parted))
