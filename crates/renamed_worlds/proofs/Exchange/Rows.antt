-- Rows that change places are found at their new places, and counted as before.
use Rattle.std.proofs.Common.{◌≡◌, ℕ, zero, suc, ◌+◌, ◌-◌, ◌<◌, ◌||◌, ◌&&◌, Bool, true, false, cond, List, [], ◌∷◌, length, slice_get, slice_set, None, refl, sym, ap, ap₂, ◌∙◌, filter, ne_eqb, arith}
use Rattle.std.specs.List.{list_all, list_any, range_with_len}
use Rattle.tp_base.specs.Actors.{is_same_actor}
use Rattle.tp_base.specs.declared.ids.Who.{Who}
use Rattle.tp_base.specs.declared.ids.Who.TheVariants.{Client, Worker}
use Rattle.tp_model.specs.Counts.{numbered}
use Rattle.renamed_worlds.specs.Exchanged.{exchanged_number, exchanged_place, exchanged_rows, exchanged_who}
use Rattle.renamed_worlds.specs.Renamed.{IsNaming}
use Rattle.renamed_worlds.proofs.Queries.{same_name}

-- ---- numbers

place_back : (at place : ℕ) → exchanged_place at (exchanged_place at place) ≡ place
place_back zero zero = refl
place_back zero (suc zero) = refl
place_back zero (suc (suc place)) = refl
place_back (suc at) zero = refl
place_back (suc at) (suc place) = ap suc (place_back at place)

number_back : (at number : ℕ) → exchanged_number at (exchanged_number at number) ≡ number
number_back at zero = refl
number_back at (suc place) = ap suc (place_back at place)

pub number_naming : (at : ℕ) → IsNaming (exchanged_number at)
number_naming at = record { apart = λ m n e. sym (number_back at m) ∙ ap (exchanged_number at) e ∙ number_back at n; none = refl }

pub same_who : (at : ℕ) (a b : Who) → is_same_actor (exchanged_who at a) (exchanged_who at b) ≡ is_same_actor a b
same_who at (Client a) (Client b) = refl
same_who at (Client a) (Worker b) = refl
same_who at (Worker a) (Client b) = refl
same_who at (Worker a) (Worker b) = same_name (exchanged_number at) (number_naming at) a b

-- ---- rows

module _ {X : Type 0} where
  get_exchanged : (at place : ℕ) (xs : List X) → at + 1 < length xs → slice_get (exchanged_rows at xs) (exchanged_place at place) ≡ slice_get xs place
  get_exchanged at place [] fits = absurd (omega (arith, fits))
  get_exchanged zero place (x ∷ []) fits = absurd (omega (arith, fits))
  get_exchanged zero zero (x ∷ y ∷ xs) fits = refl
  get_exchanged zero (suc zero) (x ∷ y ∷ xs) fits = refl
  get_exchanged zero (suc (suc place)) (x ∷ y ∷ xs) fits = refl
  get_exchanged (suc at) zero (x ∷ xs) fits = refl
  get_exchanged (suc at) (suc place) (x ∷ xs) fits = get_exchanged at place xs (omega (arith, fits))

  set_place : (at place : ℕ) (xs : List X) (r : X) → at + 1 < length xs → slice_set (exchanged_rows at xs) (exchanged_place at place) r ≡ exchanged_rows at (slice_set xs place r)
  set_place at place [] r fits = absurd (omega (arith, fits))
  set_place zero place (x ∷ []) r fits = absurd (omega (arith, fits))
  set_place zero zero (x ∷ y ∷ xs) r fits = refl
  set_place zero (suc zero) (x ∷ y ∷ xs) r fits = refl
  set_place zero (suc (suc place)) (x ∷ y ∷ xs) r fits = refl
  set_place (suc at) zero (x ∷ xs) r fits = refl
  set_place (suc at) (suc place) (x ∷ xs) r fits = ap (λ t. x ∷ t) (set_place at place xs r (omega (arith, fits)))

  numbered_at_place : (xs : List X) (place : ℕ) → numbered xs (suc place) ≡ slice_get xs place
  numbered_at_place xs place = ap₂ (λ b n. cond b None (slice_get xs n)) (ne_eqb (suc place) 0 (λ e. absurd (omega (arith, e)))) (omega arith)

  pub numbered_exchanged : (at number : ℕ) (xs : List X) → at + 1 < length xs → numbered (exchanged_rows at xs) (exchanged_number at number) ≡ numbered xs number
  numbered_exchanged at zero xs fits = refl
  numbered_exchanged at (suc place) xs fits = numbered_at_place (exchanged_rows at xs) (exchanged_place at place) ∙ get_exchanged at place xs fits ∙ sym (numbered_at_place xs place)

  -- a row in place of that of a worker
  pub set_exchanged : (at place : ℕ) (xs : List X) (r : X) → at + 1 < length xs → slice_set (exchanged_rows at xs) (exchanged_number at (suc place) - 1) r ≡ exchanged_rows at (slice_set xs (suc place - 1) r)
  set_exchanged at place xs r fits =
      ap (λ n. slice_set (exchanged_rows at xs) n r) (omega arith) ∙ set_place at place xs r fits ∙ ap (λ n. exchanged_rows at (slice_set xs n r)) (omega arith)

  pub length_exchanged : (at : ℕ) (xs : List X) → length (exchanged_rows at xs) ≡ length xs
  length_exchanged at [] = refl
  length_exchanged zero (x ∷ []) = refl
  length_exchanged zero (x ∷ y ∷ xs) = refl
  length_exchanged (suc at) (x ∷ xs) = ap suc (length_exchanged at xs)

  module _ (test : X → Bool) where
    pub count_exchanged : (at : ℕ) (xs : List X) → length (filter test (exchanged_rows at xs)) ≡ length (filter test xs)
    count_exchanged at [] = refl
    count_exchanged zero (x ∷ []) = refl
    count_exchanged zero (x ∷ y ∷ xs) = both (test x) (test y)
      where
        both : (a b : Bool) → length (cond b (y ∷ cond a (x ∷ filter test xs) (filter test xs)) (cond a (x ∷ filter test xs) (filter test xs))) ≡ length (cond a (x ∷ cond b (y ∷ filter test xs) (filter test xs)) (cond b (y ∷ filter test xs) (filter test xs)))
        both true true = refl
        both true false = refl
        both false true = refl
        both false false = refl
    count_exchanged (suc at) (x ∷ xs) =
        elim (test x) as (λ a. length (cond a (x ∷ filter test (exchanged_rows at xs)) (filter test (exchanged_rows at xs))) ≡ length (cond a (x ∷ filter test xs) (filter test xs))) [
          | true ↦ ap suc (count_exchanged at xs)
          | false ↦ count_exchanged at xs
        ]

    pub any_exchanged : (at : ℕ) (xs : List X) → list_any test (exchanged_rows at xs) ≡ list_any test xs
    any_exchanged at [] = refl
    any_exchanged zero (x ∷ []) = refl
    any_exchanged zero (x ∷ y ∷ xs) = both (test x) (test y)
      where
        both : (a b : Bool) → (b || (a || list_any test xs)) ≡ (a || (b || list_any test xs))
        both true true = refl
        both true false = refl
        both false true = refl
        both false false = refl
    any_exchanged (suc at) (x ∷ xs) = ap (λ b. test x || b) (any_exchanged at xs)

-- ---- a test of all numbers

all_from : (after before : ℕ → Bool) (low count : ℕ) → ((place : ℕ) → after (low + place) ≡ before (low + place)) → list_all after (range_with_len low count) ≡ list_all before (range_with_len low count)
all_from after before low zero agree = refl
all_from after before low (suc count) agree =
    let zero_is : low ≡ low + 0 = omega arith in
    ap₂ (λ a b. a && b) (ap after zero_is ∙ agree 0 ∙ ap before (sym zero_is)) (all_from after before (low + 1) count further)
  where
    further : (place : ℕ) → after (low + 1 + place) ≡ before (low + 1 + place)
    further place = let is : low + 1 + place ≡ low + suc place = omega arith in ap after is ∙ agree (suc place) ∙ ap before (sym is)

pub all_exchanged : (after before : ℕ → Bool) (at low count : ℕ) → at + 1 < count → ((place : ℕ) → after (low + exchanged_place at place) ≡ before (low + place)) → list_all after (range_with_len low count) ≡ list_all before (range_with_len low count)
all_exchanged after before at low zero fits agree = absurd (omega (arith, fits))
all_exchanged after before zero low (suc zero) fits agree = absurd (omega (arith, fits))
all_exchanged after before zero low (suc (suc count)) fits agree =
    let zero_is : low ≡ low + 0 = omega arith in
    swapped (after low) (after (low + 1)) (before low) (before (low + 1)) (list_all after (range_with_len (low + 1 + 1) count)) (list_all before (range_with_len (low + 1 + 1) count))
    (agree 0 ∙ ap before (sym zero_is)) (ap after zero_is ∙ agree 1) (all_from after before (low + 1 + 1) count further)
  where
    swapped : (a b c d e f : Bool) → b ≡ c → a ≡ d → e ≡ f → (a && (b && e)) ≡ (c && (d && f))
    swapped a b c d e f p q r = ap₂ (λ x y. x && y) q (ap₂ (λ x y. x && y) p r) ∙ turned d c f
      where
        turned : (x y z : Bool) → (x && (y && z)) ≡ (y && (x && z))
        turned true true z = refl
        turned true false z = refl
        turned false true z = refl
        turned false false z = refl

    further : (place : ℕ) → after (low + 1 + 1 + place) ≡ before (low + 1 + 1 + place)
    further place = let is : low + 1 + 1 + place ≡ low + suc (suc place) = omega arith in ap after is ∙ agree (suc (suc place)) ∙ ap before (sym is)
all_exchanged after before (suc at) low (suc count) fits agree =
    let zero_is : low ≡ low + 0 = omega arith in
    ap₂ (λ a b. a && b) (ap after zero_is ∙ agree 0 ∙ ap before (sym zero_is)) (all_exchanged after before at (low + 1) count (omega (arith, fits)) further)
  where
    further : (place : ℕ) → after (low + 1 + exchanged_place at place) ≡ before (low + 1 + place)
    further place =
        let is : low + 1 + exchanged_place at place ≡ low + suc (exchanged_place at place) = omega arith in
        let was : low + suc place ≡ low + 1 + place = omega arith in
        ap after is ∙ agree (suc place) ∙ ap before was
