-- Elements of lists, with their places.
use Rattle.std.proofs.Common.{◌≡◌, ℕ, zero, suc, ◌+◌, ◌-◌, ◌<◌, ◌≤◌, Bool, true, false, cond, ◌&&◌, ◌||◌, ◌==◌, List, [], ◌∷◌, length, Some, is_some, slice_get, refl, sym, ap, ◌∙◌, arith, filter, find}
use Rattle.std.specs.List.{list_all, list_any, range_with_len}
use Rattle.std.proofs.lemmas.Bool.{and_from, or_right}
use Rattle.tp_model.specs.Counts.{numbered}
use Rattle.tp_model.proofs.Refusals.{false_true, numbered_at}

-- an element with its place
pub record IsAt {X : Type 0} (test : X → Bool) (passes : Bool) (xs : List X) : Type 0 where
  pub place : ℕ
  pub element : X
  pub there : slice_get xs place ≡ Some element
  pub tests : test element ≡ passes

further : {X : Type 0} (test : X → Bool) (passes : Bool) (x : X) (xs : List X) → IsAt test passes xs → IsAt test passes (x ∷ xs)
further test passes x xs at = record { place = suc at.place; element = at.element; there = at.there; tests = at.tests }

-- one that fails, where not all pass
pub one_fails : {X : Type 0} (test : X → Bool) (xs : List X) → list_all test xs ≡ false → IsAt test false xs
one_fails test [] fails = absurd (cc)
one_fails {X} test (x ∷ xs) fails = by (test x) refl (one_fails test xs) fails
  where
    by : (b : Bool) → test x ≡ b → (list_all test xs ≡ false → IsAt test false xs) → (b && list_all test xs) ≡ false → IsAt test false (x ∷ xs)
    by false is later e = record { place = 0; element = x; there = refl; tests = is }
    by true is later e = further test false x xs (later e)

-- one that passes, where some are counted
pub one_passes : {X : Type 0} (test : X → Bool) (xs : List X) → (length (filter test xs) == 0) ≡ false → IsAt test true xs
one_passes test [] some = absurd (cc)
one_passes {X} test (x ∷ xs) some = by (test x) refl (one_passes test xs) some
  where
    by : (b : Bool) → test x ≡ b → ((length (filter test xs) == 0) ≡ false → IsAt test true xs) → (length (cond b (x ∷ filter test xs) (filter test xs)) == 0) ≡ false → IsAt test true (x ∷ xs)
    by true is later e = record { place = 0; element = x; there = refl; tests = is }
    by false is later e = further test true x xs (later e)

pub counted : {X : Type 0} (test : X → Bool) (xs : List X) (i : ℕ) (x : X) → slice_get xs i ≡ Some x → test x ≡ true → 1 ≤ length (filter test xs)
counted test [] i x there passes = absurd (cc)
counted test (y ∷ ys) zero x there passes =
    let same : y ≡ x = cc in
    let e : test y ≡ true = ap test same ∙ passes in
    let is : length (filter test (y ∷ ys)) ≡ suc (length (filter test ys)) = ap (λ (b : Bool). length (cond b (y ∷ filter test ys) (filter test ys))) e in
    omega (arith, is)
counted {X} test (y ∷ ys) (suc i) x there passes = by (test y) (counted test ys i x there passes)
  where
    by : (b : Bool) → 1 ≤ length (filter test ys) → 1 ≤ length (cond b (y ∷ filter test ys) (filter test ys))
    by true more = omega (arith, more)
    by false more = more

-- a number of a range that passes
pub found_in : (test : ℕ → Bool) (first count n : ℕ) → first ≤ n → n < first + count → test n ≡ true → is_some (find test (range_with_len first count)) ≡ true
found_in test first zero n low high passes = absurd (omega (arith, low, high))
found_in test first (suc count) n low high passes = by (test first) refl (λ above. found_in test (first + 1) count n above (omega (arith, high)) passes)
  where
    by : (b : Bool) → test first ≡ b → (first + 1 ≤ n → is_some (find test (range_with_len (first + 1) count)) ≡ true) → is_some (cond b (Some first) (find test (range_with_len (first + 1) count))) ≡ true
    by true is later = refl
    by false is later =
        let apart : first ≡ n → ⊥ = λ (same : first ≡ n). false_true (sym is ∙ (ap test same ∙ passes)) in
        later (omega (arith, low, apart))

-- all of a range pass
pub all_in_range : (test : ℕ → Bool) (first count : ℕ) → ((n : ℕ) → first ≤ n → n < first + count → test n ≡ true) → list_all test (range_with_len first count) ≡ true
all_in_range test first zero all = refl
all_in_range test first (suc count) all =
    and_from (test first) _ (all first (omega arith) (omega arith)) (all_in_range test (first + 1) count (λ n low high. all n (omega (arith, low)) (omega (arith, high))))

-- one that passes, where any does
pub any_at : {X : Type 0} (test : X → Bool) (xs : List X) → list_any test xs ≡ true → IsAt test true xs
any_at test [] some = absurd (cc)
any_at {X} test (x ∷ xs) some = by (test x) refl (any_at test xs) some
  where
    by : (b : Bool) → test x ≡ b → (list_any test xs ≡ true → IsAt test true xs) → (b || list_any test xs) ≡ true → IsAt test true (x ∷ xs)
    by true is later e = record { place = 0; element = x; there = refl; tests = is }
    by false is later e = further test true x xs (later e)

pub passes_any : {X : Type 0} (test : X → Bool) (xs : List X) (i : ℕ) (x : X) → slice_get xs i ≡ Some x → test x ≡ true → list_any test xs ≡ true
passes_any test [] i x there passes = absurd (cc)
passes_any test (y ∷ ys) zero x there passes =
    let same : y ≡ x = cc in
    ap (λ (b : Bool). b || list_any test ys) (ap test same ∙ passes)
passes_any test (y ∷ ys) (suc i) x there passes = or_right (test y) (list_any test ys) (passes_any test ys i x there passes)

-- a place counts from 0, and a number from 1
pub row_at : {X : Type 0} (rows : List X) (i : ℕ) (row : X) → slice_get rows i ≡ Some row → numbered rows (i + 1) ≡ Some row
row_at rows i row there = numbered_at rows (i + 1) row (omega arith) (let same : (i + 1) - 1 ≡ i = omega arith in ap (slice_get rows) same ∙ there)
