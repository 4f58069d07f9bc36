-- Armed waits: each object is armed once.
use Rattle.std.proofs.Common.{◌≡◌, ℕ, ◌+◌, ◌<◌, ◌≤◌, ◌==◌, Bool, true, false, cond, not, ◌||◌, List, [], ◌∷◌, ◌++◌, length, map, Some, refl, ap, ap₂, ◌∙◌, subst, arith, filter, find, eqb-true, eq-eqb, ne_eqb}
use Rattle.std.specs.Prelude.{nat_eq}
use Rattle.std.specs.List.{AllByRecursion, IsDistinct, list_any}
use Rattle.std.proofs.lemmas.List.{length-map}
use Rattle.std.proofs.lemmas.List.Folds.{list_any-append}
use Rattle.std.proofs.lemmas.Map.Keys.{IsDistinct-cons}
use Rattle.std.proofs.lemmas.Map.Steps.{length-le_from_distinct_below}
use Rattle.tp_base.specs.declared.rows.Arming.{Arming}
use Rattle.tp_base.specs.declared.rows.TimerSetting.{TimerSetting}
use Rattle.tp_base.specs.Armings.{is_armed, is_arming_of, without_arming, armed_behind}
use Rattle.tp_model.proofs.Arming.{behind_first, one_if}
use Rattle.tp_model.proofs.Lists.{any_filter_none}
use Rattle.tp_model.proofs.Refusals.{neither, eqb_sym, or_true}
use Rattle.sources.specs.Kept.{AreOnce}

-- ---- none is armed twice

pub once_filter : (p : Arming → Bool) (armings : List Arming) → AreOnce armings → AreOnce (filter p armings)
once_filter p [] h = tt
once_filter p (a ∷ armings) h =
    elim (p a) as (λ b. AreOnce (cond b (a ∷ filter p armings) (filter p armings))) [
      | true ↦ (any_filter_none (is_arming_of a.object.0) p armings h.0, once_filter p armings h.1)
      | false ↦ once_filter p armings h.1
    ]

pub once_more : (armings : List Arming) (a : Arming) → is_armed a.object.0 armings ≡ false → AreOnce armings → AreOnce (armings ++ a ∷ [])
once_more [] a unarmed h = (refl, tt)
once_more (x ∷ armings) a unarmed h =
    let both = neither (x.object.0 == a.object.0) (is_armed a.object.0 armings) unarmed in (
      list_any-append (is_arming_of x.object.0) armings (a ∷ []) ∙ ap₂ (λ p q. p || (q || false)) h.0 (eqb_sym a.object.0 x.object.0 ∙ both.0),
      once_more armings a both.1 h.1,
    )

-- so no more are armed than there are objects
abbrev AreWithin : ℕ → List Arming → Type 0
AreWithin most armings = AllByRecursion (λ (a : Arming). (1 ≤ a.object.0) × (a.object.0 ≤ most)) armings

abbrev numbers_of : List Arming → List ℕ
numbers_of armings = map (λ (a : Arming). a.object.0) armings

others_apart : (n : ℕ) (armings : List Arming) → is_armed n armings ≡ false → AllByRecursion (λ m. nat_eq n m ≡ false) (numbers_of armings)
others_apart n [] h = tt
others_apart n (x ∷ xs) h = let both = neither (x.object.0 == n) (is_armed n xs) h in (eqb_sym n x.object.0 ∙ both.0, others_apart n xs both.1)

numbers_apart : (armings : List Arming) → AreOnce armings → IsDistinct nat_eq (numbers_of armings)
unfolding IsDistinct
numbers_apart [] h = tt
numbers_apart (x ∷ xs) h = (others_apart x.object.0 xs h.0, numbers_apart xs h.1)

none_0 : (most : ℕ) (armings : List Arming) → AreWithin most armings → AllByRecursion (λ n. nat_eq 0 n ≡ false) (numbers_of armings)
none_0 most [] h = tt
none_0 most (x ∷ xs) h = (ne_eqb 0 x.object.0 (λ e. omega (arith, e, h.0.0)), none_0 most xs h.1)

all_within : (most n : ℕ) (armings : List Arming) → AreWithin most armings → list_any (nat_eq n) (numbers_of armings) ≡ true → n ≤ most
all_within most n [] h e = absurd cc
all_within most n (x ∷ xs) h e =
    elim (nat_eq n x.object.0) as (λ b. nat_eq n x.object.0 ≡ b → (b || list_any (nat_eq n) (numbers_of xs)) ≡ true → n ≤ most) [
      | true ↦ λ is _. omega (arith, eqb-true n x.object.0 is, h.0.1)
      | false ↦ λ _ rest. all_within most n xs h.1 rest
    ] refl e

pub once_few : (armings : List Arming) (most : ℕ) → AreOnce armings → AreWithin most armings → length armings ≤ most
once_few armings most once within =
    omega (
      arith,
      length-map armings (λ (a : Arming). a.object.0),
      length-le_from_distinct_below (0 ∷ numbers_of armings) (most + 1) (IsDistinct-cons nat_eq 0 (numbers_of armings) (none_0 most armings within) (numbers_apart armings once)) below,
    )
  where
    below : (n : ℕ) → list_any (nat_eq n) (0 ∷ numbers_of armings) ≡ true → n < most + 1
    below n e =
        elim (nat_eq n 0) as (λ b. nat_eq n 0 ≡ b → (b || list_any (nat_eq n) (numbers_of armings)) ≡ true → n < most + 1) [
          | true ↦ λ is _. omega (arith, eqb-true n 0 is)
          | false ↦ λ _ rest. omega (arith, all_within most n armings within rest)
        ] refl e

-- ---- one is disarmed

pub one_most : (b : Bool) → one_if b ≤ 1
one_most true = omega arith
one_most false = omega arith

pub without_length : (o : ℕ) (armings : List Arming) → AreOnce armings → length (without_arming o armings) + one_if (is_armed o armings) ≡ length armings
without_length o [] h = refl
without_length o (a ∷ armings) h =
    elim (a.object.0 == o) as (λ b. (a.object.0 == o) ≡ b → length (cond (not b) (a ∷ without_arming o armings) (without_arming o armings)) + one_if (b || is_armed o armings) ≡ length (a ∷ armings)) [
      | true ↦ λ is. omega (arith, without_length o armings h.1, ap one_if (subst (λ n. is_armed n armings ≡ false) (eqb-true a.object.0 o is) h.0))
      | false ↦ λ _. omega (arith, without_length o armings h.1)
    ] refl

pub is_gone : (o : ℕ) (armings : List Arming) → is_armed o (without_arming o armings) ≡ false
is_gone o [] = refl
is_gone o (a ∷ armings) =
    elim (a.object.0 == o) as (λ b. (a.object.0 == o) ≡ b → is_armed o (cond (not b) (a ∷ without_arming o armings) (without_arming o armings)) ≡ false) [
      | true ↦ λ _. is_gone o armings
      | false ↦ λ e. ap (λ b. b || is_armed o (without_arming o armings)) e ∙ is_gone o armings
    ] refl

pub found_is_armed : (p : Arming → Bool) (armings : List Arming) (a : Arming) → find p armings ≡ Some a → is_armed a.object.0 armings ≡ true
found_is_armed p [] a found = absurd cc
found_is_armed p (x ∷ armings) a found =
    elim (p x) as (λ b. cond b (Some x) (find p armings) ≡ Some a → is_armed a.object.0 (x ∷ armings) ≡ true) [
      | true ↦ λ e. let same : x ≡ a = cc in ap (λ b. b || is_armed a.object.0 armings) (eq-eqb x.object.0 a.object.0 (ap (λ (y : Arming). y.object.0) same))
      | false ↦ λ e. ap (λ b. (x.object.0 == a.object.0) || b) (found_is_armed p armings a e) ∙ or_true (x.object.0 == a.object.0)
    ] found

-- ---- some settings expire

-- what stays armed, where nothing expires
pub behind_none : (armings : List Arming) → armed_behind [] armings ≡ armings
behind_none [] = refl
behind_none (a ∷ armings) = ap (λ rest. a ∷ rest) (behind_none armings)

-- no more are disarmed than expire
pub behind_length : (ss : List TimerSetting) (armings : List Arming) → AreOnce armings → length armings ≤ length ss + length (armed_behind ss armings)
behind_length [] armings h = omega (arith, ap length (behind_none armings))
behind_length (s ∷ ss) armings h =
    omega (
      arith,
      ap length (behind_first s ss armings),
      behind_length ss (without_arming s.object.0 armings) (once_filter (λ (a : Arming). not (is_arming_of s.object.0 a)) armings h),
      without_length s.object.0 armings h,
      one_most (is_armed s.object.0 armings),
    )
