-- Names before the zeros at the end.
use Rattle.std.proofs.Common.{◌≡◌, ◌≤◌, ◌<◌, ℕ, suc, ◌+◌, ◌-◌, ◌==◌, ◌&&◌, Bool, true, false, cond, List, [], ◌∷◌, ◌++◌, length, take, replicate, get_or, refl, sym, ap, ◌∙◌, arith}
use Rattle.std.proofs.lemmas.Bool.{eq-eqb, eqb-true, ne_eqb}
use Rattle.std.proofs.lemmas.List.{length-take, length-take-le, take_more}
use Rattle.short_codes.specs.Codes.{IsCode}
use Rattle.short_codes.proofs.Codes.{list_code, mapped_code, number_code, pair_code}
use Rattle.tp_explore.specs.Keys.{names_code, used}

one_name : (b : Bool) → ◌≡◌ {A = ℕ} (cond (b && true) 0 1) (cond b 0 1)
one_name true = refl
one_name false = refl

none_behind : (b : Bool) (n : ℕ) → cond (b && (suc n == 0)) 0 (suc (suc n)) ≡ suc (suc n)
none_behind true n = ap (λ b. cond b 0 (suc (suc n))) (ne_eqb (suc n) 0 (omega arith))
none_behind false n = refl

more_behind : (first last : Bool) (u n : ℕ) → cond (first && (cond last u (suc n) == 0)) 0 (suc (cond last u (suc n))) ≡ cond last (cond (first && (u == 0)) 0 (suc u)) (suc (suc n))
more_behind first true u n = refl
more_behind first false u n = none_behind first n

-- one name more
used_more : (names : List ℕ) (name : ℕ) → used (names ++ name ∷ []) ≡ cond (name == 0) (used names) (suc (length names))
used_more [] name = one_name (name == 0)
used_more (x ∷ names) name = ap (λ n. cond ((x == 0) && (n == 0)) 0 (suc n)) (used_more names name) ∙ more_behind (x == 0) (name == 0) (used names) (length names)

used_next : (names : List ℕ) (place : ℕ) → place < length names → used (take (place + 1) names) ≡ cond (get_or names place 0 == 0) (used (take place names)) (place + 1)
used_next names place less =
    let long : suc (length (take place names)) ≡ place + 1 = omega (arith, length-take place names) in
    ap used (take_more names place 0 less) ∙ used_more (take place names) (get_or names place 0) ∙ ap (λ n. cond (get_or names place 0 == 0) (used (take place names)) n) long

pub used_here : (names : List ℕ) (place : ℕ) → place < length names → (get_or names place 0 ≡ 0 → ⊥) → used (take (place + 1) names) ≡ place + 1
used_here names place less e = used_next names place less ∙ ap (λ b. cond b (used (take place names)) (place + 1)) (ne_eqb (get_or names place 0) 0 e)

pub used_same : (names : List ℕ) (place : ℕ) → place < length names → get_or names place 0 ≡ 0 → used (take (place + 1) names) ≡ used (take place names)
used_same names place less e = used_next names place less ∙ ap (λ b. cond b (used (take place names)) (place + 1)) (eq-eqb (get_or names place 0) 0 e)

within : (b : Bool) (u n : ℕ) → u ≤ n → cond b 0 (suc u) ≤ suc n
within true u n h = omega (arith, h)
within false u n h = omega (arith, h)

pub used_within : (names : List ℕ) → used names ≤ length names
used_within [] = omega arith
used_within (x ∷ names) = within ((x == 0) && (used names == 0)) (used names) (length names) (used_within names)

-- so many of the names, and zeros in place of the others
abbrev again : ℕ → List ℕ → List ℕ
again u names = take u names ++ replicate (length names - u) 0

again_more : (u x : ℕ) (names : List ℕ) → again u names ≡ names → again (suc u) (x ∷ names) ≡ x ∷ names
again_more u x names e =
    let left : suc (length names) - suc u ≡ length names - u = omega arith in
    ap (λ n. x ∷ (take u names ++ replicate n 0)) left ∙ ap (λ xs. x ∷ xs) e

again_none : (x u : ℕ) (names : List ℕ) → x ≡ 0 → u ≡ 0 → again u names ≡ names → again 0 (x ∷ names) ≡ x ∷ names
again_none x u names first none e =
    let more : suc (length names) - 0 ≡ suc (length names - 0) = omega arith in
    ap (λ n. replicate n 0) more ∙ (λ i. sym first i ∷ (sym (ap (λ n. again n names) none) ∙ e) i)

again_by : (first none : Bool) (x u : ℕ) (names : List ℕ) → (x == 0) ≡ first → (u == 0) ≡ none → again u names ≡ names → again (cond (first && none) 0 (suc u)) (x ∷ names) ≡ x ∷ names
again_by true true x u names is none e = again_none x u names (eqb-true x 0 is) (eqb-true u 0 none) e
again_by true false x u names is none e = again_more u x names e
again_by false none x u names is behind e = again_more u x names e

-- the names before the zeros at the end, and those zeros, are all
all_again : (names : List ℕ) → again (used names) names ≡ names
all_again [] = refl
all_again (x ∷ names) = again_by (x == 0) (used names == 0) x (used names) names refl refl (all_again names)

pub is_names_code : IsCode names_code
is_names_code = mapped_code
    (λ (names : List ℕ). (length names, take (used names) names))
    (λ q. q.1 ++ replicate (q.0 - length q.1) 0)
    (λ names. ap (λ n. take (used names) names ++ replicate (length names - n) 0) (length-take-le (used names) names (used_within names)) ∙ all_again names)
    (pair_code number_code (list_code number_code))
