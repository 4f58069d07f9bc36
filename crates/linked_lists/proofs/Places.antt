-- The places of keys and of ends.
use Rattle.std.proofs.Common.{◌≡◌, ℕ, ◌+◌, ◌-◌, ◌*◌, ◌/◌, ◌%◌, ◌≤◌, ◌<◌, if◌then◌else◌, sym, ap, ◌∙◌, arith, ⊎_elim}
use Rattle.std.proofs.lemmas.Bool.{cases_lt, eq-eqb, le-ltb, lt-ltb, ne_eqb}
use Rattle.linked_lists.specs.Nodes.{IsPlaceIn, code, place_at}

pub code_even : (keys k : ℕ) → code keys (2 * k) ≡ k
code_even keys k =
    let even : (2 * k) % 2 ≡ 0 = omega arith in
    rw (eq-eqb ((2 * k) % 2) 0 even) (omega arith)

pub code_odd : (keys l : ℕ) → code keys (2 * l + 1) ≡ keys + l
code_odd keys l =
    let odd : (2 * l + 1) % 2 ≡ 1 = omega arith in
    rw (ne_eqb ((2 * l + 1) % 2) 0 (λ e. absurd (omega (arith, odd, e)))) (omega arith)

pub key_place : (keys c : ℕ) → c < keys → place_at keys c ≡ 2 * c
key_place keys c lt = ap (λ b. if b then 2 * c else 2 * (c - keys) + 1) (lt-ltb c keys lt)

pub end_place : (keys c : ℕ) → keys ≤ c → place_at keys c ≡ 2 * (c - keys) + 1
end_place keys c le = ap (λ b. if b then 2 * c else 2 * (c - keys) + 1) (le-ltb c keys le)

pub code_back : (keys c : ℕ) → code keys (place_at keys c) ≡ c
code_back keys c =
    ⊎_elim
    (λ (lt : c < keys). ap (code keys) (key_place keys c lt) ∙ code_even keys c)
    (λ (le : keys ≤ c). ap (code keys) (end_place keys c le) ∙ code_odd keys (c - keys) ∙ omega (arith, le))
    (cases_lt c keys)

pub is_place : (keys total c : ℕ) → c < total → IsPlaceIn keys total (place_at keys c)
is_place keys total c within = record { back = ap (place_at keys) (code_back keys c); within = rw (code_back keys c) within }

pub key_is_place : (keys total k : ℕ) → k < keys → keys ≤ total → IsPlaceIn keys total (2 * k)
key_is_place keys total k lt le = record { back = ap (place_at keys) (code_even keys k) ∙ key_place keys k lt; within = omega (arith, code_even keys k, lt, le) }

pub end_is_place : (keys total l : ℕ) → keys + l < total → IsPlaceIn keys total (2 * l + 1)
end_is_place keys total l lt =
    let is : keys + l - keys ≡ l = omega arith in
    record { back = ap (place_at keys) (code_odd keys l) ∙ end_place keys (keys + l) (omega arith) ∙ ap (λ n. 2 * n + 1) is; within = omega (arith, code_odd keys l, lt) }

-- of one key or end there is one place
pub one_place : (keys total p q : ℕ) → IsPlaceIn keys total p → IsPlaceIn keys total q → code keys p ≡ code keys q → p ≡ q
one_place keys total p q is_p is_q same = sym is_p.back ∙ ap (place_at keys) same ∙ is_q.back

-- an even place is a key's, and an odd one an end's
pub even_is_key : (keys total p : ℕ) → IsPlaceIn keys total p → p % 2 ≡ 0 → (p / 2 ≡ code keys p) × (p / 2 < keys)
even_is_key keys total p is even =
    let half : code keys p ≡ p / 2 = ap (λ b. if b then p / 2 else keys + p / 2) (eq-eqb (p % 2) 0 even) in
    ⊎_elim
    (λ (lt : code keys p < keys). (sym half, omega (arith, lt, half)))
    (λ (le : keys ≤ code keys p). absurd (omega (arith, even, sym is.back ∙ end_place keys (code keys p) le)))
    (cases_lt (code keys p) keys)

pub odd_is_end : (keys p : ℕ) → (p % 2 ≡ 0 → ⊥) → keys ≤ code keys p
odd_is_end keys p odd = omega (arith, ap (λ b. if b then p / 2 else keys + p / 2) (ne_eqb (p % 2) 0 odd))

-- the places are in the array
pub place_below : (keys lists capacity p : ℕ) → 2 * keys ≤ capacity → 2 * lists ≤ capacity → IsPlaceIn keys (keys + lists) p → p < capacity
place_below keys lists capacity p few_keys few_lists is =
    ⊎_elim
    (λ (lt : code keys p < keys). omega (arith, lt, few_keys, sym is.back ∙ key_place keys (code keys p) lt))
    (λ (le : keys ≤ code keys p). omega (arith, le, few_lists, is.within, sym is.back ∙ end_place keys (code keys p) le))
    (cases_lt (code keys p) keys)
