-- The names of callbacks behind a change, in a world and in the closed one.
use Rattle.std.proofs.Common.{◌≡◌, ◌≢◌, ℕ, zero, suc, ◌+◌, ◌<◌, ◌≤◌, ◌==◌, ◌||◌, Bool, true, false, cond, List, [], ◌∷◌, map, refl, sym, ap, ◌∙◌, ◌⊎◌, inl, inr, eq-eqb, eqb-true, ne_eqb, arith}
use Rattle.std.specs.List.{list_any}
use Rattle.tp_base.specs.declared.rows.CallbackRow.{CallbackRow}
use Rattle.tp_model.specs.Counts.{has_number}
use Rattle.tp_model.specs.Support.Sound.{IsRising}
use Rattle.renamed_worlds.specs.Closed.{further, number_at, number_from, place_of}
use Rattle.renamed_worlds.specs.Renamed.{renamed_callback, IsNaming}
use Rattle.renamed_worlds.proofs.Places.{at_naming, at_place, place_nobody, place_renamed}
use Rattle.tp_explore.proofs.Naming.{Agree}

-- no callback has the number of none
pub place_none : (low next_number number : ℕ) (cs : List CallbackRow) → number < low → IsRising low next_number cs → place_of cs number ≡ 0
place_none low next_number number [] less rising = refl
place_none low next_number number (c ∷ cs) less rising =
    ap (λ b. cond b 1 (further (place_of cs number))) (ne_eqb c.number number (λ e. omega (arith, e, less, rising.0)))
    ∙ ap further (place_none (c.number + 1) next_number number cs (omega (arith, less, rising.0)) rising.1)

or_right : (a b : Bool) → b ≡ true → (a || b) ≡ true
or_right true b is = refl
or_right false b is = is

-- a number at a place is that of a callback, or a new one
from_known : (next_number : ℕ) (cs : List CallbackRow) (place : ℕ) → (list_any (has_number (number_from cs next_number place)) cs ≡ true) ⊎ (next_number ≤ number_from cs next_number place)
from_known next_number [] place = inr (omega arith)
from_known next_number (c ∷ cs) zero = inl (ap (λ b. b || list_any (has_number c.number) cs) (eq-eqb c.number c.number refl))
from_known next_number (c ∷ cs) (suc place) = of_rest (from_known next_number cs place)
  where
    of_rest : (list_any (has_number (number_from cs next_number place)) cs ≡ true) ⊎ (next_number ≤ number_from cs next_number place)
        → (list_any (has_number (number_from cs next_number place)) (c ∷ cs) ≡ true) ⊎ (next_number ≤ number_from cs next_number place)
    of_rest (inl is) = inl (or_right (has_number (number_from cs next_number place) c) (list_any (has_number (number_from cs next_number place)) cs) is)
    of_rest (inr new) = inr new

-- a number that nothing is renamed to is at no place
place_unnamed : (name : ℕ → ℕ) (ds : List CallbackRow) (number : ℕ) → ((n : ℕ) → name n ≢ number) → place_of (map (renamed_callback name) ds) number ≡ 0
place_unnamed name [] number never = refl
place_unnamed name (d ∷ ds) number never =
    ap (λ b. cond b 1 (further (place_of (map (renamed_callback name) ds) number))) (ne_eqb (name d.number) number (never d.number))
    ∙ ap further (place_unnamed name ds number never)

-- callbacks before, with the number of the next one, and behind, as in the closed world
module _ (next_number : ℕ) (cs ds : List CallbackRow) (rising : IsRising 1 next_number cs) where
  abbrev name : ℕ → ℕ
  name = number_at cs next_number

  abbrev es : List CallbackRow
  es = map (renamed_callback name) ds

  naming : IsNaming name
  naming = at_naming next_number cs rising

  pub names : (n : ℕ) → place_of es (name n) ≡ place_of ds n
  names n = place_renamed name naming ds n

  module _ (none : place_of es 0 ≡ 0) where
    pub none_behind : place_of ds 0 ≡ 0
    none_behind = sym (names 0) ∙ none

    -- what was made before is behind where its place is
    pub agree : Agree next_number (λ n. place_of ds (place_of cs n)) (place_of es)
    agree n less = known (n == 0) refl (list_any (has_number n) cs) refl
      where
        never : n ≢ 0 → list_any (has_number n) cs ≡ false → (m : ℕ) → name m ≢ n
        never some away zero is = some (sym is)
        never some away (suc place) is = of_from (from_known next_number cs place)
          where
            of_from : (list_any (has_number (number_from cs next_number place)) cs ≡ true) ⊎ (next_number ≤ number_from cs next_number place) → ⊥
            of_from (inl there) = let wrong : true ≡ false = sym there ∙ ap (λ m. list_any (has_number m) cs) is ∙ away in cc
            of_from (inr new) = omega (arith, new, is, less)

        some_number : (n == 0) ≡ false → n ≢ 0
        some_number is e = let wrong : true ≡ false = sym (eq-eqb n 0 e) ∙ is in cc

        known : (nobody : Bool) → (n == 0) ≡ nobody → (there : Bool) → list_any (has_number n) cs ≡ there → place_of ds (place_of cs n) ≡ place_of es n
        known true is there at =
            let zeroth : n ≡ 0 = eqb-true n 0 is in
            ap (λ m. place_of ds (place_of cs m)) zeroth ∙ ap (place_of ds) (place_none 1 next_number 0 cs (omega arith) rising) ∙ none_behind ∙ sym none ∙ ap (place_of es) (sym zeroth)
        known false is true at = sym (names (place_of cs n)) ∙ ap (place_of es) (at_place next_number cs n (some_number is) at)
        known false is false away = ap (place_of ds) (place_nobody cs n away) ∙ none_behind ∙ sym (place_unnamed name ds n (never (some_number is) away))
