-- The places of callbacks in a row, and their numbers.
use Rattle.std.proofs.Common.{◌≡◌, ◌≢◌, ℕ, zero, suc, ◌+◌, ◌<◌, ◌≤◌, ◌||◌, true, false, cond, List, [], ◌∷◌, length, map, Some, None, refl, sym, ap, ap₂, ◌∙◌, find, eqb-true, ne_eqb, arith}
use Rattle.std.specs.List.{list_any}
use Rattle.tp_base.specs.declared.rows.CallbackRow.{CallbackRow}
use Rattle.tp_model.specs.Counts.{has_number}
use Rattle.tp_model.specs.Support.Sound.{IsRising}
use Rattle.renamed_worlds.specs.Closed.{further, number_at, number_from, place_of}
use Rattle.renamed_worlds.specs.Renamed.{renamed_callback, GoesOn, IsNaming}
use Rattle.renamed_worlds.proofs.Queries.{same_name}

-- ---- numbers rise along the places

from_above : (low next_number : ℕ) (cs : List CallbackRow) → IsRising low next_number cs → (place : ℕ) → low ≤ number_from cs next_number place
from_above low next_number [] rising place = omega (arith, rising)
from_above low next_number (c ∷ cs) rising zero = rising.0
from_above low next_number (c ∷ cs) rising (suc place) = omega (arith, rising.0, from_above (c.number + 1) next_number cs rising.1 place)

from_apart : (low next_number : ℕ) (cs : List CallbackRow) → IsRising low next_number cs → (m n : ℕ) → number_from cs next_number m ≡ number_from cs next_number n → m ≡ n
from_apart low next_number [] rising m n e = omega (arith, e)
from_apart low next_number (c ∷ cs) rising zero zero e = refl
from_apart low next_number (c ∷ cs) rising zero (suc n) e = absurd (omega (arith, e, from_above (c.number + 1) next_number cs rising.1 n))
from_apart low next_number (c ∷ cs) rising (suc m) zero e = absurd (omega (arith, e, from_above (c.number + 1) next_number cs rising.1 m))
from_apart low next_number (c ∷ cs) rising (suc m) (suc n) e = ap suc (from_apart (c.number + 1) next_number cs rising.1 m n e)

pub at_naming : (next_number : ℕ) (cs : List CallbackRow) → IsRising 1 next_number cs → IsNaming (number_at cs next_number)
at_naming next_number cs rising = record { apart = apart; none = refl }
  where
    apart : (m n : ℕ) → number_at cs next_number m ≡ number_at cs next_number n → m ≡ n
    apart zero zero e = refl
    apart zero (suc n) e = absurd (omega (arith, e, from_above 1 next_number cs rising n))
    apart (suc m) zero e = absurd (omega (arith, e, from_above 1 next_number cs rising m))
    apart (suc m) (suc n) e = ap suc (from_apart 1 next_number cs rising m n e)

-- and places along the numbers

from_rises : (low next_number : ℕ) (cs : List CallbackRow) → IsRising low next_number cs → (m n : ℕ) → m < n → number_from cs next_number m < number_from cs next_number n
from_rises low next_number [] rising m n less = omega (arith, less)
from_rises low next_number (c ∷ cs) rising zero zero less = absurd (omega (arith, less))
from_rises low next_number (c ∷ cs) rising zero (suc n) less = omega (arith, from_above (c.number + 1) next_number cs rising.1 n)
from_rises low next_number (c ∷ cs) rising (suc m) zero less = absurd (omega (arith, less))
from_rises low next_number (c ∷ cs) rising (suc m) (suc n) less = from_rises (c.number + 1) next_number cs rising.1 m n (omega (arith, less))

pub at_rises : (next_number : ℕ) (cs : List CallbackRow) → IsRising 1 next_number cs → (m n : ℕ) → m < n → number_at cs next_number m < number_at cs next_number n
at_rises next_number cs rising zero zero less = absurd (omega (arith, less))
at_rises next_number cs rising zero (suc n) less = omega (arith, from_above 1 next_number cs rising n)
at_rises next_number cs rising (suc m) zero less = absurd (omega (arith, less))
at_rises next_number cs rising (suc m) (suc n) less = from_rises 1 next_number cs rising m n (omega (arith, less))

from_before : (low next_number : ℕ) (cs : List CallbackRow) → IsRising low next_number cs → (m n : ℕ) → number_from cs next_number m < number_from cs next_number n → m < n
from_before low next_number [] rising m n less = omega (arith, less)
from_before low next_number (c ∷ cs) rising zero zero less = absurd (omega (arith, less))
from_before low next_number (c ∷ cs) rising zero (suc n) less = omega arith
from_before low next_number (c ∷ cs) rising (suc m) zero less = absurd (omega (arith, less, from_above (c.number + 1) next_number cs rising.1 m))
from_before low next_number (c ∷ cs) rising (suc m) (suc n) less = omega (arith, from_before (c.number + 1) next_number cs rising.1 m n less)

pub at_before : (next_number : ℕ) (cs : List CallbackRow) → IsRising 1 next_number cs → (m n : ℕ) → number_at cs next_number m < number_at cs next_number n → m < n
at_before next_number cs rising zero zero less = absurd (omega (arith, less))
at_before next_number cs rising zero (suc n) less = omega arith
at_before next_number cs rising (suc m) zero less = absurd (omega (arith, less))
at_before next_number cs rising (suc m) (suc n) less = omega (arith, from_before 1 next_number cs rising m n less)

-- ---- behind the last one they go on from the next number

from_behind : (next_number : ℕ) (cs : List CallbackRow) (i place : ℕ) → place ≡ length cs + i → number_from cs next_number place ≡ next_number + i
from_behind next_number [] i place e = omega (arith, e)
from_behind next_number (c ∷ cs) i zero e = absurd (omega (arith, e))
from_behind next_number (c ∷ cs) i (suc place) e = from_behind next_number cs i place (omega (arith, e))

at_behind : (next_number : ℕ) (cs : List CallbackRow) (i place : ℕ) → place ≡ length cs + 1 + i → number_at cs next_number place ≡ next_number + i
at_behind next_number cs i zero e = absurd (omega (arith, e))
at_behind next_number cs i (suc place) e = from_behind next_number cs i place (omega (arith, e))

pub at_next : (next_number : ℕ) (cs : List CallbackRow) → number_at cs next_number (length cs + 1) ≡ next_number
at_next next_number cs = at_behind next_number cs 0 (length cs + 1) (omega arith) ∙ omega arith

pub at_goes_on : (next_number : ℕ) (cs : List CallbackRow) → GoesOn (number_at cs next_number) (length cs + 1)
at_goes_on next_number cs i = at_behind next_number cs i (length cs + 1 + i) refl ∙ ap (λ n. n + i) (sym (at_next next_number cs))

-- ---- the number at the place of a number that a callback has

at_further : (next_number : ℕ) (c : CallbackRow) (cs : List CallbackRow) (place number : ℕ) → number ≢ 0 → number_at cs next_number place ≡ number → number_at (c ∷ cs) next_number (further place) ≡ number
at_further next_number c cs zero number some e = absurd (some (sym e))
at_further next_number c cs (suc place) number some e = e

pub at_place : (next_number : ℕ) (cs : List CallbackRow) (number : ℕ) → number ≢ 0 → list_any (has_number number) cs ≡ true → number_at cs next_number (place_of cs number) ≡ number
at_place next_number [] number some e = absurd cc
at_place next_number (c ∷ cs) number some e =
    elim (has_number number c) as (λ b. has_number number c ≡ b → (b || list_any (has_number number) cs) ≡ true → number_at (c ∷ cs) next_number (cond b 1 (further (place_of cs number))) ≡ number) [
      | true ↦ λ is _. eqb-true c.number number is
      | false ↦ λ _ later. at_further next_number c cs (place_of cs number) number some (at_place next_number cs number some later)
    ] refl e

-- no callback has the number of none
pub nobody : (low next_number number : ℕ) (cs : List CallbackRow) → number < low → IsRising low next_number cs → find (has_number number) cs ≡ None
nobody low next_number number [] less rising = refl
nobody low next_number number (c ∷ cs) less rising =
    ap (λ b. cond b (Some c) (find (has_number number) cs)) (ne_eqb c.number number (λ e. omega (arith, e, less, rising.0)))
    ∙ nobody (c.number + 1) next_number number cs (omega (arith, less, rising.0)) rising.1

pub place_nobody : (cs : List CallbackRow) (number : ℕ) → list_any (has_number number) cs ≡ false → place_of cs number ≡ 0
place_nobody [] number e = refl
place_nobody (c ∷ cs) number e =
    elim (has_number number c) as (λ b. (b || list_any (has_number number) cs) ≡ false → cond b 1 (further (place_of cs number)) ≡ 0) [
      | true ↦ λ h. absurd cc
      | false ↦ λ h. ap further (place_nobody cs number h)
    ] e

-- ---- places don't depend on names

pub place_renamed : (name : ℕ → ℕ) → IsNaming name → (cs : List CallbackRow) (number : ℕ) → place_of (map (renamed_callback name) cs) (name number) ≡ place_of cs number
place_renamed name naming [] number = refl
place_renamed name naming (c ∷ cs) number = ap₂ (λ b p. cond b 1 (further p)) (same_name name naming c.number number) (place_renamed name naming cs number)
