-- Tallies that are raised and lowered.
use Rattle.std.proofs.Common.{◌≡◌, ℕ, ◌+◌, ◌-◌, ◌<◌, ◌==◌, true, false, cond, List, length, refl, sym, ap, subst, ◌∙◌, arith, replicate, zero, suc}
use Rattle.std.proofs.lemmas.Bool.Decides.{nat_tests}
use Rattle.std.proofs.lemmas.List.{get_or-set_other, get_or-set_same, length-set}
use Rattle.tp_library.specs.Counted.{one_in}
use Rattle.tp_library.specs.Tallied.{none_held, with_left, Tallied}
use Rattle.tp_library.specs.Tallies.{at, lowered, raised}
use Rattle.tp_library.specs.declared.TheConstants.{LIBRARY_LIMIT}

pub one_same : (library : ℕ) → one_in library library ≡ 1
one_same library = grind (arith, nat_tests)

-- by one name of a library or another
pub one_as : (mine named library : ℕ) → mine ≡ named → one_in mine library ≡ one_in named library
one_as mine named library same = ap (λ n. one_in n library) same

pub raised_at : (tally : List ℕ) (mine library : ℕ) → library < length tally → at (raised tally mine) library ≡ at tally library + one_in mine library
raised_at tally mine library h =
    elim (mine == library) as (λ b. (mine == library) ≡ b → at (raised tally mine) library ≡ at tally library + cond b 1 0) [
      | true ↦ λ is. let same : mine ≡ library = grind (arith, nat_tests, is) in
          subst (λ l. at (raised tally mine) l ≡ at tally l + 1) same (get_or-set_same tally mine (at tally mine + 1) 0 (omega (arith, h, same)))
      | false ↦ λ is. let other : library ≡ mine → ⊥ = grind (arith, nat_tests, is) in
          get_or-set_other tally mine library (at tally mine + 1) 0 other ∙ omega arith
    ] refl

pub lowered_at : (tally : List ℕ) (mine library count : ℕ) → library < length tally → at (lowered tally mine count) library ≡ at tally library - cond (mine == library) count 0
lowered_at tally mine library count h =
    elim (mine == library) as (λ b. (mine == library) ≡ b → at (lowered tally mine count) library ≡ at tally library - cond b count 0) [
      | true ↦ λ is. let same : mine ≡ library = grind (arith, nat_tests, is) in
          subst (λ l. at (lowered tally mine count) l ≡ at tally l - count) same (get_or-set_same tally mine (at tally mine - count) 0 (omega (arith, h, same)))
      | false ↦ λ is. let other : library ≡ mine → ⊥ = grind (arith, nat_tests, is) in
          get_or-set_other tally mine library (at tally mine - count) 0 other ∙ omega arith
    ] refl

pub none_at : (n k : ℕ) → at (replicate n 0) k ≡ 0
none_at zero k = refl
none_at (suc n) zero = refl
none_at (suc n) (suc k) = none_at n k

pub cleared_at : (library : ℕ) → at none_held library ≡ 0
cleared_at library = none_at (LIBRARY_LIMIT + 1) library

-- ---- one more callback that may run

module _ (old now new : Tallied) (mine : ℕ) (is : new ≡ with_left now mine) where
  pub left_many : length now.left ≡ LIBRARY_LIMIT + 1 → length new.left ≡ LIBRARY_LIMIT + 1
  left_many many = ap (λ (c : Tallied). length c.left) is ∙ length-set now.left mine (at now.left mine + 1) ∙ many

  pub left_alone : now ≡ record old { left = now.left } → new ≡ record old { left = new.left }
  left_alone same =
      is
      ∙ ap (λ (c : Tallied). record c { left = raised now.left mine }) same
      ∙ ap (λ t. record old { left = t }) (sym (ap (λ (c : Tallied). c.left) is))

  pub left_raised : (library : ℕ) → library < length now.left → at new.left library ≡ at now.left library + one_in mine library
  left_raised library h = ap (λ (c : Tallied). at c.left library) is ∙ raised_at now.left mine library h
