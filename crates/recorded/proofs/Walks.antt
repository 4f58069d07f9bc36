-- How the callbacks that are left are gone through, by rising number.
use Rattle.std.proofs.Common.{◌≡◌, ℕ, ◌+◌, ◌<◌, ◌≤◌, Bool, true, false, cond, List, [], ◌∷◌, ◌++◌, nat_lt, Some, None, refl, sym, ap, ◌∙◌, arith, find, append_assoc, subst}
use Rattle.std.specs.Prelude.{map}
use Rattle.std.proofs.lemmas.List.{append-nil}
use Rattle.tp_base.specs.declared.ids.ObjectId.{ObjectId}
use Rattle.tp_base.specs.declared.rows.CallbackRow.{CallbackRow}
use Rattle.tp_base.specs.declared.rows.Status.{Status}
use Rattle.tp_model.specs.Support.Sound.{IsRising}

abbrev Row : Type 0
Row = ℕ × ObjectId × Status

abbrev pub above : ℕ → Row → Bool
above number row = nat_lt number row.0

-- the numbers rise, and are above this one
abbrev pub AreRising : ℕ → List Row → Type 0
AreRising number [] = Unit {0}
AreRising number (row ∷ rows) = (number < row.0) × AreRising row.0 rows

abbrev pub row_at : CallbackRow → Row
row_at c = (c.number, c.object, c.status)

pub rows_rise : (number next : ℕ) (cs : List CallbackRow) → IsRising (number + 1) next cs → AreRising number (map row_at cs)
rows_rise number next [] r = tt
rows_rise number next (c ∷ cs) r = (omega (arith, r.0), rows_rise c.number next cs r.1)

-- those that were shown end with this number, and the others are above it
pub record IsWalked (all shown : List Row) (number : ℕ) : Type 0 where
  pub rest : List Row
  pub split : all ≡ shown ++ rest
  pub passed : find (above number) shown ≡ None
  pub rising : AreRising number rest

pub lt_true : (a b : ℕ) → a < b → nat_lt a b ≡ true
lt_true a b h = grind (arith, h)

pub lt_false : (a b : ℕ) → b ≤ a → nat_lt a b ≡ false
lt_false a b h = grind (arith, h)

-- what is found above a number is above a lower one too
none_above : (low high : ℕ) (rows : List Row) → low ≤ high → find (above low) rows ≡ None → find (above high) rows ≡ None
none_above low high [] h e = refl
none_above low high (row ∷ rows) h e =
    elim (nat_lt low row.0) as (λ b. nat_lt low row.0 ≡ b → cond b (Some row) (find (above low) rows) ≡ None → find (above high) (row ∷ rows) ≡ None) [
      | true ↦ λ is found. absurd cc
      | false ↦ λ is found.
          let most : row.0 ≤ low = grind (arith, is) in
          ap (λ b. cond b (Some row) (find (above high) rows)) (lt_false high row.0 (omega (arith, most, h))) ∙ none_above low high rows h found
    ] refl e

find_behind : (p : Row → Bool) (xs ys : List Row) → find p xs ≡ None → find p (xs ++ ys) ≡ find p ys
find_behind p [] ys e = refl
find_behind p (x ∷ xs) ys e =
    elim (p x) as (λ b. cond b (Some x) (find p xs) ≡ None → cond b (Some x) (find p (xs ++ ys)) ≡ find p ys) [
      | true ↦ λ found. absurd cc
      | false ↦ λ found. find_behind p xs ys found
    ] e

first_found : (number : ℕ) (row : Row) (rows : List Row) → number < row.0 → find (above number) (row ∷ rows) ≡ Some row
first_found number row rows h = ap (λ b. cond b (Some row) (find (above number) rows)) (lt_true number row.0 h)

pub walk_begins : (all : List Row) → AreRising 0 all → IsWalked all [] 0
walk_begins all r = record { rest = all; split = refl; passed = refl; rising = r }

module _ (all shown : List Row) (number : ℕ) (w : IsWalked all shown number) where
  found_in_rest : find (above number) all ≡ find (above number) w.rest
  found_in_rest = ap (find (above number)) w.split ∙ find_behind (above number) shown w.rest w.passed

  pub walk_next : (row : Row) → find (above number) all ≡ Some row → IsWalked all (shown ++ row ∷ []) row.0
  walk_next row found = of_rest w.rest w.split w.rising (sym found_in_rest ∙ found)
    where
      of_rest : (rest : List Row) → all ≡ shown ++ rest → AreRising number rest → find (above number) rest ≡ Some row → IsWalked all (shown ++ row ∷ []) row.0
      of_rest [] e r f = absurd cc
      of_rest (x ∷ xs) e r f =
          let both : Some x ≡ Some row = sym (first_found number x xs r.0) ∙ f in
          let same : x ≡ row = cc in
          let below : number < row.0 = subst (λ (y : Row). number < y.0) same r.0 in
          record {
            rest = xs;
            split = e ∙ ap (λ y. shown ++ y ∷ xs) same ∙ sym (append_assoc shown (row ∷ []) xs);
            passed = find_behind (above row.0) shown (row ∷ []) (none_above number row.0 shown (omega (arith, below)) w.passed) ∙ ap (λ b. cond b (Some row) None) (lt_false row.0 row.0 (omega arith));
            rising = subst (λ (y : Row). AreRising y.0 xs) same r.1;
          }

  pub walk_ends : find (above number) all ≡ None → shown ≡ all
  walk_ends none = of_rest w.rest w.split w.rising (sym found_in_rest ∙ none)
    where
      of_rest : (rest : List Row) → all ≡ shown ++ rest → AreRising number rest → find (above number) rest ≡ None → shown ≡ all
      of_rest [] e r f = sym (e ∙ append-nil shown)
      of_rest (x ∷ xs) e r f = absurd (let both : Some x ≡ None = sym (first_found number x xs r.0) ∙ f in cc)
