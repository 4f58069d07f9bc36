-- What is known of a call that meets no refusal.
use Rattle.std.specs.Prelude.{nat_le}
use Rattle.std.proofs.Common.{◌≡◌, ℕ, suc, zero, ◌-◌, ◌<◌, ◌≤◌, Bool, true, false, cond, not, ◌&&◌, ◌||◌, ◌==◌, List, [], ◌∷◌, ◌++◌, length, slice_get, Option, Some, None, is_some, refl, sym, ap, ◌∙◌, arith, ne_eqb, eqb-true, eq-eqb}
use Rattle.std.proofs.lemmas.Bool.{leb-false}
use Rattle.std.proofs.lemmas.Option.{slice_get_within}
use Rattle.tp_base.specs.declared.answers.Refusal.{Refusal}
use Rattle.tp_base.specs.declared.answers.Refusal.TheVariants.{ObjectLimit}
use Rattle.tp_base.specs.declared.ids.Who.{Who}
use Rattle.tp_base.specs.declared.ids.Who.TheVariants.{Client, Worker}
use Rattle.tp_model.specs.Counts.{numbered}
use Rattle.tp_base.specs.Actors.{is_same_actor}
use Rattle.tp_model.specs.World.{World}
use Rattle.tp_model.specs.Refusing.{first_refusal, make_refusals}

pub false_true : false ≡ true → ⊥
false_true e = cc

-- none of the conditions holds
abbrev pub NoneHolds : List (Bool × Refusal) → Type 0
NoneHolds [] = Unit {0}
NoneHolds (r ∷ rs) = (r.0 ≡ false) × NoneHolds rs

pub none_holds : (refusals : List (Bool × Refusal)) → first_refusal refusals ≡ None → NoneHolds refusals
none_holds [] e = tt
none_holds (r ∷ rs) e =
    elim r.0 as (λ b. cond b (Some r.1) (first_refusal rs) ≡ None → (b ≡ false) × NoneHolds rs) [
      | true ↦ λ h. absurd cc
      | false ↦ λ h. (refl, none_holds rs h)
    ] e

-- what a call makes one more of may be one more
pub room_to_make : (w : World) (who : Who) (own : List (Bool × Refusal)) (limit count : ℕ) → NoneHolds (make_refusals w who own limit count) → count < limit
room_to_make w who own limit count none = behind own none.1.1.1.1
  where
    behind : (rs : List (Bool × Refusal)) → NoneHolds (rs ++ (nat_le limit count, ObjectLimit) ∷ []) → count < limit
    behind [] h = leb-false limit count h.0
    behind (r ∷ rs) h = behind rs h.1

pub neither : (a b : Bool) → (a || b) ≡ false → (a ≡ false) × (b ≡ false)
neither true b e = absurd cc
neither false b e = (refl, e)

pub not_false : (b : Bool) → not b ≡ false → b ≡ true
not_false true e = refl
not_false false e = cc

pub both : (a b : Bool) → (a && b) ≡ true → (a ≡ true) × (b ≡ true)
both true b e = (refl, e)
both false b e = absurd cc

pub made : {X : Type 0} (xs : List X) (i : ℕ) → is_some (slice_get xs i) ≡ true → i < length xs
made xs i e = known (slice_get xs i) refl e
  where
    known : (o : Option _) → slice_get xs i ≡ o → is_some o ≡ true → i < length xs
    known None is e = absurd (false_true e)
    known (Some x) is e = slice_get_within xs i x is

-- a numbered row stands one place below its number
pub numbered_some : {X : Type 0} (rows : List X) (number : ℕ) (row : X) → numbered rows number ≡ Some row → (slice_get rows (number - 1) ≡ Some row) × (1 ≤ number)
numbered_some rows zero row e = absurd cc
numbered_some rows (suc number) row e =
    let above : (suc number == 0) ≡ false = ne_eqb (suc number) 0 (λ h. omega (arith, h)) in
    (sym (ap (λ b. cond b None (slice_get rows (suc number - 1))) above) ∙ e, omega arith)

pub numbered_at : {X : Type 0} (rows : List X) (number : ℕ) (row : X) → 1 ≤ number → slice_get rows (number - 1) ≡ Some row → numbered rows number ≡ Some row
numbered_at rows number row above at = ap (λ b. cond b None (slice_get rows (number - 1))) (ne_eqb number 0 (λ h. omega (arith, h, above))) ∙ at

pub eqb_sym : (m n : ℕ) → (m == n) ≡ (n == m)
eqb_sym m n = known (m == n) (n == m) refl refl
  where
    known : (a b : Bool) → (m == n) ≡ a → (n == m) ≡ b → (m == n) ≡ (n == m)
    known true b e f = e ∙ sym (eq-eqb n m (sym (eqb-true m n e)))
    known false false e f = e ∙ sym f
    known false true e f = absurd (false_true (sym e ∙ eq-eqb m n (sym (eqb-true n m f))))

pub same_actor_sym : (a b : Who) → is_same_actor a b ≡ is_same_actor b a
same_actor_sym (Client m) (Client n) = eqb_sym m n
same_actor_sym (Worker m) (Worker n) = eqb_sym m n
same_actor_sym (Client m) (Worker n) = refl
same_actor_sym (Worker m) (Client n) = refl

pub same_actor_is : (a b : Who) → is_same_actor a b ≡ true → a ≡ b
same_actor_is (Client m) (Client n) e = ap (λ k. Client k) (eqb-true m n e)
same_actor_is (Worker m) (Worker n) e = ap (λ k. Worker k) (eqb-true m n e)
same_actor_is (Client m) (Worker n) e = cc
same_actor_is (Worker m) (Client n) e = cc

pub is_own_actor : (a : Who) → is_same_actor a a ≡ true
is_own_actor (Client m) = eq-eqb m m refl
is_own_actor (Worker m) = eq-eqb m m refl

pub and_false : (b : Bool) → (b && false) ≡ false
and_false true = refl
and_false false = refl

pub and_true : (b : Bool) → (b && true) ≡ b
and_true true = refl
and_true false = refl

pub or_true : (b : Bool) → (b || true) ≡ true
or_true true = refl
or_true false = refl

pub or_false : (b : Bool) → (b || false) ≡ b
or_false true = refl
or_false false = refl
