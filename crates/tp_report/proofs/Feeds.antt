-- Texts in which no line feed stands.
use Rattle.std.proofs.Common.{◌≡◌, ◌≢◌, ℕ, ◌+◌, ◌/◌, ◌%◌, ◌^◌, ◌<◌, ◌≤◌, List, [], ◌∷◌, ◌++◌, refl, ap, ◌∙◌, arith, Bool, true, false, IsTrue, nat_eq}
use Rattle.std.proofs.lemmas.Bool.{eqb-false, eqb-true, ne_eqb}
use Rattle.std.proofs.lemmas.Fmt.{decimal_by_steps}
use Rattle.std.specs.Prelude.{decimal, if◌then◌else◌}
use Rattle.line_grammar.specs.Words.{lacks}

abbrev pub IsFree : List ℕ → Type 0
IsFree text = IsTrue (lacks 10 text)

free_tail : (x : ℕ) (text : List ℕ) (b : Bool) → nat_eq x 10 ≡ b → (if b then false else lacks 10 text) ≡ true → (x ≢ 10) × IsFree text
free_tail x text true e h = let no_such : ⊥ = cc in absurd no_such
free_tail x text false e h = (eqb-false x 10 e, h)

free_apart : (x : ℕ) (text : List ℕ) → IsFree (x ∷ text) → (x ≢ 10) × IsFree text
free_apart x text h = free_tail x text (nat_eq x 10) refl h

pub free_cons : (x : ℕ) (text : List ℕ) → nat_eq x 10 ≡ false → IsFree text → IsFree (x ∷ text)
free_cons x text e h = ap (λ b. if b then false else lacks 10 text) e ∙ h

free_both : (x : ℕ) (a b : List ℕ) (t : Bool) → nat_eq x 10 ≡ t → IsFree (x ∷ a) → IsFree (a ++ b) → IsFree ((x ∷ a) ++ b)
free_both x a b true e h k = absurd ((free_apart x a h).0 (eqb-true x 10 e))
free_both x a b false e h k = free_cons x (a ++ b) e k

pub free_append : (a b : List ℕ) → IsFree a → IsFree b → IsFree (a ++ b)
free_append [] b h k = k
free_append (x ∷ a) b h k = free_both x a b (nat_eq x 10) refl h (free_append a b (free_apart x a h).1 k)

FreeText : ℕ → List ℕ → Type 0
FreeText n text = IsFree text

free_digit : (n : ℕ) → IsFree ((48 + n) ∷ [])
free_digit n = free_cons (48 + n) [] (ne_eqb _ _ (λ e. omega (arith, e))) refl

free_one : (n : ℕ) → n < 10 → FreeText n ((48 + n) ∷ [])
unfolding FreeText
free_one n small = free_digit n

free_more : (n : ℕ) (ds : List ℕ) → 10 ≤ n → FreeText (n / 10) ds → FreeText n (ds ++ ((48 + n % 10) ∷ []))
unfolding FreeText
free_more n ds large h = free_append ds _ h (free_digit (n % 10))

pub free_decimal : (n : ℕ) → n < 2 ^ 64 → IsFree (decimal n)
unfolding FreeText
free_decimal n bound = decimal_by_steps FreeText free_one free_more n bound
