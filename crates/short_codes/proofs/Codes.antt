-- What is a code.
use Rattle.std.proofs.Common.{◌≡◌, ◌⊎◌, ℕ, zero, suc, ◌^◌, ◌<◌, ◌≤◌, Bool, true, false, nat_lt, List, [], ◌∷◌, ◌++◌, Option, None, Some, length, if◌then◌else◌, refl, sym, ap, ◌∙◌, append_assoc, inl, inr, arith}
use borrow.Author.Tests.{le-ltb, lt-ltb}
use Rattle.std.specs.Int.{to_le_bytes, from_le_bytes, w64}
use Rattle.std.proofs.lemmas.Bool.{cases_lt}
use Rattle.std.proofs.lemmas.Nat.{from_le_bytes-to_le_bytes_8}
use Rattle.short_codes.specs.Codes.{both, each, flag, listed, number, optional, zeros_and_one, IsCode}

-- the parts of two lists that are one, where the first parts are as long
apart : (a b s t : List ℕ) → length a ≡ length b → a ++ s ≡ b ++ t → (a ≡ b) × (s ≡ t)
apart [] [] s t long h = (refl, h)
apart [] (y ∷ b) s t long h = absurd (omega arith)
apart (x ∷ a) [] s t long h = absurd (omega arith)
apart (x ∷ a) (y ∷ b) s t long h =
    let first : x ≡ y = cc in
    let rest : a ++ s ≡ b ++ t = cc in
    let p = apart a b s t (omega arith) rest in
    (cc_pair first p.0, p.1)
  where
    cc_pair : x ≡ y → a ≡ b → x ∷ a ≡ y ∷ b
    cc_pair e f = λ i. e i ∷ f i

-- the three forms of a number
Form : ℕ → Type 0
Form n = ((n < 254) × (number n ≡ n ∷ [])) ⊎ (((254 ≤ n) × (n < 2 ^ 64) × (number n ≡ 254 ∷ to_le_bytes w64 n)) ⊎ ((2 ^ 64 ≤ n) × (number n ≡ 255 ∷ zeros_and_one n)))

abbrev code_at : ℕ → Bool → Bool → List ℕ
code_at n small fits = if small then n ∷ [] else (if fits then 254 ∷ to_le_bytes w64 n else 255 ∷ zeros_and_one n)

form : (n : ℕ) → Form n
unfolding Form
form n = elim (cases_lt n 254) [
  | inl small ↦ inl (small, ap (λ (b : Bool). code_at n b (nat_lt n (2 ^ 64))) (lt-ltb n 254 small))
  | inr large ↦ elim (cases_lt n (2 ^ 64)) [
    | inl fits ↦ inr (inl (large, fits, ap (λ (b : Bool). code_at n b (nat_lt n (2 ^ 64))) (le-ltb n 254 large) ∙ ap (λ (b : Bool). code_at n false b) (lt-ltb n (2 ^ 64) fits)))
    | inr none ↦ inr (inr (none, ap (λ (b : Bool). code_at n b (nat_lt n (2 ^ 64))) (le-ltb n 254 large) ∙ ap (λ (b : Bool). code_at n false b) (le-ltb n (2 ^ 64) none)))
  ]
]

zeros_code : (m n : ℕ) (s t : List ℕ) → zeros_and_one m ++ s ≡ zeros_and_one n ++ t → (m ≡ n) × (s ≡ t)
zeros_code zero zero s t h = (refl, cc)
zeros_code zero (suc n) s t h = let one : ◌≡◌ {A = ℕ} 1 0 = cc in absurd (omega arith)
zeros_code (suc m) zero s t h = let one : ◌≡◌ {A = ℕ} 0 1 = cc in absurd (omega arith)
zeros_code (suc m) (suc n) s t h = let p = zeros_code m n s t cc in (ap suc p.0, p.1)

number_tells : (m n : ℕ) (s t : List ℕ) → number m ++ s ≡ number n ++ t → (m ≡ n) × (s ≡ t)
unfolding Form
number_tells m n s t h = by (form m) (form n)
  where
    along : {a b : List ℕ} → number m ≡ a → number n ≡ b → a ++ s ≡ b ++ t
    along e f = sym (ap (λ (l : List ℕ). l ++ s) e) ∙ h ∙ ap (λ (l : List ℕ). l ++ t) f

    by : Form m → Form n → (m ≡ n) × (s ≡ t)
    by (inl p) (inl q) = let e = along p.1 q.1 in (cc, cc)
    by (inl p) (inr (inl q)) = let e = along p.1 q.2 in let f : m ≡ 254 = cc in absurd (omega arith)
    by (inl p) (inr (inr q)) = let e = along p.1 q.1 in let f : m ≡ 255 = cc in absurd (omega arith)
    by (inr (inl p)) (inl q) = let e = along p.2 q.1 in let f : 254 ≡ n = cc in absurd (omega arith)
    by (inr (inl p)) (inr (inl q)) =
        let parts = apart (254 ∷ to_le_bytes w64 m) (254 ∷ to_le_bytes w64 n) s t refl (along p.2 q.2) in
        let bytes : to_le_bytes w64 m ≡ to_le_bytes w64 n = cc in
        (sym (from_le_bytes-to_le_bytes_8 m p.1) ∙ ap (from_le_bytes w64) bytes ∙ from_le_bytes-to_le_bytes_8 n q.1, parts.1)
    by (inr (inl p)) (inr (inr q)) = let e = along p.2 q.1 in let f : ◌≡◌ {A = ℕ} 254 255 = cc in absurd (omega arith)
    by (inr (inr p)) (inl q) = let e = along p.1 q.1 in let f : 255 ≡ n = cc in absurd (omega arith)
    by (inr (inr p)) (inr (inl q)) = let e = along p.1 q.2 in let f : ◌≡◌ {A = ℕ} 255 254 = cc in absurd (omega arith)
    by (inr (inr p)) (inr (inr q)) = let e = along p.1 q.1 in zeros_code m n s t cc

pub number_code : IsCode number
number_code = record { tells = number_tells }

flag_tells : (x y : Bool) (s t : List ℕ) → flag x ++ s ≡ flag y ++ t → (x ≡ y) × (s ≡ t)
flag_tells false false s t h = (refl, cc)
flag_tells true true s t h = (refl, cc)
flag_tells false true s t h = let off : ◌≡◌ {A = ℕ} 0 1 = cc in absurd (omega arith)
flag_tells true false s t h = let off : ◌≡◌ {A = ℕ} 1 0 = cc in absurd (omega arith)

pub flag_code : IsCode flag
flag_code = record { tells = flag_tells }

module _ {A B : Type 0} {code : A → List ℕ} {other : B → List ℕ} where
  pub pair_code : IsCode code → IsCode other → IsCode (both code other)
  pair_code is is_other = record { tells = tells }
    where
      tells : (p q : A × B) (s t : List ℕ) → both code other p ++ s ≡ both code other q ++ t → (p ≡ q) × (s ≡ t)
      tells p q s t h =
          let first = is.tells p.0 q.0 (other p.1 ++ s) (other q.1 ++ t) (sym (append_assoc (code p.0) (other p.1) s) ∙ h ∙ append_assoc (code q.0) (other q.1) t) in
          let second = is_other.tells p.1 q.1 s t first.1 in
          ((λ i. (first.0 i, second.0 i)), second.1)

module _ {A : Type 0} {code : A → List ℕ} where
  option_tells : IsCode code → (x y : Option A) (s t : List ℕ) → optional code x ++ s ≡ optional code y ++ t → (x ≡ y) × (s ≡ t)
  option_tells is None None s t h = (refl, cc)
  option_tells is (Some x) (Some y) s t h = let p = is.tells x y s t cc in (ap Some p.0, p.1)
  option_tells is None (Some y) s t h = let off : ◌≡◌ {A = ℕ} 0 1 = cc in absurd (omega arith)
  option_tells is (Some x) None s t h = let off : ◌≡◌ {A = ℕ} 1 0 = cc in absurd (omega arith)

  pub option_code : IsCode code → IsCode (optional code)
  option_code is = record { tells = option_tells is }

  each_tells : IsCode code → (xs ys : List A) (s t : List ℕ) → length xs ≡ length ys → each code xs ++ s ≡ each code ys ++ t → (xs ≡ ys) × (s ≡ t)
  each_tells is [] [] s t long h = (refl, h)
  each_tells is [] (y ∷ ys) s t long h = absurd (omega arith)
  each_tells is (x ∷ xs) [] s t long h = absurd (omega arith)
  each_tells is (x ∷ xs) (y ∷ ys) s t long h =
      let first = is.tells x y (each code xs ++ s) (each code ys ++ t) (sym (append_assoc (code x) (each code xs) s) ∙ h ∙ append_assoc (code y) (each code ys) t) in
      let rest = each_tells is xs ys s t (omega arith) first.1 in
      ((λ i. first.0 i ∷ rest.0 i), rest.1)

  pub list_code : IsCode code → IsCode (listed code)
  list_code is = record { tells = tells }
    where
      tells : (xs ys : List A) (s t : List ℕ) → listed code xs ++ s ≡ listed code ys ++ t → (xs ≡ ys) × (s ≡ t)
      tells xs ys s t h =
          let long = number_code.tells (length xs) (length ys) (each code xs ++ s) (each code ys ++ t) (sym (append_assoc (number (length xs)) (each code xs) s) ∙ h ∙ append_assoc (number (length ys)) (each code ys) t) in
          each_tells is xs ys s t long.0 long.1

  -- what is made of something that has a code, and can be made of it again
  pub mapped_code : {B : Type 0} (to : B → A) (back : A → B) → ((y : B) → back (to y) ≡ y) → IsCode code → IsCode (λ y. code (to y))
  mapped_code {B} to back same is = record { tells = tells }
    where
      tells : (x y : B) (s t : List ℕ) → code (to x) ++ s ≡ code (to y) ++ t → (x ≡ y) × (s ≡ t)
      tells x y s t h = let p = is.tells (to x) (to y) s t h in (sym (same x) ∙ ap back p.0 ∙ same y, p.1)

  -- what has one text is one
  pub whole : IsCode code → (x y : A) → code x ≡ code y → x ≡ y
  whole is x y h = (is.tells x y [] [] (ap (λ (l : List ℕ). l ++ []) h)).0
