-- Codes: texts of bytes by which values are told apart, also where more text comes behind.
use Rattle.std.specs.Prelude.{◌≡◌, ℕ, zero, suc, ◌^◌, Bool, true, false, nat_lt, List, [], ◌∷◌, ◌++◌, Option, None, Some, length, if◌then◌else◌}
use Rattle.std.specs.Int.{to_le_bytes, w64}

-- two values whose texts begin one list are one, and so is what comes behind
pub record IsCode {A : Type 0} (code : A → List ℕ) : Type 0 where
  pub tells : (x y : A) (s t : List ℕ) → code x ++ s ≡ code y ++ t → (x ≡ y) × (s ≡ t)

-- so many zeros and a one
abbrev pub zeros_and_one : ℕ → List ℕ
zeros_and_one zero = 1 ∷ []
zeros_and_one (suc n) = 0 ∷ zeros_and_one n

-- one byte below 254, else 254 and eight; and 255 for numbers that no program has
abbrev pub number : ℕ → List ℕ
number n = if nat_lt n 254 then n ∷ [] else (if nat_lt n (2 ^ 64) then 254 ∷ to_le_bytes w64 n else 255 ∷ zeros_and_one n)

abbrev pub flag : Bool → List ℕ
flag false = 0 ∷ []
flag true = 1 ∷ []

module _ {A : Type 0} (code : A → List ℕ) where
  abbrev pub optional : Option A → List ℕ
  optional None = 0 ∷ []
  optional (Some x) = 1 ∷ code x

  abbrev pub each : List A → List ℕ
  each [] = []
  each (x ∷ xs) = code x ++ each xs

  -- how many there are, and each of them
  abbrev pub listed : List A → List ℕ
  listed xs = number (length xs) ++ each xs

-- two values, one behind the other
abbrev pub both : {A B : Type 0} → (A → List ℕ) → (B → List ℕ) → A × B → List ℕ
both code other p = code p.0 ++ other p.1
