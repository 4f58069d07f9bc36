-- Single words, and choices among languages.
use Rattle.std.specs.Prelude.{◌≡◌, ℕ, List, [], ◌∷◌, Bool, true, false, nat_eq, nat_le, ◌<◌, ◌⊎◌, Option, Some, None, Result, Ok, Err, nat_lt, if◌then◌else◌}

-- the one word, which stands for the value
pub record IsWord {V A : Type 0} (meaning : V) (word : List A) (value : V) (text : List A) : Type 0 where
  pub means : value ≡ meaning
  pub split : text ≡ word

abbrev pub Word : {V A : Type 0} → V → List A → V → List A → Type 0
Word meaning word value text = IsWord meaning word value text

-- a text of either language
abbrev pub Either : {V A : Type 0} → (V → List A → Type 0) → (V → List A → Type 0) → V → List A → Type 0
Either P Q value text = P value text ⊎ Q value text

-- the word stands for nothing, and a text of W for something
abbrev pub Optional : {V A : Type 0} → List A → (V → List A → Type 0) → Option V → List A → Type 0
Optional word W None text = text ≡ word
Optional word W (Some value) text = W value text

abbrev pub something_of : {V : Type 0} → Result (V × ℕ) ℕ → Result (Option V × ℕ) ℕ
something_of (Ok (v, n)) = Ok (Some v, n)
something_of (Err k) = Err k

-- of what two readers found, the one that came further, and a text rather than a place within one
abbrev pub further_of : {V : Type 0} → Result (V × ℕ) ℕ → Result (V × ℕ) ℕ → Result (V × ℕ) ℕ
further_of (Ok (v, n)) (Ok (w, m)) = if nat_lt n m then Ok (w, m) else Ok (v, n)
further_of (Ok (v, n)) (Err k) = if nat_lt n k then Err k else Ok (v, n)
further_of (Err k) (Ok (w, m)) = if nat_lt m k then Err k else Ok (w, m)
further_of (Err j) (Err k) = if nat_lt j k then Err k else Err j

-- whether the element doesn't stand in the text
abbrev pub lacks : ℕ → List ℕ → Bool
lacks separator [] = true
lacks separator (x ∷ text) = if nat_eq x separator then false else lacks separator text

-- whether each byte is `-` or greater, as letters and digits are, and a space and a line feed aren't
abbrev pub is_solid : List ℕ → Bool
is_solid [] = true
is_solid (x ∷ text) = if nat_le 45 x then is_solid text else false

-- nothing, or a text whose first byte is below `-`
abbrev pub EndsWord : List ℕ → Type 0
EndsWord [] = Unit {0}
EndsWord (x ∷ rest) = x < 45
