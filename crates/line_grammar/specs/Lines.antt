-- Texts of many lines of a language of values: which values they stand for.
use Rattle.std.specs.Prelude.{◌≡◌, ℕ, List, [], ◌∷◌, ◌++◌}

-- the bytes begin with a line of the value and its line feed, and this holds of what stands behind
pub record IsFirst {V : Type 0} (W : V → List ℕ → Type 0) (Behind : List ℕ → Type 0) (value : V) (bytes : List ℕ) : Type 0 where
  pub line : List ℕ
  pub rest : List ℕ
  pub is_line : W value line
  pub split : bytes ≡ line ++ 10 ∷ rest
  pub behind : Behind rest

-- the bytes begin with a line of each of these values, one after another, each with its line feed, and the rest stands behind
abbrev pub AreLinesTo : {V : Type 0} → (V → List ℕ → Type 0) → List ℕ → List V → List ℕ → Type 0
AreLinesTo W rest [] bytes = bytes ≡ rest
AreLinesTo W rest (value ∷ values) bytes = IsFirst W (AreLinesTo W rest values) value bytes

-- the bytes are those lines and no more
abbrev pub AreLines : {V : Type 0} → (V → List ℕ → Type 0) → List V → List ℕ → Type 0
AreLines W values bytes = AreLinesTo W [] values bytes
