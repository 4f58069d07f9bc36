-- Parts of a line, one after another, with a separator between them.
use Rattle.std.specs.Prelude.{◌≡◌, List, [], ◌∷◌, ◌++◌}

-- the texts of W behind the element `first`
pub record IsLed {V A : Type 0} (first : A) (W : V → List A → Type 0) (value : V) (text : List A) : Type 0 where
  pub rest : List A
  pub split : text ≡ first ∷ rest
  pub behind : W value rest

abbrev pub Led : {V A : Type 0} → A → (V → List A → Type 0) → V → List A → Type 0
Led first W value text = IsLed first W value text

-- a text of P, and behind it one of the language that its value chooses
pub record IsPair {V U A : Type 0} (P : V → List A → Type 0) (R : V → U → List A → Type 0) (value : V) (other : U) (text : List A) : Type 0 where
  pub front : List A
  pub back : List A
  pub split : text ≡ front ++ back
  pub first : P value front
  pub second : R value other back

abbrev pub Pairs : {V U A : Type 0} → (V → List A → Type 0) → (V → U → List A → Type 0) → (V × U) → List A → Type 0
Pairs P R (value, other) text = IsPair P R value other text

-- nothing, or a text whose first element is the separator
abbrev pub Opens : {A : Type 0} → A → List A → Type 0
Opens separator [] = Unit {0}
Opens separator (x ∷ rest) = x ≡ separator

-- A language that what begins with the separator may follow: a text has one value, each value's text can be
-- told from what follows it, and there is one.
pub record IsPart {V A : Type 0} (separator : A) (P : V → List A → Type 0) : Type 0 where
  pub unique : (value other : V) (text : List A) → P value text → P other text → value ≡ other
  pub apart : (value other : V) (text more : List A) → P value text → P other (text ++ separator ∷ more) → ⊥

-- a language of what may follow a part
pub record IsTail {U A : Type 0} (separator : A) (R : U → List A → Type 0) : Type 0 where
  pub opens : (other : U) (text : List A) → R other text → Opens separator text
  pub some : (other : U) × (text : List A) × R other text
