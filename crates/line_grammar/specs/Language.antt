-- Languages, how far a text goes along with one, and where its fault is.
--
-- A language is a predicate on lists: of bytes, for a line, or of words, for a script.
use Rattle.std.specs.Prelude.{◌≡◌, ℕ, ◌≤◌, List, [], ◌∷◌, ◌++◌, length, take, drop, Result, Ok, Err}

-- some text of the language begins with this front
abbrev pub Begins : {A : Type 0} → (List A → Type 0) → List A → Type 0
Begins {A} L front = (rest : List A) × L (front ++ rest)

-- none begins with this front and the next element of what follows it
abbrev pub Stops : {A : Type 0} → (List A → Type 0) → List A → List A → Type 0
Stops L front [] = Unit {0}
Stops L front (x ∷ rest) = Begins L (front ++ x ∷ []) → ⊥

-- the front is the longest that a text of the language shares with the front and what follows it
pub record Reaches {A : Type 0} (L : List A → Type 0) (front rest : List A) : Type 0 where
  pub begins : Begins L front
  pub stops : Stops L front rest

-- the text isn't in the language, and the first `place` elements are the longest front that it shares with one that is
pub record IsFault {A : Type 0} (L : List A → Type 0) (text : List A) (place : ℕ) : Type 0 where
  pub within : place ≤ length text
  pub absent : L text → ⊥
  pub reaches : Reaches L (take place text) (drop place text)

-- The texts of a language stand for values: `W value text`. These are the texts of all values.
abbrev pub AnyOf : {V A : Type 0} → (V → List A → Type 0) → List A → Type 0
AnyOf {V} W text = (value : V) × W value text

-- the first `size` elements are a text of the value, and with the next element they begin none
pub record IsReadTo {V A : Type 0} (W : V → List A → Type 0) (text : List A) (value : V) (size : ℕ) : Type 0 where
  pub within : size ≤ length text
  pub text_of : W value (take size text)
  pub stops : Stops (AnyOf W) (take size text) (drop size text)

-- the first `place` elements begin a text and are none, and with the next element they begin none
pub record IsStuck {V A : Type 0} (W : V → List A → Type 0) (text : List A) (place : ℕ) : Type 0 where
  pub within : place ≤ length text
  pub absent : AnyOf W (take place text) → ⊥
  pub reaches : Reaches (AnyOf W) (take place text) (drop place text)

-- the text begins with a text of the value, which may go on as another, and the rest stands behind that
pub record IsFront {V A : Type 0} (W : V → List A → Type 0) (text : List A) (value : V) (rest : List A) : Type 0 where
  pub front : List A
  pub text_of : W value front
  pub split : text ≡ front ++ rest

-- What a reader finds at the front of a text: a value and how many elements its text has, or the
-- place where the text stops going along with the language.
abbrev pub IsRead : {V A : Type 0} → (V → List A → Type 0) → List A → Result (V × ℕ) ℕ → Type 0
IsRead W text (Ok (value, size)) = IsReadTo W text value size
IsRead W text (Err place) = IsStuck W text place
