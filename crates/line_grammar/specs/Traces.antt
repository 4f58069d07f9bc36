-- Texts of many lines, each ended by a line feed, and the place of the first fault in one.
--
-- The lines are those of any language in whose texts no line feed stands.
use Rattle.std.specs.Prelude.{◌≡◌, ◌≢◌, ℕ, ◌+◌, ◌≤◌, List, [], ◌∷◌, ◌++◌, length, drop, All}
use Rattle.line_grammar.specs.Language.{Reaches}

-- a line and its line feed
pub record EndedLine (L : List ℕ → Type 0) (text : List ℕ) : Type 0 where
  pub line : List ℕ
  pub is_line : L line
  pub split : text ≡ line ++ 10 ∷ []

-- the same of a language of values: a text of the value, and a line feed
pub record IsEnded {V : Type 0} (W : V → List ℕ → Type 0) (value : V) (text : List ℕ) : Type 0 where
  pub line : List ℕ
  pub is_line : W value line
  pub split : text ≡ line ++ 10 ∷ []

abbrev pub Ended : {V : Type 0} → (V → List ℕ → Type 0) → V → List ℕ → Type 0
Ended W value text = IsEnded W value text

-- the lines one after another, each with its line feed
abbrev pub trace_text : List (List ℕ) → List ℕ
trace_text [] = []
trace_text (line ∷ lines) = line ++ 10 ∷ trace_text lines

-- the first fault of bytes that are no lines of the language, each ended: behind some lines something is left, which goes along
-- with an ended line for as long as `front` and is none
pub record IsTraceFault (L : List ℕ → Type 0) (bytes : List ℕ) (line column : ℕ) : Type 0 where
  pub lines : List (List ℕ)
  pub front : List ℕ
  pub back : List ℕ
  pub each : All L lines
  pub split : bytes ≡ trace_text lines ++ (front ++ back)
  pub left : front ++ back ≢ []
  pub open_line : EndedLine L front → ⊥
  pub reaches : Reaches (EndedLine L) front back
  pub line_of : line ≡ length lines + 1
  pub column_of : column ≡ length front + 1

-- at the front of the bytes stands a line of the value, of `size` bytes with its line feed
pub record IsAhead {V : Type 0} (W : V → List ℕ → Type 0) (bytes : List ℕ) (value : V) (size : ℕ) : Type 0 where
  pub line : List ℕ
  pub is_line : W value line
  pub split : bytes ≡ line ++ 10 ∷ drop size bytes
  pub size_of : size ≡ length line + 1
  pub within : size ≤ length bytes
