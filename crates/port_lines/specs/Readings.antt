-- What readers of lines find at the front of a text.
use Rattle.std.specs.Prelude.{◌≡◌, ℕ, ◌≤◌, List, [], ◌∷◌, ◌++◌, length, take, drop, codes, Result, Ok, Err}
use Rattle.line_grammar.specs.Language.{AnyOf, IsReadTo}
use Rattle.line_grammar.specs.Numbers.{Numbers}
use Rattle.line_grammar.specs.Parts.{Led, Pairs}
use Rattle.line_grammar.specs.Words.{Word}
use Rattle.port_lines.specs.declared.lines.Line.{Line}
use Rattle.port_lines.specs.declared.lines.Line.TheVariants.{Device, Op}
use Rattle.port_lines.specs.Texts.{IsInRange, IsLongest, MayStand, line_text}

-- a line that may stand behind so many devices and operations, and a line feed
abbrev pub EndedLines : ℕ → ℕ → Line → List ℕ → Type 0
EndedLines devices operations line text = MayStand devices operations line × (text ≡ line_text line ++ 10 ∷ [])

-- the line of a device, and a line feed
abbrev pub DeviceLines : Line → List ℕ → Type 0
DeviceLines = Word Device (codes "device\n")

-- the line of an operation, and a line feed
abbrev pub OperationLines : Line → List ℕ → Type 0
OperationLines Device text = ⊥
OperationLines (Op operation) text = IsInRange (Op operation) × (text ≡ line_text (Op operation) ++ 10 ∷ [])

-- what stands behind its first word: a space and the error, a space and the bytes, and the line feed
abbrev pub ByteCounts : (ℕ × ℕ) → List ℕ → Type 0
ByteCounts = Pairs (Led 32 (Numbers 0 18446744073709551615)) (λ bytes. Word 0 (10 ∷ []))

abbrev pub Fields : (ℕ × (ℕ × ℕ)) → List ℕ → Type 0
Fields = Pairs (Led 32 (Numbers 0 4294967295)) (λ error. ByteCounts)

-- the text begins with no text of W, and goes along with one up to the place; where W has no text, that is 0
pub record IsStuckAt (W : Line → List ℕ → Type 0) (text : List ℕ) (place : ℕ) : Type 0 where
  pub within : place ≤ length text
  pub absent : AnyOf W (take place text) → ⊥
  pub longest : IsLongest (AnyOf W) (take place text) (drop place text)

-- what was found where a line stands behind so many devices and operations
abbrev pub IsLineRead : ℕ → ℕ → List ℕ → Result (Line × ℕ) ℕ → Type 0
IsLineRead devices operations text (Ok (line, size)) = IsReadTo (EndedLines devices operations) text line size
IsLineRead devices operations text (Err place) = IsStuckAt (EndedLines devices operations) text place
