-- Rows of a table: its values, each with its word and parts.
use Rattle.std.specs.Prelude.{◌≡◌, ℕ, List, [], ◌∷◌, ◌++◌}
use Rattle.line_grammar.specs.Language.{IsReadTo}
use Rattle.tp_lines.specs.declared.parts.Part.{Part}
use Rattle.tp_lines.specs.declared.words.Field.{Field}
use Rattle.tp_lines.specs.declared.words.Word.{Word}
use Rattle.tp_lines.specs.Parts.{AreFit, PartsTexts, parts_of, row_text}

-- the text of a value whose row may stand in the table, behind its space
pub record IsRowText {V : Type 0} (table : Field) (row_of : V → Word × List Part) (value : V) (text : List ℕ) : Type 0 where
  pub in_range : AreFit (table ∷ []) (parts_of (row_of value))
  pub split : text ≡ 32 ∷ row_text (row_of value)

abbrev pub RowTexts : {V : Type 0} → Field → (V → Word × List Part) → V → List ℕ → Type 0
RowTexts table row_of value text = IsRowText table row_of value text

-- the parts of these fields were read, and stand behind those before
pub record ArePartsRead (fields : List Field) (text : List ℕ) (before now : List Part) (size : ℕ) : Type 0 where
  pub added : List Part
  pub split : now ≡ before ++ added
  pub read : IsReadTo (PartsTexts fields) text added size
