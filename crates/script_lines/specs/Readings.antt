-- How the words of a line are read one after another, and the first that may not stand where it stands.
use Rattle.std.specs.Prelude.{◌≡◌, ℕ, ◌+◌, true, false, List, [], ◌∷◌, length, ◌⊎◌}
use Rattle.script_lines.specs.declared.judge.Known.{Known}
use Rattle.script_lines.specs.declared.fault.ScriptKind.{ScriptKind}
use Rattle.script_lines.specs.declared.fault.ScriptKind.TheVariants.{Unexpected}
use Rattle.script_lines.specs.declared.line.Line.{Line}
use Rattle.script_lines.specs.declared.line.Token.{Token}
use Rattle.script_lines.specs.declared.line.Token.TheVariants as token
use Rattle.script_lines.specs.declared.words.Field.{Field}
use Rattle.script_lines.specs.declared.words.Field.TheVariants as field
use Rattle.script_lines.specs.Lines.{after, blank, may_end, put}
use Rattle.script_lines.specs.Texts.{Spot}
use Rattle.script_lines.specs.Tokens.{Fits, kind_of_field}

-- how far a line was read: what may stand next, what was said, and the new name
pub record Trail : Type 0 where
  pub left : List Field
  pub line : Line
  pub name : List ℕ

abbrev pub first_trail : Trail
first_trail = record { left = field.Head ∷ []; line = blank; name = [] }

-- the new name, where the word is one
abbrev pub name_with : Token → List ℕ → List ℕ → List ℕ
name_with (token.Fresh number) text name = text
name_with _ text name = name

-- behind a word of the field before `left`
abbrev pub moved : Trail → List Field → Token → List ℕ → Trail
moved trail left said text = record { left = after said left; line = put trail.line said; name = name_with said text trail.name }

-- the word may stand next, and leads from one to the other
abbrev pub StepsBy : Known → Trail → List Field → List ℕ → Trail → Type 0
StepsBy known trail [] text next = ⊥
StepsBy known trail (field ∷ left) text next = (said : Token) × Fits known field trail.line text said × (next ≡ moved trail left said text)

abbrev pub Steps : Known → Trail → List ℕ → Trail → Type 0
Steps known trail text next = StepsBy known trail trail.left text next

-- the words may stand one after another, and lead from one to the other
abbrev pub Goes : Known → Trail → List Spot → Trail → Type 0
Goes known trail [] end = end ≡ trail
Goes known trail (spot ∷ spots) end = (next : Trail) × Steps known trail spot.word next × Goes known next spots end

-- why a word may not stand next
abbrev pub kind_at : Known → List Field → List ℕ → ScriptKind
kind_at known [] text = Unexpected
kind_at known (field ∷ left) text = kind_of_field known field text

-- no line goes on so: the first word that may not stand next, or words are lacking at the column behind the last one
abbrev pub Fails : Known → ℕ → Trail → List Spot → ℕ → ScriptKind → Type 0
Fails known behind trail [] column kind = (may_end trail.left ≡ false) × (column ≡ behind) × (kind ≡ Unexpected)
Fails known behind trail (spot ∷ spots) column kind =
    (((next : Trail) → Steps known trail spot.word next → ⊥) × (column ≡ spot.column) × (kind ≡ kind_at known trail.left spot.word))
    ⊎ ((next : Trail) × Steps known trail spot.word next × Fails known (spot.column + length spot.word) next spots column kind)

-- the words are a line that says this, and has this new name
pub record IsLineRead (known : Known) (spots : List Spot) (line : Line) (name : List ℕ) : Type 0 where
  pub end : Trail
  pub goes : Goes known first_trail spots end
  pub whole : may_end end.left ≡ true
  pub line_of : line ≡ end.line
  pub name_of : name ≡ end.name

-- the words are no line, by their first fault
abbrev pub IsLineFault : Known → List Spot → ℕ → ScriptKind → Type 0
IsLineFault known spots column kind = Fails known 1 first_trail spots column kind
