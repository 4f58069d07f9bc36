-- The parts of a line: what each holds, and its text.
use Rattle.std.specs.Prelude.{◌≡◌, ℕ, ◌+◌, ◌≤◌, List, [], ◌∷◌, ◌++◌, decimal, nat_eq, if◌then◌else◌, Option, None, Some}
use Rattle.tp_base.specs.Ranges.{IsDueInRange, IsNamedInRange}
use Rattle.tp_lines.specs.declared.parts.Form.{Form}
use Rattle.tp_lines.specs.declared.parts.Form.TheVariants as form
use Rattle.tp_lines.specs.declared.parts.Part.{Part}
use Rattle.tp_lines.specs.declared.parts.Part.TheVariants as part
use Rattle.tp_lines.specs.declared.words.Field.{Field}
use Rattle.tp_lines.specs.declared.words.Field.TheVariants as field
use Rattle.tp_lines.specs.declared.words.Word.{Word}
use Rattle.tp_lines.specs.Shapes.{fields_of, table_of, text_of_word}
use Rattle.tp_lines.specs.Values.{due_of, millis_of, named_of}
use Rattle.tp_lines.specs.Words.{text_of_due, text_of_millis, text_of_named}

-- the text of a part behind its space
abbrev pub text_of_part : Part → List ℕ
text_of_part (part.Short number) = decimal number
text_of_part (part.Made number) = decimal number
text_of_part (part.Level count) = decimal count
text_of_part (part.Units count) = decimal count
text_of_part (part.Small number) = decimal number
text_of_part (part.Large number) = decimal number
text_of_part (part.Time time) = decimal time
text_of_part (part.Due due) = text_of_due due
text_of_part (part.Named kernel) = text_of_named kernel
text_of_part (part.Millis millis) = text_of_millis millis
text_of_part (part.Routine routine) = 114 ∷ decimal routine
text_of_part (part.Context context) = 120 ∷ decimal context
text_of_part (part.Cleanup context) = 121 ∷ decimal context
text_of_part (part.Origin object) = 111 ∷ decimal object
text_of_part (part.Pool pool) = 112 ∷ decimal pool
text_of_part (part.Group group) = 103 ∷ decimal group
text_of_part (part.Cancel routine) = 113 ∷ decimal routine
text_of_part (part.Word word) = text_of_word word

-- parts one after another, each with the space before it
abbrev pub parts_text : List Part → List ℕ
parts_text [] = []
parts_text (p ∷ parts) = 32 ∷ text_of_part p ++ parts_text parts

-- a row: a word, and the parts behind it
abbrev pub row_text : Word × List Part → List ℕ
row_text (word, parts) = text_of_word word ++ parts_text parts

abbrev pub parts_of : Word × List Part → List Part
parts_of (word, parts) = part.Word word ∷ parts

-- how a field is written: the ranges of all numbers
abbrev pub form_of : Field → Form
form_of field.Short = form.Number 0 65535
form_of field.Made = form.Number 1 65535
form_of field.Level = form.Number 0 2147483647
form_of field.Units = form.Number 1 2147483647
form_of field.Small = form.Number 0 4294967295
form_of field.Large = form.Number 0 18446744073709551615
form_of field.Time = form.Number 0 9223372036854775807
form_of field.Due = form.Due
form_of field.Named = form.Named
form_of field.Millis = form.Millis
form_of field.Routine = form.Lettered 114 1 65535
form_of field.Context = form.Lettered 120 0 18446744073709551615
form_of field.Cleanup = form.Lettered 121 0 18446744073709551615
form_of field.Origin = form.Lettered 111 0 65535
form_of field.Pool = form.Lettered 112 0 65535
form_of field.Group = form.Lettered 103 0 65535
form_of field.Cancel = form.Lettered 113 0 65535
form_of field.NoCancel = form.Lettered 113 0 0
form_of _ = form.Choice

abbrev pub most_of : Form → ℕ
most_of (form.Number least most) = most
most_of (form.Lettered letter least most) = most
most_of _ = 0

-- the part of a field of numbers
abbrev pub number_part : Field → ℕ → Part
number_part field.Short number = part.Short number
number_part field.Made number = part.Made number
number_part field.Level number = part.Level number
number_part field.Units number = part.Units number
number_part field.Small number = part.Small number
number_part field.Large number = part.Large number
number_part field.Time number = part.Time number
number_part field.Routine number = part.Routine number
number_part field.Context number = part.Context number
number_part field.Cleanup number = part.Cleanup number
number_part field.Origin number = part.Origin number
number_part field.Pool number = part.Pool number
number_part field.Group number = part.Group number
number_part field.Cancel number = part.Cancel number
number_part field.NoCancel number = part.Cancel number
number_part _ number = part.Large number

abbrev pub number_of : Part → ℕ
number_of (part.Short number) = number
number_of (part.Made number) = number
number_of (part.Level number) = number
number_of (part.Units number) = number
number_of (part.Small number) = number
number_of (part.Large number) = number
number_of (part.Time number) = number
number_of (part.Routine number) = number
number_of (part.Context number) = number
number_of (part.Cleanup number) = number
number_of (part.Origin number) = number
number_of (part.Pool number) = number
number_of (part.Group number) = number
number_of (part.Cancel number) = number
number_of _ = 0

-- the part is a number of the field, in the range
pub record IsNumberPart (field : Field) (least most : ℕ) (held : Part) : Type 0 where
  pub is : held ≡ number_part field (number_of held)
  pub at_least : least ≤ number_of held
  pub at_most : number_of held ≤ most

-- the part is a due time
pub record IsDuePart (held : Part) : Type 0 where
  pub is : held ≡ part.Due (due_of held)
  pub in_range : IsDueInRange (due_of held)

-- the part is a kernel object, or none
pub record IsNamedPart (held : Part) : Type 0 where
  pub is : held ≡ part.Named (named_of held)
  pub in_range : IsNamedInRange (named_of held)

-- a number of milliseconds of 32 bits, if there is one
abbrev pub IsMillisInRange : Option ℕ → Type 0
IsMillisInRange None = Unit {0}
IsMillisInRange (Some millis) = millis ≤ 4294967295

-- the part is a number of milliseconds, or none
pub record IsMillisPart (held : Part) : Type 0 where
  pub is : held ≡ part.Millis (millis_of held)
  pub in_range : IsMillisInRange (millis_of held)

-- the part is a word of the field
pub record IsWordPart (field : Field) (held : Part) : Type 0 where
  pub word : Word
  pub is : held ≡ part.Word word
  pub table : table_of word ≡ field

abbrev pub FitsForm : Form → Field → Part → Type 0
FitsForm (form.Number least most) field held = IsNumberPart field least most held
FitsForm (form.Lettered letter least most) field held = IsNumberPart field least most held
FitsForm form.Due field held = IsDuePart held
FitsForm form.Named field held = IsNamedPart held
FitsForm form.Millis field held = IsMillisPart held
FitsForm form.Choice field held = IsWordPart field held

-- the part may stand in the field
abbrev pub Fits : Field → Part → Type 0
Fits field held = FitsForm (form_of field) field held

-- the fields behind a part: a word that brings fields puts them in place of those left, and without a
-- group there is no cancel routine
abbrev pub instead_of : List Field → List Field → List Field
instead_of [] left = left
instead_of (first ∷ own) left = first ∷ own

abbrev pub after : Part → List Field → List Field
after (part.Word word) left = instead_of (fields_of word) left
after (part.Group group) left = if nat_eq group 0 then field.NoCancel ∷ [] else left
after _ left = left

-- the parts stand in these fields, each in the range of its own
abbrev pub AreFit : List Field → List Part → Type 0
AreFit [] [] = Unit {0}
AreFit (first ∷ fields) (held ∷ parts) = Fits first held × AreFit (after held fields) parts
AreFit _ _ = ⊥

pub record IsPartsText (fields : List Field) (parts : List Part) (text : List ℕ) : Type 0 where
  pub fit : AreFit fields parts
  pub split : text ≡ parts_text parts

-- the texts of these fields, each with the space before it
abbrev pub PartsTexts : List Field → List Part → List ℕ → Type 0
PartsTexts fields parts text = IsPartsText fields parts text

-- how many parts may stand in a field, with those that its words bring
abbrev pub room_of : Field → ℕ
room_of field.Call = 10
room_of field.Answer = 8
room_of field.Look = 4
room_of field.Result = 3
room_of field.Refusal = 2
room_of field.State = 3
room_of field.Target = 2
room_of field.Group = 2
room_of field.OldCall = 6
room_of field.SleepCall = 2
room_of _ = 1

abbrev pub room : List Field → ℕ
room [] = 0
room (first ∷ fields) = room_of first + room fields
