-- The texts of single fields, and of the words of a field.
use Rattle.std.specs.Prelude.{◌≡◌, ℕ, ℤ, List, [], ◌∷◌, ◌⊎◌, Option, codes, false}
use Rattle.line_grammar.specs.Numbers.{Numbers, Signed}
use Rattle.line_grammar.specs.Parts.{Led}
use Rattle.line_grammar.specs.Words.{Optional}
use Rattle.tp_base.specs.declared.answers.ActionKind.TheVariants as action
use Rattle.tp_base.specs.declared.answers.SlotWord.TheVariants as slot
use Rattle.tp_base.specs.declared.calls.Kind.TheVariants as kind
use Rattle.tp_base.specs.declared.calls.Lock.TheVariants as lock
use Rattle.tp_base.specs.declared.calls.Priority.TheVariants as priority
use Rattle.tp_base.specs.declared.ids.KernelId.{KernelId}
use Rattle.tp_lines.specs.declared.parts.Part.{Part}
use Rattle.tp_lines.specs.declared.words.Field.{Field}
use Rattle.tp_lines.specs.declared.words.Field.TheVariants as field
use Rattle.tp_lines.specs.declared.words.Word.{Word}
use Rattle.tp_lines.specs.declared.words.Word.TheVariants as word
use Rattle.tp_lines.specs.Parts.{Fits, text_of_part}
use Rattle.tp_lines.specs.Shapes.{table_of, text_of_word}

pub record IsBodyText (field : Field) (held : Part) (text : List ℕ) : Type 0 where
  pub fits : Fits field held
  pub split : text ≡ text_of_part held

-- the texts of one field behind its space
abbrev pub BodyTexts : Field → Part → List ℕ → Type 0
BodyTexts field held text = IsBodyText field held text

pub record IsChoiceText (field : Field) (word : Word) (text : List ℕ) : Type 0 where
  pub table : table_of word ≡ field
  pub split : text ≡ text_of_word word

-- the words of one field
abbrev pub ChoiceTexts : Field → Word → List ℕ → Type 0
ChoiceTexts field word text = IsChoiceText field word text

-- due times
abbrev pub DueTexts : Option ℤ → List ℕ → Type 0
DueTexts = Optional (codes "none") Signed

-- kernel objects
abbrev pub KernelTexts : KernelId → List ℕ → Type 0
KernelTexts kernel text = Numbers 0 65535 kernel.0 text

-- and those that may be none
abbrev pub NamedTexts : Option KernelId → List ℕ → Type 0
NamedTexts = Optional (codes "none") KernelTexts

-- milliseconds that may be none
abbrev pub MillisTexts : Option ℕ → List ℕ → Type 0
MillisTexts = Optional (codes "none") (Numbers 0 4294967295)

-- the texts of one field with the space before it
abbrev pub PartTexts : Field → Part → List ℕ → Type 0
PartTexts field = Led 32 (BodyTexts field)

-- a word of the field, where it has words
abbrev pub default_word : Field → Word
default_word field.Answer = word.Done
default_word field.Look = word.Full
default_word field.Result = word.Plain
default_word field.Refusal = word.NoSuch
default_word field.State = word.Stay
default_word field.Target = word.Kernel
default_word field.Kind = word.Kind kind.Work
default_word field.Priority = word.Priority priority.Normal
default_word field.Length = word.Length false false
default_word field.How = word.How false
default_word field.Reset = word.Reset false
default_word field.Signal = word.Signal false
default_word field.Lock = word.Lock lock.Mutex
default_word field.Owner = word.Owner false
default_word field.Flag = word.YesNo false
default_word field.Slot = word.Slot slot.Unasked
default_word field.Action = word.Action action.Event
default_word field.OldCall = word.CreateQueue
default_word field.Span = word.Span false
default_word field.Times = word.Times false
default_word field.SleepCall = word.Sleep
default_word _ = word.Take

-- the word is one of these
abbrev pub IsListed : List Word → Word → Type 0
IsListed [] w = ⊥
IsListed (x ∷ words) w = (w ≡ x) ⊎ IsListed words w

-- the words met so far: the first one, and those listed that stand in the field
pub record IsMet (f : Field) (first : Word) (words : List Word) (w : Word) (text : List ℕ) : Type 0 where
  pub which : (w ≡ first) ⊎ (IsListed words w × (table_of w ≡ f))
  pub split : text ≡ text_of_word w

abbrev pub Met : Field → Word → List Word → Word → List ℕ → Type 0
Met f first words w text = IsMet f first words w text
