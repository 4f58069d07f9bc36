-- What readers of histories find at the front of a text.
use Rattle.std.specs.Prelude.{◌≡◌, ℕ, ◌≤◌, List, [], ◌∷◌, ◌++◌, Option, None, Some, decimal, codes, Result, Ok, Err}
use Rattle.line_grammar.specs.Language.{IsReadTo, IsStuck}
use Rattle.line_grammar.specs.Numbers.{Numbers}
use Rattle.line_grammar.specs.Parts.{Led, Pairs}
use Rattle.line_grammar.specs.Traces.{Ended}
use Rattle.line_grammar.specs.Words.{Either, Word}
use Rattle.recorded.specs.declared.TheConstants.{OBJECT_LIMIT}
use Rattle.tp_base.specs.declared.answers.Entry.{Entry}
use Rattle.tp_lines.specs.Answers.{EntryLines}
use Rattle.tp_report.specs.Histories.{NextLines, end_line, mark_of}
use Rattle.tp_report.specs.declared.headers.Format.{Format}
use Rattle.tp_report.specs.declared.headers.Format.TheVariants.{One, Two}
use Rattle.tp_report.specs.declared.headers.Header.{Header}
use Rattle.tp_report.specs.declared.headers.TheConstants.{EVENT_LIMIT}
use Rattle.tp_report.specs.declared.lines.Line.{Line}
use Rattle.tp_report.specs.declared.lines.Next.{Next}
use Rattle.tp_report.specs.declared.lines.Next.TheVariants.{Another, End, Fault}
use Rattle.tp_report.specs.declared.moments.Stamp.{Stamp}

-- a word, a space and a number
pub record IsKeyed (word : List ℕ) (least most value : ℕ) (text : List ℕ) : Type 0 where
  pub at_least : least ≤ value
  pub at_most : value ≤ most
  pub split : text ≡ word ++ 32 ∷ decimal value

abbrev pub Keyed : List ℕ → ℕ → ℕ → ℕ → List ℕ → Type 0
Keyed word least most value text = IsKeyed word least most value text

-- what the first line of a history begins with
abbrev pub Marks : Format → List ℕ → Type 0
Marks = Either (Word One (mark_of One)) (Word Two (mark_of Two))

-- the numbers behind it: of clients, of workers, of events, and of objects, which one format doesn't tell
abbrev pub Objects : Format → ℕ → List ℕ → Type 0
Objects One = Word 4095 []
Objects Two = Keyed (codes " objects") 1 OBJECT_LIMIT

abbrev pub Rooms : Format → (ℕ × ℕ) → List ℕ → Type 0
Rooms format = Pairs (Keyed (codes " events") 16 EVENT_LIMIT) (λ events. Objects format)

abbrev pub Sizes : Format → (ℕ × (ℕ × ℕ)) → List ℕ → Type 0
Sizes format = Pairs (Keyed (codes " workers") 1 64) (λ workers. Rooms format)

abbrev pub Counts : Format → (ℕ × (ℕ × (ℕ × ℕ))) → List ℕ → Type 0
Counts format = Pairs (Keyed (codes " clients") 0 16) (λ clients. Sizes format)

-- the number of a moment
abbrev pub Moments : ℕ → List ℕ → Type 0
Moments = Numbers 0 9223372036854775807

-- a moment, a space, and the line of an entry with its line feed
abbrev pub MomentLines : (ℕ × Entry) → List ℕ → Type 0
MomentLines = Pairs Moments (λ moment. Led 32 (Ended EntryLines))

-- the text is that of the moment, and a space
pub record IsStamp (stamp : Stamp) : Type 0 where
  pub in_range : stamp.moment ≤ 9223372036854775807
  pub text_is : stamp.text.now ≡ decimal stamp.moment ++ 32 ∷ []

-- the end line and its line feed, where there is no further entry
abbrev pub Ends : ℕ → Option Line → List ℕ → Type 0
Ends len = Word None (end_line len ++ 10 ∷ [])

-- the text begins with that line, or goes along with it up to a place
abbrev pub IsEndRead : ℕ → List ℕ → Option ℕ → Type 0
IsEndRead len text None = (size : ℕ) × IsReadTo (Ends len) text None size
IsEndRead len text (Some place) = IsStuck (Ends len) text place

-- what a reader found that writes the value down and tells its size alone
abbrev pub read_as : {V : Type 0} → V → Result ℕ ℕ → Result (V × ℕ) ℕ
read_as value (Ok size) = Ok (value, size)
read_as value (Err place) = Err place

-- what the line behind the header and `len` entries is, where the line of one more was written down if it is one
abbrev pub IsNext : Header → ℕ → List ℕ → Line → Next → Type 0
IsNext header len text line (Another size) = IsReadTo (Ended (NextLines header len)) text (Some line) size
IsNext header len text line End = (size : ℕ) × IsReadTo (Ended (NextLines header len)) text None size
IsNext header len text line (Fault place) = IsStuck (Ended (NextLines header len)) text place
