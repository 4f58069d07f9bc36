-- The lines of calls with libraries.
use Rattle.std.specs.Prelude.{◌≡◌, ℕ, ◌≤◌, Bool, true, false, ◌==◌, ◌||◌, List, [], ◌∷◌, ◌++◌, codes, decimal, map, if◌then◌else◌, Option, None}
use Rattle.tp_base.specs.declared.ids.Who.{Who}
use Rattle.line_grammar.specs.Numbers.{Numbers}
use Rattle.line_grammar.specs.Parts.{Led, Pairs}
use Rattle.line_grammar.specs.Traces.{trace_text}
use Rattle.line_grammar.specs.Words.{Either, Optional, Word}
use Rattle.std.specs.List.{flat_map}
use Rattle.tp_lines.specs.Answers.{text_of_outcome}
use Rattle.tp_lines.specs.Calls.{FitsCall, IsWhoInRange, row_of}
use Rattle.tp_lines.specs.Parts.{row_text}
use Rattle.tp_lines.specs.Words.{text_of_who}
use Rattle.recorded.specs.ProgramLimits.{program_limits}
use Rattle.tp_library.specs.Libraries.{may_have_library, opening, play_at, IsLibrary, Told}
use Rattle.tp_library.specs.declared.LibAnswer.{LibAnswer}
use Rattle.tp_library.specs.declared.LibAnswer.TheVariants as answer
use Rattle.tp_library.specs.declared.LibRefusal.{LibRefusal}
use Rattle.tp_library.specs.declared.LibRefusal.TheVariants.{LibraryNotLoaded, LoadLimit, NoLoadLeft, NoSuch, NotRunning, Released, SlotTaken}
use Rattle.tp_library.specs.declared.TheConstants.{LIBRARY_LIMIT}
use Rattle.tp_library.specs.declared.LibCall.{LibCall}
use Rattle.tp_library.specs.declared.LibCall.TheVariants.{Free, FreeOnReturn, Load, Pool}
use Rattle.tp_library.specs.declared.LibraryId.{LibraryId}
use Rattle.tp_library.specs.declared.lines.Verb.{Verb}
use Rattle.tp_library.specs.declared.lines.Verb.TheVariants as verb

-- a space, an `l` and the number of a library
abbrev pub text_of_library : ℕ → List ℕ
text_of_library library = codes " l" ++ decimal library

-- behind a call nothing stands for no library
abbrev pub text_of_suffix : ℕ → List ℕ
text_of_suffix library = if library == 0 then [] else text_of_library library

-- what stands behind the actor
abbrev pub text_of_lib_call : LibCall → List ℕ
text_of_lib_call (Load library) = codes " load" ++ text_of_library library.0
text_of_lib_call (Free library) = codes " free" ++ text_of_library library.0
text_of_lib_call (FreeOnReturn library) = codes " free-on-return" ++ text_of_library library.0
text_of_lib_call (Pool call library) = 32 ∷ (row_text (row_of call) ++ text_of_suffix library.0)

-- a line can have the numbers and words of the call
abbrev pub FitsLibCall : LibCall → Type 0
FitsLibCall (Load library) = IsLibrary library.0
FitsLibCall (Free library) = IsLibrary library.0
FitsLibCall (FreeOnReturn library) = IsLibrary library.0
FitsLibCall (Pool call library) = FitsCall call × (library.0 ≤ LIBRARY_LIMIT) × ((may_have_library call || (library.0 == 0)) ≡ true)

-- the text is the line of this call by this actor, and a line can have their numbers
pub record IsLibLine (who : Who) (made : LibCall) (text : List ℕ) : Type 0 where
  pub who_in_range : IsWhoInRange who
  pub call_in_range : FitsLibCall made
  pub split : text ≡ text_of_who who ++ text_of_lib_call made

abbrev pub LibLines : (Who × LibCall) → List ℕ → Type 0
LibLines (who, made) text = IsLibLine who made text

-- the lines of calls of the machine, and those of this layer's own calls
abbrev pub is_pool_call : LibCall → Bool
is_pool_call (Pool call library) = true
is_pool_call _ = false

pub record IsLibLineOf (of_pool : Bool) (who : Who) (made : LibCall) (text : List ℕ) : Type 0 where
  pub line : IsLibLine who made text
  pub kind : is_pool_call made ≡ of_pool

abbrev pub LibLinesOf : Bool → (Who × LibCall) → List ℕ → Type 0
LibLinesOf of_pool (who, made) text = IsLibLineOf of_pool who made text

-- ---- part by part

-- a space, a letter and the number of a library
abbrev pub Libraries : ℕ → List ℕ → Type 0
Libraries = Led 32 (Led 108 (Numbers 1 LIBRARY_LIMIT))

-- what may stand behind a call line
abbrev pub Suffixes : Bool → Option ℕ → List ℕ → Type 0
Suffixes true = Optional [] Libraries
Suffixes false = Word None []

-- the words of this layer's own calls
abbrev pub Verbs : Verb → List ℕ → Type 0
Verbs = Either (Either (Word verb.Load (codes "load")) (Word verb.Free (codes "free"))) (Word verb.FreeOnReturn (codes "free-on-return"))

-- such a call behind its actor
abbrev pub OwnTexts : (Verb × ℕ) → List ℕ → Type 0
OwnTexts = Led 32 (Pairs Verbs (λ verb. Libraries))

-- what the parts stand for
abbrev pub library_id : ℕ → LibraryId
library_id number = record { 0 = number }

abbrev pub own_call : Verb → ℕ → LibCall
own_call verb.Load library = Load (library_id library)
own_call verb.Free library = Free (library_id library)
own_call verb.FreeOnReturn library = FreeOnReturn (library_id library)

-- ---- answers

abbrev pub refusal_text : LibRefusal → List ℕ
refusal_text NoSuch = codes "no-such"
refusal_text Released = codes "released"
refusal_text NotRunning = codes "not-running"
refusal_text SlotTaken = codes "slot-taken library"
refusal_text LibraryNotLoaded = codes "library-not-loaded"
refusal_text NoLoadLeft = codes "no-load-left"
refusal_text LoadLimit = codes "load-limit"

abbrev pub refusal_line : LibRefusal → List ℕ
refusal_line refusal = codes "refused " ++ refusal_text refusal

abbrev pub answer_text : LibAnswer → List ℕ
answer_text answer.Done = codes "ok"
answer_text (answer.Pool told) = text_of_outcome told
answer_text (answer.Refused refusal) = refusal_line refusal

abbrev pub unloaded_text : ℕ → List ℕ
unloaded_text library = codes "unloaded l" ++ decimal library

-- the line of an answer, and one for each library that the step let go
abbrev pub lines_of_told : Told → List (List ℕ)
lines_of_told told = answer_text told.0 ∷ map unloaded_text told.1

abbrev pub output_of : List Told → List ℕ
output_of all = trace_text (flat_map lines_of_told all)

-- what lines come to on a new machine of the program with so many clients and workers, and room for so many entries
abbrev pub lines_come_to : ℕ → ℕ → ℕ → List (Who × LibCall) → List ℕ
lines_come_to clients workers capacity calls = output_of (play_at (opening (program_limits clients workers) capacity) calls)

-- who makes the call of a line
abbrev pub who_of : (Who × LibCall) → Who
who_of made = made.0
