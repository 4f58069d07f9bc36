-- Which texts are scripts, what each is read as, and where the first fault of any other text is.
use Rattle.std.specs.Prelude.{◌≡◌, ℕ, ◌+◌, Bool, true, false, List, [], ◌∷◌, length, codes, bytes_eq, is_some, nat_eq, nat_lt, not, ◌&&◌, ◌⊎◌, if◌then◌else◌}
use Rattle.std.specs.Map.{lookup}
use Rattle.indexmap.specs.IndexMap.{insert_entry}
use Rattle.script_lines.specs.declared.judge.Known.{Known}
use Rattle.script_lines.specs.declared.fault.ScriptKind.{ScriptKind}
use Rattle.script_lines.specs.declared.fault.ScriptKind.TheVariants.{Unclosed}
use Rattle.script_lines.specs.declared.line.Line.{Line}
use Rattle.script_lines.specs.declared.names.Named.{Named}
use Rattle.script_lines.specs.declared.state.State.{State}
use Rattle.script_lines.specs.declared.words.Sort.{Sort}
use Rattle.script_lines.specs.declared.words.Sort.TheVariants as sort
use Rattle.script_lines.specs.declared.words.Word.{Word}
use Rattle.script_lines.specs.declared.words.Word.TheVariants as word
use Rattle.tp_base.specs.declared.calls.Kind.{Kind}
use Rattle.tp_base.specs.declared.calls.Kind.TheVariants as kind
use Rattle.tp_script.specs.declared.numbered.NumberedLine.{NumberedLine}
use Rattle.tp_script.specs.Parsed.{Parsed, parsed}
use Rattle.script_lines.specs.Names.{Names}
use Rattle.script_lines.specs.Readings.{IsLineFault, IsLineRead}
use Rattle.script_lines.specs.States.{first_state, is_inside, state_behind}
use Rattle.script_lines.specs.Texts.{Spot, is_blank, is_name, lines_of, words_from}

-- the words of a line
abbrev pub words_of : List ℕ → List Spot
words_of text = words_from 1 text

-- A script has at most 65,535 routines. In a text with more, those that are too many share the last number.
abbrev pub routine_number : ℕ → ℕ
routine_number others = if nat_lt others 65535 then others + 1 else 65535

-- The routines of a script are known from its first line on: each name behind the word `routine` at the front of a line, by its
-- order, the first of two that are the same.
abbrev pub with_routine_name : Names → List ℕ → Names
with_routine_name routines name =
    if is_name name && not (is_some (lookup (bytes_eq name) routines))
    then insert_entry bytes_eq routines name (record { meaning = record { sort = sort.Routine; local = false; number = routine_number (length routines) }; section = 0 })
    else routines

-- the words stand behind the word `routine`
abbrev pub with_routine_behind : Names → List Spot → Names
with_routine_behind routines [] = routines
with_routine_behind routines (name ∷ spots) = with_routine_name routines name.word

abbrev pub with_routine : Names → List Spot → Names
with_routine routines [] = routines
with_routine routines (head ∷ spots) = if bytes_eq head.word (codes "routine") then with_routine_behind routines spots else routines

abbrev pub with_routines : Names → List (List ℕ) → Names
with_routines routines [] = routines
with_routines routines (text ∷ texts) = with_routines (with_routine routines (words_of text)) texts

-- before the first line
abbrev pub first_known : List (List ℕ) → Known
first_known texts = record { names = []; routines = with_routines [] texts; state = first_state }

-- what an object of the kind is
abbrev pub sort_of_kind : Kind → Sort
sort_of_kind kind.Work = sort.Work
sort_of_kind kind.Timer = sort.Timer
sort_of_kind kind.Wait = sort.Wait
sort_of_kind kind.Io = sort.Io

-- what the new name of a line stands for
abbrev pub sort_made : Word → Kind → Sort
sort_made word.Pool kind = sort.Pool
sort_made word.Group kind = sort.Group
sort_made word.Event kind = sort.Event
sort_made word.Semaphore kind = sort.Semaphore
sort_made word.Mutex kind = sort.Mutex
sort_made word.Section kind = sort.Section
sort_made word.Memory kind = sort.Memory
sort_made word.Routine kind = sort.Routine
sort_made word.IssueIo kind = sort.Operation
sort_made _ kind = sort_of_kind kind

-- whether the new name of a line is of its section alone
abbrev pub is_local : Word → Bool
is_local word.Let = true
is_local word.IssueIo = true
is_local _ = false

abbrev pub section_of : Word → State → ℕ
section_of head state = if is_local head then state.section else 0

-- what the new name of a line stands for, and where
abbrev pub named_by : Line → State → Named
named_by line state = record { meaning = record { sort = sort_made line.head line.kind; local = is_local line.head; number = line.made }; section = section_of line.head state }

abbrev pub names_after : Known → Line → List ℕ → Names
names_after known line name = if nat_eq line.made 0 then known.names else insert_entry bytes_eq known.names name (named_by line known.state)

-- behind a line with this new name
abbrev pub known_after : Known → Line → List ℕ → Known
known_after known line name = record { names = names_after known line name; routines = known.routines; state = state_behind known.state line }

-- the texts from this number on are these lines, each in its place, and lead from one to the other; those that are blank are none
abbrev pub Reads : Known → ℕ → List (List ℕ) → List NumberedLine → Known → Type 0
Reads known number [] rows end = (rows ≡ []) × (end ≡ known)
Reads known number (text ∷ texts) rows end =
    ((is_blank (words_of text) ≡ true) × Reads known (number + 1) texts rows end)
    ⊎ ((is_blank (words_of text) ≡ false) × ((line : Line) × (name : List ℕ) × (more : List NumberedLine) × IsLineRead known (words_of text) line name
    × (rows ≡ (record { number = number; line = line }) ∷ more) × Reads (known_after known line name) (number + 1) texts more end))

-- the first fault of texts that begin at a line: of the first text that is no line in its place, or behind the last one where a
-- routine or client isn't closed
abbrev pub Faults : Known → ℕ → List (List ℕ) → ℕ → ℕ → ScriptKind → Type 0
Faults known number [] line column kind = (is_inside known.state.place ≡ true) × (line ≡ number) × (column ≡ 1) × (kind ≡ Unclosed)
Faults known number (text ∷ texts) line column kind =
    ((is_blank (words_of text) ≡ true) × Faults known (number + 1) texts line column kind)
    ⊎ ((is_blank (words_of text) ≡ false) × (line ≡ number) × IsLineFault known (words_of text) column kind)
    ⊎ ((is_blank (words_of text) ≡ false) × ((said : Line) × (name : List ℕ) × IsLineRead known (words_of text) said name × Faults (known_after known said name) (number + 1) texts line column kind))

-- all lines of the text are these, and each part is closed
pub record AreLinesOf (text : List ℕ) (rows : List NumberedLine) : Type 0 where
  pub end : Known
  pub reads : Reads (first_known (lines_of text)) 1 (lines_of text) rows end
  pub closed : is_inside end.state.place ≡ false

-- the text is read as this script
abbrev pub IsParsed : List ℕ → Parsed → Type 0
IsParsed text script = (rows : List NumberedLine) × AreLinesOf text rows × (script ≡ parsed rows)

-- the text is a script that plays these lines
abbrev pub IsScript : List ℕ → List Line → Type 0
IsScript text lines = (script : Parsed) × IsParsed text script × (lines ≡ script.lines)

-- the text is no script, by its first fault
abbrev pub IsFaultIn : List ℕ → ℕ → ℕ → ScriptKind → Type 0
IsFaultIn text line column kind = Faults (first_known (lines_of text)) 1 (lines_of text) line column kind
