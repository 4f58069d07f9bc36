-- Histories as texts, of either format, and the place of the first fault in a text that is none.
use Rattle.std.specs.Prelude.{◌≡◌, ℕ, ◌+◌, ◌<◌, ◌≤◌, List, [], ◌∷◌, ◌++◌, length, map, All, codes, decimal, Option, None, Some}
use Rattle.line_grammar.specs.Language.{AnyOf, Reaches}
use Rattle.line_grammar.specs.Traces.{EndedLine, trace_text}
use Rattle.recorded.specs.Recordings.{Recording}
use Rattle.recorded.specs.declared.TheConstants.{OBJECT_LIMIT}
use Rattle.tp_base.specs.declared.answers.Entry.{Entry}
use Rattle.tp_base.specs.declared.limits.Limits.{Limits}
use Rattle.tp_lines.specs.Answers.{IsEntryLine, line_of_entry}
use Rattle.tp_report.specs.Moments.{moment_after}
use Rattle.tp_report.specs.declared.headers.Format.{Format}
use Rattle.tp_report.specs.declared.headers.Format.TheVariants.{One, Two}
use Rattle.tp_report.specs.declared.headers.Header.{Header}
use Rattle.tp_report.specs.declared.headers.TheConstants.{EVENT_LIMIT}
use Rattle.tp_report.specs.declared.lines.Line.{Line}

-- what the first line begins with
abbrev pub mark_of : Format → List ℕ
mark_of One = codes "history 1"
mark_of Two = codes "history 2"

-- what it ends with: format 1 doesn't tell how many objects there are at most
abbrev pub objects_text : Format → ℕ → List ℕ
objects_text One objects = []
objects_text Two objects = codes " objects " ++ decimal objects

abbrev pub AreObjects : Format → ℕ → Type 0
AreObjects One objects = objects ≡ 4095
AreObjects Two objects = (1 ≤ objects) × (objects ≤ OBJECT_LIMIT)

-- the first line, without its line feed
abbrev pub header_line : Header → List ℕ
header_line header =
    mark_of header.format ++ (codes " clients " ++ (decimal header.clients ++ (codes " workers " ++ (decimal header.workers
    ++ (codes " events " ++ (decimal header.events ++ objects_text header.format header.objects))))))

pub record IsHeaderLine (header : Header) (text : List ℕ) : Type 0 where
  pub clients_most : header.clients ≤ 16
  pub workers_least : 1 ≤ header.workers
  pub workers_most : header.workers ≤ 64
  pub events_least : 16 ≤ header.events
  pub events_most : header.events ≤ EVENT_LIMIT
  pub objects_in_range : AreObjects header.format header.objects
  pub split : text ≡ header_line header

abbrev pub HeaderLines : Header → List ℕ → Type 0
HeaderLines header text = IsHeaderLine header text

-- the numbers of the header are in the ranges of the first line
abbrev pub HasHeaderLine : Header → Type 0
HasHeaderLine header = IsHeaderLine header (header_line header)

-- the numbers of the entry are in the ranges of entry lines
abbrev pub HasEntryLine : Entry → Type 0
HasEntryLine entry = IsEntryLine entry (line_of_entry entry)

-- each line of format 2 has a moment, and none of format 1
abbrev pub HasMoment : Format → Option ℕ → Type 0
HasMoment One None = Unit {0}
HasMoment One (Some moment) = ⊥
HasMoment Two None = ⊥
HasMoment Two (Some moment) = moment ≤ 9223372036854775807

-- what stands before an entry: a moment and a space, or nothing
abbrev pub front_with : Option ℕ → List ℕ
front_with None = []
front_with (Some moment) = decimal moment ++ 32 ∷ []

abbrev pub line_of : Line → List ℕ
line_of line = front_with line.moment ++ line_of_entry line.entry

pub record IsLine (format : Format) (line : Line) (text : List ℕ) : Type 0 where
  pub has_moment : HasMoment format line.moment
  pub has_entry : HasEntryLine line.entry
  pub split : text ≡ line_of line

abbrev pub Lines : Format → Line → List ℕ → Type 0
Lines format line text = IsLine format line text

-- the numbers of the line are in the ranges of such a history's lines
abbrev pub HasLine : Format → Line → Type 0
HasLine format line = IsLine format line (line_of line)

abbrev pub entries_of : List Line → List Entry
entries_of lines = map (λ (line : Line). line.entry) lines

-- entries as lines of format 2, where the clock stood at `now` before them
abbrev pub timed_from : ℕ → List Entry → List Line
timed_from now [] = []
timed_from now (entry ∷ entries) = record { moment = Some (moment_after now entry); entry = entry } ∷ timed_from (moment_after now entry) entries

-- those of a whole history: each has its moment
abbrev pub timed : List Entry → List Line
timed history = timed_from 0 history

-- the last line, with the number of entries
abbrev pub end_line : ℕ → List ℕ
end_line len = codes "end " ++ decimal len

-- a line behind the header and `len` lines of entries: one more as long as the history has room, or the end
abbrev pub NextLines : Header → ℕ → Option Line → List ℕ → Type 0
NextLines header len (Some line) text = (len < header.events) × IsLine header.format line text
NextLines header len None text = text ≡ end_line len

-- the lines of a header and entries
abbrev pub lines_of : Header → List Line → List (List ℕ)
lines_of header lines = header_line header ∷ map line_of lines

-- the first line of the history of a machine of these limits, in format 2
abbrev pub header_of : Limits → ℕ → Header
header_of limits events = record { format = Two; clients = limits.clients; workers = limits.workers; events = events; objects = limits.objects }

-- the text of a history, in format 2: the first line, the lines of its entries with their moments, and the end line
abbrev pub history_text : Limits → ℕ → List Entry → List ℕ
history_text limits events history = trace_text (lines_of (header_of limits events) (timed history) ++ end_line (length history) ∷ [])

abbrev pub history_told : Recording → List ℕ
history_told r = history_text r.limits r.capacity r.history

-- the bytes are the header's line, the entries' lines and the end, each with its line feed, and anything behind them
pub record IsHistory (bytes : List ℕ) (header : Header) (lines : List Line) : Type 0 where
  pub has_header_line : HasHeaderLine header
  pub have_lines : All (HasLine header.format) lines
  pub few : length lines ≤ header.events
  pub rest : List ℕ
  pub split : bytes ≡ trace_text (lines_of header lines) ++ (end_line (length lines) ++ 10 ∷ rest)

-- What stands above a line: nothing, or the header and lines of entries.
abbrev pub lines_above : Option (Header × List Line) → List (List ℕ)
lines_above None = []
lines_above (Some (header, lines)) = lines_of header lines

abbrev pub AreAbove : Option (Header × List Line) → Type 0
AreAbove None = Unit {0}
AreAbove (Some (header, lines)) = HasHeaderLine header × All (HasLine header.format) lines × (length lines ≤ header.events)

-- the lines of the grammar in that place
abbrev pub LinesBelow : Option (Header × List Line) → List ℕ → Type 0
LinesBelow None = AnyOf HeaderLines
LinesBelow (Some (header, lines)) = AnyOf (NextLines header (length lines))

-- the first fault of bytes that are no history: the lines above it are in the grammar, and what follows them goes
-- along with a line in that place and its line feed for as long as `front` and is none
pub record IsHistoryFault (bytes : List ℕ) (line column : ℕ) : Type 0 where
  pub above : Option (Header × List Line)
  pub front : List ℕ
  pub back : List ℕ
  pub are_above : AreAbove above
  pub split : bytes ≡ trace_text (lines_above above) ++ (front ++ back)
  pub open_line : EndedLine (LinesBelow above) front → ⊥
  pub reaches : Reaches (EndedLine (LinesBelow above)) front back
  pub line_of : line ≡ length (lines_above above) + 1
  pub column_of : column ≡ length front + 1

-- the first line and those of the entries are in the grammar, and there are no more entries than the history has room for
pub record HasText (r : Recording) : Type 0 where
  pub header : HasHeaderLine (header_of r.limits r.capacity)
  pub have_lines : All HasEntryLine r.history
  pub few : length r.history ≤ r.capacity

-- where a history has a text, that is read as this history
abbrev pub IsReadBack : Recording → Type 0
IsReadBack r = HasText r → IsHistory (history_told r) (header_of r.limits r.capacity) (timed r.history)
