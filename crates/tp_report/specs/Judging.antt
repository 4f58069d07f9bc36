-- How far a history behind its header is read and judged.
use Rattle.std.specs.Prelude.{◌≡◌, ℕ, ◌+◌, ◌≤◌, List, ◌∷◌, ◌++◌, length, map, All}
use Rattle.line_grammar.specs.Language.{AnyOf, Reaches}
use Rattle.line_grammar.specs.Traces.{EndedLine, trace_text}
use Rattle.recorded.specs.Recordings.{Recording}
use Rattle.tp_base.specs.declared.answers.Entry.{Entry}
use Rattle.tp_report.specs.Histories.{HasLine, NextLines, end_line, entries_of, line_of}
use Rattle.tp_report.specs.Moments.{moment_of}
use Rattle.tp_report.specs.Verdicts.{IsVerdict, limits_of}
use Rattle.tp_report.specs.declared.headers.Header.{Header}
use Rattle.tp_report.specs.declared.lines.Line.{Line}
use Rattle.tp_report.specs.declared.verdict.Verdict.{Verdict}
use Rattle.tp_report.specs.declared.verdict.Verdict.TheVariants.{Legal, NotLegal, WrongMoment}

-- the lines, each with its line feed
abbrev pub lines_text : List Line → List ℕ
lines_text lines = trace_text (map line_of lines)

-- behind `len` lines of entries, the text is these lines and the end of all, and anything behind them
pub record AreRest (header : Header) (len : ℕ) (text : List ℕ) (lines : List Line) : Type 0 where
  pub have_lines : All (HasLine header.format) lines
  pub few : len + length lines ≤ header.events
  pub rest : List ℕ
  pub split : text ≡ lines_text lines ++ (end_line (len + length lines) ++ 10 ∷ rest)

abbrev pub AreLines : Header → List ℕ → List Line → Type 0
AreLines header text lines = AreRest header 0 text lines

-- the first fault of what stands behind a header
pub record IsLinesFault (header : Header) (text : List ℕ) (line column : ℕ) : Type 0 where
  pub lines : List Line
  pub front : List ℕ
  pub back : List ℕ
  pub have_lines : All (HasLine header.format) lines
  pub few : length lines ≤ header.events
  pub split : text ≡ lines_text lines ++ (front ++ back)
  pub open_line : EndedLine (AnyOf (NextLines header (length lines))) front → ⊥
  pub reaches : Reaches (EndedLine (AnyOf (NextLines header (length lines)))) front back
  pub line_of : line ≡ length lines + 2
  pub column_of : column ≡ length front + 1

-- what stands behind the header is a history's rest, and this is its verdict
pub record IsVerdictBehind (header : Header) (text : List ℕ) (verdict : Verdict) : Type 0 where
  pub lines : List Line
  pub are_lines : AreLines header text lines
  pub is_verdict : IsVerdict (limits_of header) header.events lines verdict

abbrev pub len_told : Verdict → ℕ
len_told (Legal len) = len
len_told (NotLegal position outcome) = 0
len_told (WrongMoment position now) = 0

-- as long as each answer and each moment is right, the book has all entries, and this is the time behind them
abbrev pub KeepsUp : List Entry → List Line → ℕ → Verdict → Type 0
KeepsUp written lines now (Legal len) = (written ≡ entries_of lines) × (now ≡ moment_of (entries_of lines))
KeepsUp written lines now (NotLegal position outcome) = Unit {0}
KeepsUp written lines now (WrongMoment position right) = Unit {0}

pub record IsJudgedTo (book : Recording) (lines : List Line) (now : ℕ) (verdict : Verdict) : Type 0 where
  pub written : KeepsUp book.history lines now verdict
  pub is_verdict : IsVerdict book.limits book.capacity lines verdict

-- the machine on which a legal history was played has its entries
abbrev pub IsBookOf : Header → List Line → Recording → Verdict → Type 0
IsBookOf header lines book (Legal len) = book ≡ record { limits = limits_of header; capacity = header.events; history = entries_of lines }
IsBookOf header lines book (NotLegal position outcome) = Unit {0}
IsBookOf header lines book (WrongMoment position now) = Unit {0}

-- this is the verdict on the history, and the machine on which it was played
abbrev pub IsJudgedOn : Header → List Line → Recording → Verdict → Type 0
IsJudgedOn header lines book verdict = IsVerdict (limits_of header) header.events lines verdict × IsBookOf header lines book verdict

pub record IsSameMachine (old new : Recording) : Type 0 where
  pub limits : new.limits ≡ old.limits
  pub capacity : new.capacity ≡ old.capacity
