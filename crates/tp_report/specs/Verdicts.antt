-- What is said of a history.
use Rattle.std.specs.Prelude.{◌≡◌, ◌≢◌, ℕ, ◌+◌, List, [], ◌∷◌, ◌++◌, length, codes, decimal, Option, None, Some, Result, Ok, Err}
use Rattle.recorded.specs.ProgramLimits.{limits_with}
use Rattle.tp_base.specs.declared.answers.Entry.{Entry}
use Rattle.tp_base.specs.declared.answers.Outcome.{Outcome}
use Rattle.tp_base.specs.declared.answers.Outcome.TheVariants.{Done}
use Rattle.tp_base.specs.declared.limits.Limits.{Limits}
use Rattle.tp_base.specs.Ranges.{IsOutcomeInRange}
use Rattle.tp_lines.specs.Answers.{text_of_outcome}
use Rattle.tp_model.specs.History.{IsLegal, after, room}
use Rattle.tp_model.specs.Step.{outcome_of}
use Rattle.tp_model.specs.Table.{step}
use Rattle.tp_report.specs.Histories.{IsHistory, entries_of, history_text}
use Rattle.tp_report.specs.Moments.{moment_of, moments}
use Rattle.tp_report.specs.declared.headers.Header.{Header}
use Rattle.line_grammar.specs.declared.faults.TextFault.{TextFault}
use Rattle.tp_report.specs.declared.lines.Line.{Line}
use Rattle.tp_report.specs.declared.verdict.Verdict.{Verdict}
use Rattle.tp_report.specs.declared.verdict.Verdict.TheVariants.{Legal, NotLegal, WrongMoment}

-- the machine whose history this is
abbrev pub limits_of : Header → Limits
limits_of header = limits_with header.clients header.workers header.objects

-- what the call of an entry comes to behind these entries
abbrev pub outcome_behind : Limits → ℕ → List Entry → Entry → Outcome
outcome_behind limits capacity before entry =
    outcome_of (step (after limits before) (room capacity (after limits before) (length before)) entry.who entry.call)

-- a line tells this time of the clock, or none
abbrev pub IsMoment : Option ℕ → ℕ → Type 0
IsMoment None now = Unit {0}
IsMoment (Some moment) now = moment ≡ now

abbrev pub AreMoments : List Line → List ℕ → Type 0
AreMoments [] [] = Unit {0}
AreMoments (line ∷ lines) (now ∷ rest) = IsMoment line.moment now × AreMoments lines rest
AreMoments [] (now ∷ rest) = ⊥
AreMoments (line ∷ lines) [] = ⊥

-- the moments that the lines tell are those of their entries
abbrev pub IsTimed : List Line → Type 0
IsTimed lines = AreMoments lines (moments (entries_of lines))

-- the entry at this position, counted from 1, is the first whose answer isn't the machine's, which has this outcome,
-- whose numbers can stand in a line; and the moments before are right
pub record IsWrongAt (limits : Limits) (capacity : ℕ) (history : List Line) (position : ℕ) (outcome : Outcome) : Type 0 where
  pub before : List Line
  pub line : Line
  pub behind : List Line
  pub split : history ≡ before ++ line ∷ behind
  pub place : position ≡ length before + 1
  pub legal : IsLegal limits capacity (entries_of before)
  pub timed : IsTimed before
  pub told : outcome ≡ outcome_behind limits capacity (entries_of before) line.entry
  pub in_range : IsOutcomeInRange outcome
  pub wrong : outcome ≢ Done line.entry.answer

-- the line at this position, counted from 1, is the first whose moment isn't that of its entry, which is `now`; and the
-- answers up to it are the machine's
pub record IsWrongMomentAt (limits : Limits) (capacity : ℕ) (history : List Line) (position now : ℕ) : Type 0 where
  pub before : List Line
  pub line : Line
  pub behind : List Line
  pub split : history ≡ before ++ line ∷ behind
  pub place : position ≡ length before + 1
  pub legal : IsLegal limits capacity (entries_of before ++ line.entry ∷ [])
  pub timed : IsTimed before
  pub told : now ≡ moment_of (entries_of before ++ line.entry ∷ [])
  pub wrong : IsMoment line.moment now → ⊥

abbrev pub IsVerdict : Limits → ℕ → List Line → Verdict → Type 0
IsVerdict limits capacity history (Legal len) = IsLegal limits capacity (entries_of history) × IsTimed history × (len ≡ length history)
IsVerdict limits capacity history (NotLegal position outcome) = IsWrongAt limits capacity history position outcome × (IsLegal limits capacity (entries_of history) → ⊥)
IsVerdict limits capacity history (WrongMoment position now) = IsWrongMomentAt limits capacity history position now × (IsTimed history → ⊥)

-- the bytes are a history, and this is its verdict
pub record IsJudged (bytes : List ℕ) (verdict : Verdict) : Type 0 where
  pub header : Header
  pub lines : List Line
  pub is_history : IsHistory bytes header lines
  pub is_verdict : IsVerdict (limits_of header) header.events lines verdict

-- P, where the answer is that the history is legal
abbrev pub IfLegal : Result Verdict TextFault → Type 0 → Type 0
IfLegal (Ok (Legal len)) P = P
IfLegal (Ok (NotLegal position outcome)) P = Unit {0}
IfLegal (Ok (WrongMoment position now)) P = Unit {0}
IfLegal (Err fault) P = Unit {0}

-- the answer is that the history is legal
abbrev pub IsLegalTold : Result Verdict TextFault → Type 0
IsLegalTold (Ok (Legal len)) = Unit {0}
IsLegalTold (Ok (NotLegal position outcome)) = ⊥
IsLegalTold (Ok (WrongMoment position now)) = ⊥
IsLegalTold (Err fault) = ⊥

-- a history in format 2, with the numbers of its first line
abbrev pub migrated_text : Header → List Line → List ℕ
migrated_text header lines = history_text (limits_of header) header.events (entries_of lines)

abbrev pub verdict_text : Verdict → List ℕ
verdict_text (Legal len) = codes "legal " ++ (decimal len ++ 10 ∷ [])
verdict_text (NotLegal position outcome) = codes "not legal at " ++ (decimal position ++ (codes ": " ++ (text_of_outcome outcome ++ 10 ∷ [])))
verdict_text (WrongMoment position now) = codes "not legal at " ++ (decimal position ++ (codes ": moment " ++ (decimal now ++ 10 ∷ [])))
