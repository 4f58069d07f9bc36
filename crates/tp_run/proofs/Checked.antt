-- What the program makes of a history: what `check` and `migrate` write.
use Rattle.std.proofs.Common.{◌≡◌, ℕ, List, [], ◌++◌, Result, Ok, Err, refl, sym, ap, ◌∙◌, subst}
use Rattle.std.specs.Result.{IsErrAnd}
use Rattle.tp_report.specs.Histories.{IsHistory, IsHistoryFault}
use Rattle.line_grammar.specs.Faults.{IsOrNoMemory, IsPlace}
use Rattle.tp_report.specs.Verdicts.{IfLegal, IsJudged, IsVerdict, limits_of, migrated_text, verdict_text}
use Rattle.tp_report.specs.declared.headers.Header.{Header}
use Rattle.tp_report.specs.declared.lines.Line.{Line}
use Rattle.line_grammar.specs.declared.faults.TextFault.{TextFault}
use Rattle.line_grammar.specs.declared.faults.TextFault.TheVariants.{NoMemory, At}
use Rattle.tp_report.specs.declared.verdict.Verdict.{Verdict}
use Rattle.tp_report.specs.declared.verdict.Verdict.TheVariants.{Legal, NotLegal, WrongMoment}
use Rattle.tp_report.proofs.Deciding.{one_verdict}
use Rattle.tp_run.specs.Ends.{IsFaulty, IsOutput, IsReply, status_of_text}
use Rattle.tp_run.specs.Inputs.{ending_of, migration_written}
use Rattle.tp_run.specs.declared.command.Command.{Command}
use Rattle.tp_run.specs.declared.command.Command.TheVariants.{Check, Migrate}
use Rattle.tp_run.specs.declared.status.Ending.{Ending}
use Rattle.tp_run.specs.declared.status.Status.{Status}
use Rattle.tp_run.specs.declared.replies.Output.{Output}

-- the result is a verdict on the history, or memory was refused
abbrev pub IsVerdictOf : List ℕ → Result Verdict TextFault → Type 0
IsVerdictOf bytes result = (header : Header) (lines : List Line) → IsHistory bytes header lines → IsOrNoMemory (IsVerdict (limits_of header) header.events lines) result

-- a command whose input is a history has its fault there
abbrev FaultsIn : Command → List ℕ → Type 0
FaultsIn command bytes = (line column : ℕ) → IsHistoryFault bytes line column → ((header : Header) (lines : List Line) → IsHistory bytes header lines → ⊥) → IsFaulty command bytes line column

reply_of_fault : (command : Command) (bytes : List ℕ) (fault : TextFault) (reply : Result Output Status) → FaultsIn command bytes → IsErrAnd reply (λ status. status ≡ status_of_text fault)
    → IsPlace (IsHistoryFault bytes) fault → IsVerdictOf bytes (Err fault) → IsReply command bytes reply
reply_of_fault command bytes fault (Ok output) faults h place only = absurd h
reply_of_fault command bytes fault (Err status) faults h place only = subst (λ s. IsReply command bytes (Err s)) (sym h) (of_fault fault place only)
  where
    of_fault : (f : TextFault) → IsPlace (IsHistoryFault bytes) f → IsVerdictOf bytes (Err f) → IsReply command bytes (Err (status_of_text f))
    of_fault NoMemory place only = tt
    of_fault (At line column) place only = faults line column place only

pub check_of_fault : (bytes : List ℕ) (fault : TextFault) (reply : Result Output Status) → IsErrAnd reply (λ status. status ≡ status_of_text fault)
    → IsPlace (IsHistoryFault bytes) fault → IsVerdictOf bytes (Err fault) → IsReply Check bytes reply
check_of_fault bytes fault reply = reply_of_fault Check bytes fault reply (λ line column at none. record { at = at; none = λ h. none h.0 h.1 h.2 })

pub migration_of_fault : (bytes : List ℕ) (fault : TextFault) (reply : Result Output Status) → IsErrAnd reply (λ status. status ≡ status_of_text fault)
    → IsPlace (IsHistoryFault bytes) fault → IsVerdictOf bytes (Err fault) → IsReply Migrate bytes reply
migration_of_fault bytes fault reply = reply_of_fault Migrate bytes fault reply (λ line column at none. record { at = at; none = λ h. none h.0 h.1 h.2 })

pub output_of_verdict : (bytes text : List ℕ) (verdict : Verdict) (ending : Ending) → IsJudged bytes verdict → IsVerdictOf bytes (Ok verdict)
    → text ≡ verdict_text verdict → ending ≡ ending_of verdict → IsOutput Check bytes text ending
output_of_verdict bytes text verdict ending judged only text_is ending_is =
    record {
      gives = record { header = judged.header; lines = judged.lines; told = verdict; is_history = judged.is_history; is_verdict = judged.is_verdict; output_is = text_is; ending_is = ending_is };
      only = λ determined other other_end g.
          let same = one_verdict (limits_of g.header) g.header.events g.lines verdict g.told (only g.header g.lines g.is_history) g.is_verdict in
          (text_is ∙ ap verdict_text same ∙ sym g.output_is, ending_is ∙ ap ending_of same ∙ sym g.ending_is);
    }

-- of each history that the bytes are, this is what `migrate` writes
abbrev pub IsMigration : List ℕ → Verdict → List ℕ → Type 0
IsMigration bytes verdict text = (header : Header) (lines : List Line) → IsHistory bytes header lines → text ≡ migration_written header lines verdict

pub output_of_migration : (bytes text : List ℕ) (verdict : Verdict) (ending : Ending) → IsJudged bytes verdict → IsVerdictOf bytes (Ok verdict)
    → IsMigration bytes verdict text → ending ≡ ending_of verdict → IsOutput Migrate bytes text ending
output_of_migration bytes text verdict ending judged only text_is ending_is =
    record {
      gives = record { header = judged.header; lines = judged.lines; told = verdict; is_history = judged.is_history; is_verdict = judged.is_verdict; output_is = text_is judged.header judged.lines judged.is_history; ending_is = ending_is };
      only = λ determined other other_end g.
          let same = one_verdict (limits_of g.header) g.header.events g.lines verdict g.told (only g.header g.lines g.is_history) g.is_verdict in
          (text_is g.header g.lines g.is_history ∙ ap (λ v. migration_written g.header g.lines v) same ∙ sym g.output_is, ending_is ∙ ap ending_of same ∙ sym g.ending_is);
    }

-- a legal history is written
pub right_migration : (bytes before after : List ℕ) (verdict : Verdict) (len : ℕ) → verdict ≡ Legal len → before ≡ []
    → ((header : Header) (lines : List Line) → IsHistory bytes header lines → IfLegal (Ok verdict) (after ≡ before ++ migrated_text header lines)) → IsMigration bytes verdict after
right_migration bytes before after verdict len is none told =
    subst (λ v. IsMigration bytes v after) (sym is)
    (λ header lines h. subst (λ v. IfLegal (Ok v) (after ≡ before ++ migrated_text header lines)) is (told header lines h) ∙ ap (λ b. b ++ migrated_text header lines) none)

-- a history that isn't legal is told its verdict
pub wrong_migration : (bytes text : List ℕ) (verdict : Verdict) → ((len : ℕ) → verdict ≡ Legal len → ⊥) → text ≡ verdict_text verdict → IsMigration bytes verdict text
wrong_migration bytes text (Legal len) none text_is header lines h = absurd (none len refl)
wrong_migration bytes text (NotLegal position outcome) none text_is header lines h = text_is
wrong_migration bytes text (WrongMoment position now) none text_is header lines h = text_is
