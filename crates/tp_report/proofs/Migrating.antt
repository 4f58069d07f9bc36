-- What is answered and appended where a history was judged.
use Rattle.std.proofs.Common.{◌≡◌, ℕ, List, [], ◌∷◌, ◌++◌, length, refl, sym, ap, ◌∙◌, subst, arith}
use Rattle.std.specs.Prelude.{All, Result, Ok, Err}
use Rattle.std.specs.Result.{IsErrAnd}
use Rattle.std.proofs.lemmas.List.{length-map}
use Rattle.std.proofs.lemmas.List.Elements.{All-cons, All-head, All-nil, All-tail}
use Rattle.std.proofs.lemmas.Result.{err_from_is_err_and}
use Rattle.recorded.specs.Recordings.{Recording}
use Rattle.line_grammar.specs.Faults.{IsOrNoMemory}
use Rattle.tp_base.specs.declared.answers.Entry.{Entry}
use Rattle.tp_model.specs.History.{IsLegal}
use Rattle.tp_report.specs.Histories.{AreObjects, HasEntryLine, HasLine, HasText, IsHistory, entries_of, header_of, history_told, timed, timed_from}
use Rattle.tp_report.specs.Judging.{IsJudgedOn}
use Rattle.tp_report.specs.Moments.{moment_after, moments, moments_from}
use Rattle.tp_report.specs.Verdicts.{AreMoments, IfLegal, IsJudged, IsVerdict, limits_of, migrated_text}
use Rattle.line_grammar.specs.declared.faults.TextFault.{TextFault}
use Rattle.line_grammar.specs.declared.faults.TextFault.TheVariants.{NoMemory, At}
use Rattle.tp_report.specs.declared.headers.Format.{Format}
use Rattle.tp_report.specs.declared.headers.Format.TheVariants.{One, Two}
use Rattle.tp_report.specs.declared.headers.Header.{Header}
use Rattle.tp_report.specs.declared.lines.Line.{Line}
use Rattle.tp_report.specs.declared.verdict.Verdict.{Verdict}
use Rattle.tp_report.specs.declared.verdict.Verdict.TheVariants.{Legal, NotLegal, WrongMoment}
use Rattle.tp_report.proofs.Telling.{read_back, timed_length}

module _ (header : Header) (lines : List Line) where
  fault_alone : {T : Type 0} (recording : T → Recording) (fault : TextFault) → IsOrNoMemory (λ (judged : T × Verdict). IsJudgedOn header lines (recording judged.0) judged.1) (Err fault)
      → IsOrNoMemory (IsVerdict (limits_of header) header.events lines) (Err fault)
  fault_alone recording NoMemory h = tt
  fault_alone recording (At line column) h = h

  -- the fault that is handed on
  pub fault_again : {T : Type 0} (recording : T → Recording) (fault : TextFault) (result : Result Verdict TextFault) → IsErrAnd result (λ f. f ≡ fault)
      → IsOrNoMemory (λ (judged : T × Verdict). IsJudgedOn header lines (recording judged.0) judged.1) (Err fault) → IsOrNoMemory (IsVerdict (limits_of header) header.events lines) result
  fault_again recording fault result told again =
      let e = err_from_is_err_and result told in
      subst (λ r. IsOrNoMemory (IsVerdict (limits_of header) header.events lines) r) (sym e.1)
      (subst (λ f. IsOrNoMemory (IsVerdict (limits_of header) header.events lines) (Err f)) (sym e.2) (fault_alone recording fault again))

  -- the text of the machine on which a legal history was played is that history in format 2
  pub migrated : (book : Recording) (verdict : Verdict) (before after : List ℕ) → IsJudgedOn header lines book verdict
      → ((len : ℕ) → verdict ≡ Legal len → after ≡ before ++ history_told book) → IfLegal (Ok verdict) (after ≡ before ++ migrated_text header lines)
  migrated book (Legal len) before after judged appended = appended len refl ∙ ap (λ r. before ++ history_told r) judged.1
  migrated book (NotLegal position outcome) before after judged appended = tt
  migrated book (WrongMoment position now) before after judged appended = tt

-- ---- what is appended is a legal history again

entries_timed : (now : ℕ) (entries : List Entry) → entries_of (timed_from now entries) ≡ entries
entries_timed now [] = refl
entries_timed now (entry ∷ entries) = ap (λ es. entry ∷ es) (entries_timed (moment_after now entry) entries)

moments_timed : (now : ℕ) (entries : List Entry) → AreMoments (timed_from now entries) (moments_from now entries)
moments_timed now [] = tt
moments_timed now (entry ∷ entries) = (refl, moments_timed (moment_after now entry) entries)

have_entries : (format : Format) (lines : List Line) → All (HasLine format) lines → All HasEntryLine (entries_of lines)
have_entries format [] h = All-nil HasEntryLine
have_entries format (line ∷ lines) h = All-cons HasEntryLine line.entry (entries_of lines) (All-head (HasLine format) line lines h).has_entry (have_entries format lines (All-tail (HasLine format) line lines h))

objects_again : (format : Format) (objects : ℕ) → AreObjects format objects → AreObjects Two objects
objects_again One objects h = (omega (arith, h), omega (arith, h))
objects_again Two objects h = h

module _ (bytes : List ℕ) (header : Header) (lines : List Line) (h : IsHistory bytes header lines) where
  count : length (entries_of lines) ≡ length lines
  count = length-map lines (λ (line : Line). line.entry)

  has_text : HasText (record { limits = limits_of header; capacity = header.events; history = entries_of lines })
  has_text =
      let first = h.has_header_line in
      record {
        header = record {
          clients_most = first.clients_most;
          workers_least = first.workers_least;
          workers_most = first.workers_most;
          events_least = first.events_least;
          events_most = first.events_most;
          objects_in_range = objects_again header.format header.objects first.objects_in_range;
          split = refl;
        };
        have_lines = have_entries header.format lines h.have_lines;
        few = omega (arith, h.few, count);
      }

  legal_again : IsLegal (limits_of header) header.events (entries_of lines) → IsJudged (migrated_text header lines) (Legal (length lines))
  legal_again legal = record {
    header = header_of (limits_of header) header.events;
    lines = timed (entries_of lines);
    is_history = read_back (record { limits = limits_of header; capacity = header.events; history = entries_of lines }) has_text;
    is_verdict = (
      subst (λ es. IsLegal (limits_of header) header.events es) (sym (entries_timed 0 (entries_of lines))) legal,
      subst (λ es. AreMoments (timed (entries_of lines)) (moments es)) (sym (entries_timed 0 (entries_of lines))) (moments_timed 0 (entries_of lines)),
      omega (arith, count, timed_length 0 (entries_of lines)),
    );
  }

  pub judged_again : (book : Recording) (verdict : Verdict) → IsJudgedOn header lines book verdict → IfLegal (Ok verdict) (IsJudged (migrated_text header lines) (Legal (length lines)))
  judged_again book (Legal len) judged = legal_again judged.0.0
  judged_again book (NotLegal position outcome) judged = tt
  judged_again book (WrongMoment position now) judged = tt
