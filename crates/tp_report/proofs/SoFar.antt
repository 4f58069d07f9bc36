-- How far the lines of a history have been read.
use Rattle.std.proofs.Common.{◌≡◌, ℕ, suc, ◌+◌, ◌<◌, ◌≤◌, ◌^◌, List, [], ◌∷◌, ◌++◌, length, take, drop, refl, sym, ap, ap₂, ◌∙◌, subst, arith, zero-add, add-zero}
use Rattle.std.specs.Prelude.{All, map, None, Some, Result, Ok, Err, IfOk, IfErr}
use Rattle.std.proofs.lemmas.List.{append_assoc, append-nil, length-append, length-map, take-append-drop, length-take-le}
use Rattle.std.proofs.lemmas.List.Elements.{All-nil, All-push, All-head, All-tail}
use Rattle.line_grammar.specs.Language.{IsReadTo, IsStuck}
use Rattle.line_grammar.specs.Parts.{IsPart}
use Rattle.line_grammar.specs.Traces.{Ended, trace_text}
use Rattle.tp_report.specs.declared.headers.Format.{Format}
use Rattle.tp_report.specs.declared.headers.Header.{Header}
use Rattle.tp_report.specs.declared.lines.Line.{Line}
use Rattle.line_grammar.specs.declared.faults.TextFault.{TextFault}
use Rattle.line_grammar.specs.declared.faults.TextFault.TheVariants.{NoMemory, At}
use Rattle.tp_report.specs.declared.verdict.Verdict.{Verdict}
use Rattle.tp_report.specs.declared.verdict.Verdict.TheVariants.{Legal, NotLegal, WrongMoment}
use Rattle.recorded.specs.Recordings.{Recording}
use Rattle.tp_report.specs.Histories.{HasHeaderLine, HasLine, HeaderLines, IsHistory, IsHistoryFault, IsLine, NextLines, end_line, entries_of, header_line, line_of}
use Rattle.tp_report.specs.Readings.{IsNext}
use Rattle.tp_report.specs.declared.lines.Next.TheVariants.{Another, End, Fault}
use Rattle.tp_base.specs.declared.limits.Limits.{Limits}
use Rattle.tp_model.specs.Laws.{KeepsLaws}
use Rattle.tp_model.proofs.Laws.{keeps_laws}
use Rattle.line_grammar.specs.Faults.{IsOrNoMemory, IsPlace}
use Rattle.tp_report.specs.Judging.{AreLines, AreRest, IsBookOf, IsJudgedOn, IsJudgedTo, IsLinesFault, IsSameMachine, IsVerdictBehind, KeepsUp, len_told, lines_text}
use Rattle.tp_report.specs.Verdicts.{IfLegal, IsJudged, IsVerdict, limits_of}
use Rattle.line_grammar.proofs.EndedFacts.{read_first, stuck_first, reaches_line, absent_line}
use Rattle.tp_report.proofs.Places.{header_part, next_part}

pub lines_text-append : (lines more : List Line) → lines_text (lines ++ more) ≡ lines_text lines ++ lines_text more
lines_text-append [] more = refl
lines_text-append (added ∷ lines) more =
    ap (λ t. line_of added ++ 10 ∷ t) (lines_text-append lines more)
    ∙ sym (append_assoc (line_of added) (10 ∷ lines_text lines) (lines_text more))

-- these lines were read, and this is left; and a history's lines begin with them
pub record IsReadBehind (header : Header) (text : List ℕ) (lines : List Line) (rest : List ℕ) : Type 0 where
  pub have_lines : All (HasLine header.format) lines
  pub few : length lines ≤ header.events
  pub split : text ≡ lines_text lines ++ rest
  pub only : (all : List Line) → AreRest header 0 text all → (tail : List Line) × (all ≡ lines ++ tail) × AreRest header (length lines) rest tail

bound_of : (events len : ℕ) → events ≤ 131072 → len ≤ events → len < 2 ^ 64
bound_of events len most few = omega arith

-- what a line's text is
line_is : (format : Format) (line : Line) (text : List ℕ) → IsLine format line text → HasLine format line
line_is format line text h = subst (λ l. IsLine format line l) h.split h

module _ (header : Header) (text : List ℕ) (lines : List Line) (rest : List ℕ) (r : IsReadBehind header text lines rest) (most : header.events ≤ 131072) where
  -- the first line of what follows, from what is left
  first_entry : (m : Line) (tail : List Line) → AreRest header (length lines) rest (m ∷ tail) → NextLines header (length lines) (Some m) (line_of m)
  first_entry m tail a = (omega (arith, a.few), All-head (HasLine header.format) m tail a.have_lines)

  one_more : (m : Line) (tail : List Line) (a : AreRest header (length lines) rest (m ∷ tail)) →
      rest ≡ line_of m ++ 10 ∷ (lines_text tail ++ (end_line (length lines + suc (length tail)) ++ 10 ∷ a.rest))
  one_more m tail a = a.split ∙ append_assoc (line_of m) (10 ∷ lines_text tail) (end_line (length lines + suc (length tail)) ++ 10 ∷ a.rest)

  pub read_next : (added : Line) (size : ℕ) → IsReadTo (Ended (NextLines header (length lines))) rest (Some added) size → IsReadBehind header text (lines ++ added ∷ []) (drop size rest)
  read_next added size read =
      let t = read.text_of in
      let has = line_is header.format added t.line t.is_line.1 in
      let longer : length (lines ++ added ∷ []) ≡ length lines + 1 = length-append lines (added ∷ []) in
      let line_split : t.line ≡ line_of added = t.is_line.1.split in
      record {
        have_lines = All-push (HasLine header.format) lines added r.have_lines has;
        few = omega (arith, t.is_line.0, longer);
        split = r.split ∙ ap (λ l. lines_text lines ++ l) (sym (take-append-drop size rest) ∙ ap (λ l. l ++ drop size rest) (t.split ∙ ap (λ l. l ++ 10 ∷ []) line_split))
            ∙ sym (append_assoc (lines_text lines) (line_of added ++ 10 ∷ []) (drop size rest))
            ∙ ap (λ l. l ++ drop size rest) (sym (lines_text-append lines (added ∷ [])));
        only = λ all a. (let behind = r.only all a in next_only all behind.0 behind.1 behind.2);
      }
    where
      part : IsPart 10 (NextLines header (length lines))
      part = next_part header (length lines) (bound_of header.events (length lines) most r.few)

      next_only : (all tail : List Line) → all ≡ lines ++ tail → AreRest header (length lines) rest tail
          → (more : List Line) × (all ≡ (lines ++ added ∷ []) ++ more) × AreRest header (length (lines ++ added ∷ [])) (drop size rest) more
      next_only all [] e a =
          let line : NextLines header (length lines) None (end_line (length lines + 0)) = ap (λ n. end_line n) (add-zero (length lines)) in
          let s = read_first (NextLines header (length lines)) part rest (Some added) size read None (end_line (length lines + 0)) a.rest line a.split in
          let none : ⊥ = cc (s.0) in absurd none
      next_only all (m ∷ tail) e a =
          let behind = lines_text tail ++ (end_line (length lines + suc (length tail)) ++ 10 ∷ a.rest) in
          let s = read_first (NextLines header (length lines)) part rest (Some added) size read (Some m) (line_of m) behind (first_entry m tail a) (one_more m tail a) in
          let same : added ≡ m = cc (s.0) in
          let longer : length (lines ++ added ∷ []) ≡ length lines + 1 = length-append lines (added ∷ []) in
          let sum : length lines + suc (length tail) ≡ length (lines ++ added ∷ []) + length tail = omega (arith, longer) in (
            tail,
            e ∙ ap (λ x. lines ++ x ∷ tail) (sym same) ∙ sym (append_assoc lines (added ∷ []) tail),
            record {
              have_lines = All-tail (HasLine header.format) m tail a.have_lines;
              few = omega (arith, a.few, longer);
              rest = a.rest;
              split = s.1 ∙ ap (λ n. lines_text tail ++ (end_line n ++ 10 ∷ a.rest)) sum;
            },
          )

  read_end_text : (size : ℕ) → IsReadTo (Ended (NextLines header (length lines))) rest None size → rest ≡ end_line (0 + length lines) ++ 10 ∷ drop size rest
  read_end_text size read =
      let t = read.text_of in
      sym (take-append-drop size rest) ∙ ap (λ l. l ++ drop size rest) (t.split ∙ ap (λ l. l ++ 10 ∷ []) (t.is_line ∙ ap (λ n. end_line n) (sym (zero-add (length lines)))))
      ∙ append_assoc (end_line (0 + length lines)) (10 ∷ []) (drop size rest)

  pub read_all : (size : ℕ) → IsReadTo (Ended (NextLines header (length lines))) rest None size → AreRest header 0 text lines
  read_all size read = record {
    have_lines = r.have_lines;
    few = omega (arith, r.few);
    rest = drop size rest;
    split = r.split ∙ ap (λ l. lines_text lines ++ l) (read_end_text size read);
  }

  last_line : AreRest header (length lines) rest [] → NextLines header (length lines) None (end_line (length lines + 0))
  last_line a = ap (λ n. end_line n) (add-zero (length lines))

  pub read_only : (size : ℕ) → IsReadTo (Ended (NextLines header (length lines))) rest None size → (all : List Line) → AreRest header 0 text all → lines ≡ all
  read_only size read all a = let behind = r.only all a in of_tail behind.0 behind.1 behind.2
    where
      of_tail : (tail : List Line) → all ≡ lines ++ tail → AreRest header (length lines) rest tail → lines ≡ all
      of_tail [] e b = sym (e ∙ append-nil lines)
      of_tail (m ∷ tail) e b =
          let behind = lines_text tail ++ (end_line (length lines + suc (length tail)) ++ 10 ∷ b.rest) in
          let part = next_part header (length lines) (bound_of header.events (length lines) most r.few) in
          let s = read_first (NextLines header (length lines)) part rest None size read (Some m) (line_of m) behind (first_entry m tail b) (one_more m tail b) in
          let none : ⊥ = cc (s.0) in absurd none

  pub read_no : (place : ℕ) → IsStuck (Ended (NextLines header (length lines))) rest place → (all : List Line) → AreRest header 0 text all → ⊥
  read_no place stuck all a = let behind = r.only all a in of_tail behind.0 behind.2
    where
      part : IsPart 10 (NextLines header (length lines))
      part = next_part header (length lines) (bound_of header.events (length lines) most r.few)

      of_tail : (tail : List Line) → AreRest header (length lines) rest tail → ⊥
      of_tail [] b = stuck_first (NextLines header (length lines)) part rest place stuck None (end_line (length lines + 0)) b.rest (last_line b) b.split
      of_tail (m ∷ tail) b =
          let behind = lines_text tail ++ (end_line (length lines + suc (length tail)) ++ 10 ∷ b.rest) in
          stuck_first (NextLines header (length lines)) part rest place stuck (Some m) (line_of m) behind (first_entry m tail b) (one_more m tail b)

  pub read_fault : (place line column : ℕ) → IsStuck (Ended (NextLines header (length lines))) rest place → line ≡ length lines + 2 → column ≡ place + 1 → IsLinesFault header text line column
  read_fault place line column stuck e f =
      let W = NextLines header (length lines) in
      let part = next_part header (length lines) (bound_of header.events (length lines) most r.few) in
      let size : length (take place rest) ≡ place = length-take-le place rest stuck.within in
      record {
        lines = lines;
        front = take place rest;
        back = drop place rest;
        have_lines = r.have_lines;
        few = r.few;
        split = r.split ∙ ap (λ l. lines_text lines ++ l) (sym (take-append-drop place rest));
        open_line = absent_line W part (take place rest) stuck.absent;
        reaches = reaches_line W part (take place rest) (drop place rest) stuck.reaches;
        line_of = e;
        column_of = omega (arith, f, size);
      }

-- behind the header
module _ (bytes : List ℕ) (header : Header) (size : ℕ) (read : IsReadTo (Ended HeaderLines) bytes header size) where
  header_has : HasHeaderLine header
  header_has = let t = read.text_of in subst (λ l. HeaderLines header l) t.is_line.split t.is_line

  header_split : bytes ≡ header_line header ++ 10 ∷ drop size bytes
  header_split =
      let t = read.text_of in
      sym (take-append-drop size bytes) ∙ ap (λ l. l ++ drop size bytes) (t.split ∙ ap (λ l. l ++ 10 ∷ []) t.is_line.split)
      ∙ append_assoc (header_line header) (10 ∷ []) (drop size bytes)

  behind_header : (lines : List Line) (more : List ℕ) → drop size bytes ≡ lines_text lines ++ more → bytes ≡ trace_text (header_line header ∷ map line_of lines) ++ more
  behind_header lines more e =
      header_split ∙ ap (λ l. header_line header ++ 10 ∷ l) e ∙ sym (append_assoc (header_line header) (10 ∷ lines_text lines) more)

  pub history_read : (lines : List Line) → AreRest header 0 (drop size bytes) lines → IsHistory bytes header lines
  history_read lines a = record {
    has_header_line = header_has;
    have_lines = a.have_lines;
    few = omega (arith, a.few);
    rest = a.rest;
    split = behind_header lines (end_line (length lines) ++ 10 ∷ a.rest) (a.split ∙ ap (λ n. lines_text lines ++ (end_line n ++ 10 ∷ a.rest)) (zero-add (length lines)));
  }

  pub history_only : (other : Header) (lines : List Line) → IsHistory bytes other lines → (header ≡ other) × AreRest header 0 (drop size bytes) lines
  history_only other lines h =
      let more = end_line (length lines) ++ 10 ∷ h.rest in
      let whole : bytes ≡ header_line other ++ 10 ∷ (lines_text lines ++ more) = h.split ∙ append_assoc (header_line other) (10 ∷ lines_text lines) more in
      let s = read_first HeaderLines header_part bytes header size read other (header_line other) (lines_text lines ++ more) h.has_header_line whole in (
        s.0,
        record {
          have_lines = subst (λ (x : Header). All (HasLine x.format) lines) (sym s.0) h.have_lines;
          few = omega (arith, h.few, ap (λ x. x.events) s.0);
          rest = h.rest;
          split = s.1 ∙ ap (λ n. lines_text lines ++ (end_line n ++ 10 ∷ h.rest)) (sym (zero-add (length lines)));
        },
      )

  pub history_fault : (line column : ℕ) → IsLinesFault header (drop size bytes) line column → IsHistoryFault bytes line column
  history_fault line column f =
      let count = length-map f.lines line_of in record {
        above = Some (header, f.lines);
        front = f.front;
        back = f.back;
        are_above = (header_has, f.have_lines, f.few);
        split = behind_header f.lines (f.front ++ f.back) f.split;
        open_line = f.open_line;
        reaches = f.reaches;
        line_of = omega (arith, f.line_of, count);
        column_of = f.column_of;
      }

  -- the same of what was answered on the rest
  module _ (text : List ℕ) (behind : text ≡ drop size bytes) where
    pub result_ok : {T : Type 0} (r : Result T TextFault) (told : T → Verdict) → IfOk r (λ t. IsVerdictBehind header text (told t)) → IfOk r (λ t. IsJudged bytes (told t))
    result_ok (Ok value) told h = record {
      header = header;
      lines = h.lines;
      is_history = history_read h.lines (subst (λ t. AreLines header t h.lines) behind h.are_lines);
      is_verdict = h.is_verdict;
    }
    result_ok (Err fault) told h = h

    pub result_only : {T : Type 0} (r : Result T TextFault) (P : Header → List Line → T → Type 0) → ((lines : List Line) → AreLines header text lines → IsOrNoMemory (P header lines) r)
        → (other : Header) (lines : List Line) → IsHistory bytes other lines → IsOrNoMemory (P other lines) r
    result_only r P h other lines history =
        let o = history_only other lines history in
        subst (λ (x : Header). IsOrNoMemory (P x lines) r) o.0 (h lines (subst (λ t. AreLines header t lines) (sym behind) o.1))

    place_in : (fault : TextFault) → IsPlace (IsLinesFault header text) fault → IsPlace (IsHistoryFault bytes) fault
    place_in NoMemory h = tt
    place_in (At line column) h = history_fault line column (subst (λ t. IsLinesFault header t line column) behind h)

    pub result_err : {T : Type 0} (r : Result T TextFault) → IfErr r (λ fault. IsPlace (IsLinesFault header text) fault) → IfErr r (λ fault. IsPlace (IsHistoryFault bytes) fault)
    result_err (Ok value) h = h
    result_err (Err fault) h = place_in fault h

-- at the header
pub header_fault : (bytes : List ℕ) (place column : ℕ) → IsStuck (Ended HeaderLines) bytes place → column ≡ place + 1 → IsHistoryFault bytes 1 column
header_fault bytes place column stuck e =
    let size : length (take place bytes) ≡ place = length-take-le place bytes stuck.within in
    record {
      above = None;
      front = take place bytes;
      back = drop place bytes;
      are_above = tt;
      split = sym (take-append-drop place bytes);
      open_line = absent_line HeaderLines header_part (take place bytes) stuck.absent;
      reaches = reaches_line HeaderLines header_part (take place bytes) (drop place bytes) stuck.reaches;
      line_of = refl;
      column_of = omega (arith, e, size);
    }

pub header_no : (bytes : List ℕ) (place : ℕ) → IsStuck (Ended HeaderLines) bytes place → (header : Header) (lines : List Line) → IsHistory bytes header lines → ⊥
header_no bytes place stuck header lines h =
    let more = end_line (length lines) ++ 10 ∷ h.rest in
    stuck_first HeaderLines header_part bytes place stuck header (header_line header) (lines_text lines ++ more) h.has_header_line
    (h.split ∙ append_assoc (header_line header) (10 ∷ lines_text lines) more)

-- what is called legal keeps the laws
pub legal_keeps : (limits : Limits) (capacity : ℕ) (lines : List Line) (r : Result Verdict TextFault) → IsOrNoMemory (IsVerdict limits capacity lines) r → IfLegal r (KeepsLaws limits (entries_of lines))
legal_keeps limits capacity lines (Ok (Legal len)) v = keeps_laws limits capacity (entries_of lines) v.0
legal_keeps limits capacity lines (Ok (NotLegal position outcome)) v = tt
legal_keeps limits capacity lines (Ok (WrongMoment position now)) v = tt
legal_keeps limits capacity lines (Err fault) v = tt

-- ---- read and judged

pub record IsCheckedTo (header : Header) (text : List ℕ) (book : Recording) (now : ℕ) (verdict : Verdict) (len : ℕ) (rest : List ℕ) : Type 0 where
  pub lines : List Line
  pub read : IsReadBehind header text lines rest
  pub counts : len ≡ length lines
  pub judged : IsJudgedTo book lines now verdict
  pub limits : book.limits ≡ limits_of header
  pub capacity : book.capacity ≡ header.events

pub checked_first : (header : Header) (text : List ℕ) (book : Recording) → book.limits ≡ limits_of header → book.capacity ≡ header.events → book.history ≡ [] → IsCheckedTo header text book 0 (Legal 0) 0 text
checked_first header text book limits capacity empty = record {
  lines = [];
  read = record { have_lines = All-nil (HasLine header.format); few = omega arith; split = refl; only = λ all a. (all, refl, a) };
  counts = refl;
  judged = record { written = (empty, refl); is_verdict = (tt, tt, refl) };
  limits = limits;
  capacity = capacity;
}

-- as long as each line is right, the machine has their entries
book_of : (header : Header) (lines : List Line) (book : Recording) (now : ℕ) (verdict : Verdict) → book.limits ≡ limits_of header → book.capacity ≡ header.events
    → KeepsUp book.history lines now verdict → IsBookOf header lines book verdict
book_of header lines book now (Legal len) limits capacity keeps =
    ap₂ (λ l n. record book { limits = l; capacity = n }) limits capacity
    ∙ ap (λ h. record { limits = limits_of header; capacity = header.events; history = h }) keeps.0
book_of header lines book now (NotLegal position outcome) limits capacity keeps = tt
book_of header lines book now (WrongMoment position right) limits capacity keeps = tt

pub told_len : (limits : Limits) (capacity : ℕ) (lines : List Line) (verdict : Verdict) → IsVerdict limits capacity lines verdict → len_told verdict ≤ length lines
told_len limits capacity lines (Legal len) v = omega (arith, v.2)
told_len limits capacity lines (NotLegal position outcome) v = omega arith
told_len limits capacity lines (WrongMoment position now) v = omega arith

module _ (header : Header) (text : List ℕ) (book : Recording) (now : ℕ) (verdict : Verdict) (len : ℕ) (rest : List ℕ) (c : IsCheckedTo header text book now verdict len rest) (most : header.events ≤ 131072) where
  pub checked_few : (len ≤ 131072) × (len_told verdict ≤ 131072) × (len ≤ header.events)
  checked_few = (omega (arith, c.counts, c.read.few), omega (arith, c.read.few, told_len book.limits book.capacity c.lines verdict c.judged.is_verdict), omega (arith, c.counts, c.read.few))

  pub checked_next : (new : Recording) (then : ℕ) (next : Verdict) (added : Line) (size : ℕ) → IsNext header len rest added (Another size)
      → IsSameMachine book new → ((lines : List Line) → IsJudgedTo book lines now verdict → IsJudgedTo new (lines ++ added ∷ []) then next) → IsCheckedTo header text new then next (len + 1) (drop size rest)
  checked_next new then next added size is same judged = record {
    lines = c.lines ++ added ∷ [];
    read = read_next header text c.lines rest c.read most added size (subst (λ n. IsNext header n rest added (Another size)) c.counts is);
    counts = omega (arith, c.counts, length-append c.lines (added ∷ []));
    judged = judged c.lines c.judged;
    limits = same.limits ∙ c.limits;
    capacity = same.capacity ∙ c.capacity;
  }

  pub checked_verdict : IsVerdict (limits_of header) header.events c.lines verdict
  checked_verdict = subst (λ n. IsVerdict (limits_of header) n c.lines verdict) c.capacity (subst (λ l. IsVerdict l book.capacity c.lines verdict) c.limits c.judged.is_verdict)

  pub checked_all : (added : Line) → IsNext header len rest added End → IsVerdictBehind header text verdict
  checked_all added is =
      let end = subst (λ n. IsNext header n rest added End) c.counts is in
      record { lines = c.lines; are_lines = read_all header text c.lines rest c.read most end.0 end.1; is_verdict = checked_verdict }

  pub checked_only : (added : Line) → IsNext header len rest added End → (all : List Line) → AreLines header text all → IsJudgedOn header all book verdict
  checked_only added is all a =
      let end = subst (λ n. IsNext header n rest added End) c.counts is in
      subst (λ es. IsJudgedOn header es book verdict) (read_only header text c.lines rest c.read most end.0 end.1 all a)
      (checked_verdict, book_of header c.lines book now verdict c.limits c.capacity c.judged.written)

  pub checked_no : (added : Line) (place : ℕ) → IsNext header len rest added (Fault place) → (all : List Line) → AreLines header text all → ⊥
  checked_no added place is = read_no header text c.lines rest c.read most place (subst (λ n. IsNext header n rest added (Fault place)) c.counts is)

  pub checked_fault : (added : Line) (place : ℕ) → IsNext header len rest added (Fault place) → IsLinesFault header text (len + 1 + 1) (place + 1)
  checked_fault added place is =
      read_fault header text c.lines rest c.read most place (len + 1 + 1) (place + 1) (subst (λ n. IsNext header n rest added (Fault place)) c.counts is)
      (omega (arith, c.counts)) refl
