-- How far a history's text is written.
use Rattle.std.proofs.Common.{◌≡◌, ℕ, suc, ◌+◌, ◌<◌, ◌≤◌, List, [], ◌∷◌, ◌++◌, length, map, take, get_or, refl, sym, ap, ◌∙◌, append_assoc, arith}
use Rattle.std.proofs.Math.Seq.{take-suc}
use Rattle.std.proofs.lemmas.List.{map-append}
use Rattle.std.proofs.lemmas.List.Elements.{All-cons, All-head, All-nil, All-tail}
use Rattle.std.specs.Prelude.{All, Some, decimal, fold, unwrap_or}
use Rattle.line_grammar.specs.Traces.{trace_text}
use Rattle.line_grammar.proofs.TraceFacts.{trace_text-append}
use Rattle.recorded.specs.Recordings.{Recording}
use Rattle.tp_base.specs.declared.answers.Answer.{Answer}
use Rattle.tp_base.specs.declared.answers.Answer.TheVariants.{Advanced}
use Rattle.tp_base.specs.declared.answers.Entry.{Entry}
use Rattle.tp_base.specs.declared.calls.Call.{Call}
use Rattle.tp_base.specs.declared.calls.Call.TheVariants.{Advance}
use Rattle.tp_lines.specs.Answers.{FitsAnswer, line_of_entry}
use Rattle.tp_report.specs.declared.headers.Format.TheVariants.{Two}
use Rattle.tp_report.specs.declared.headers.Header.{Header}
use Rattle.tp_report.specs.declared.lines.Line.{Line}
use Rattle.tp_report.specs.Histories.{HasEntryLine, HasLine, IsReadBack, end_line, header_line, header_of, history_told, line_of, lines_of, timed, timed_from}
use Rattle.tp_report.specs.Moments.{clock_by, moment_after, moment_of}

pub take_more : {X : Type 0} (xs : List X) (i : ℕ) (d : X) → i < length xs → take (i + 1) xs ≡ take i xs ++ get_or xs i d ∷ []
take_more xs i d within = let more : i + 1 ≡ suc i = omega arith in ap (λ n. take n xs) more ∙ take-suc xs i d within

-- a line more
pub line_next : (lines : List (List ℕ)) (line before after : List ℕ) → before ≡ trace_text lines → after ≡ before ++ (line ++ 10 ∷ []) → after ≡ trace_text (lines ++ line ∷ [])
line_next lines line before after e f = f ∙ ap (λ t. t ++ (line ++ 10 ∷ [])) e ∙ sym (trace_text-append lines (line ∷ []))

pub lines_next : (lines more : List (List ℕ)) (before after : List ℕ) → before ≡ trace_text lines → after ≡ before ++ trace_text more → after ≡ trace_text (lines ++ more)
lines_next lines more before after e f = f ∙ ap (λ t. t ++ trace_text more) e ∙ sym (trace_text-append lines more)

-- the first line, the lines of all entries and the end
pub text_all : (r : Recording) (len : ℕ) (listed after : List ℕ) → len ≡ length r.history
    → listed ≡ trace_text (lines_of (header_of r.limits r.capacity) (timed r.history)) → after ≡ listed ++ (end_line len ++ 10 ∷ []) → after ≡ history_told r
text_all r len listed after is e f =
    let lines : List (List ℕ) = lines_of (header_of r.limits r.capacity) (timed r.history) in
    line_next lines (end_line len) listed after e f ∙ ap (λ n. trace_text (lines ++ end_line n ∷ [])) is

-- ---- entries with their moments

abbrev pub at : ℕ → Entry → Line
at moment entry = record { moment = Some moment; entry = entry }

-- a moment, a space and the line of the entry, as they are printed
pub line_at : (moment : ℕ) (entry : Entry) → decimal moment ++ (32 ∷ line_of_entry entry ++ 10 ∷ []) ≡ line_of (at moment entry) ++ 10 ∷ []
line_at moment entry =
    sym
    (append_assoc (decimal moment ++ 32 ∷ []) (line_of_entry entry) (10 ∷ []) ∙ append_assoc (decimal moment) (32 ∷ []) (line_of_entry entry ++ 10 ∷ []))

timed_next : (now : ℕ) (entries : List Entry) (entry : Entry) → timed_from now (entries ++ entry ∷ []) ≡ timed_from now entries ++ at (moment_after (fold moment_after now entries) entry) entry ∷ []
timed_next now [] entry = refl
timed_next now (first ∷ entries) entry = ap (λ ls. at (moment_after now first) first ∷ ls) (timed_next (moment_after now first) entries entry)

-- the lines of one entry more
pub lines_last : (header : Header) (history : List Entry) (entry : Entry)
    → lines_of header (timed (history ++ entry ∷ [])) ≡ lines_of header (timed history) ++ line_of (at (moment_after (moment_of history) entry) entry) ∷ []
lines_last header history entry =
    ap (λ ls. header_line header ∷ map line_of ls) (timed_next 0 history entry)
    ∙ ap (λ ls. header_line header ∷ ls) (map-append line_of (timed history) (at (moment_after (moment_of history) entry) entry ∷ []))

pub timed_length : (now : ℕ) (entries : List Entry) → length (timed_from now entries) ≡ length entries
timed_length now [] = refl
timed_length now (entry ∷ entries) = ap suc (timed_length (moment_after now entry) entries)

-- ---- what is written is read

-- the time of the clock is in the range of lines as long as the answers are
moment_most : (now : ℕ) (call : Call) (answer : Answer) → now ≤ 9223372036854775807 → FitsAnswer answer → unwrap_or (clock_by call answer) now ≤ 9223372036854775807
moment_most now (Advance ticks) (Advanced told first count) most fits = fits.1.0.at_most
moment_most now _ _ most fits = most

have_timed : (now : ℕ) (entries : List Entry) → now ≤ 9223372036854775807 → All HasEntryLine entries → All (HasLine Two) (timed_from now entries)
have_timed now [] most h = All-nil (HasLine Two)
have_timed now (entry ∷ entries) most h =
    let has : HasEntryLine entry = All-head HasEntryLine entry entries h in
    let next : moment_after now entry ≤ 9223372036854775807 = moment_most now entry.call entry.answer most has.answer_in_range in
    All-cons (HasLine Two) (at (moment_after now entry) entry) (timed_from (moment_after now entry) entries) (record { has_moment = next; has_entry = has; split = refl })
    (have_timed (moment_after now entry) entries next (All-tail HasEntryLine entry entries h))

pub read_back : (r : Recording) → IsReadBack r
read_back r has =
    let lines : List (List ℕ) = lines_of (header_of r.limits r.capacity) (timed r.history) in
    let size : length (timed r.history) ≡ length r.history = timed_length 0 r.history in
    record {
      has_header_line = has.header;
      have_lines = have_timed 0 r.history (omega arith) has.have_lines;
      few = omega (arith, has.few, size);
      rest = [];
      split = trace_text-append lines (end_line (length r.history) ∷ []) ∙ ap (λ n. trace_text lines ++ (end_line n ++ 10 ∷ [])) (sym size);
    }
