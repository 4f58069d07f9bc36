-- The lines of a history in their places.
use Rattle.std.proofs.Common.{◌≡◌, ℕ, ◌<◌, ◌≤◌, ◌^◌, List, [], ◌∷◌, ◌++◌, length, take, drop, get_or, refl, sym, ap, ◌∙◌, subst, arith, ◌⊎◌, inl, inr, max, Bool, true, false}
use Rattle.std.specs.Prelude.{codes, decimal, Option, None, Some, Err, nat_lt, if◌then◌else◌}
use Rattle.std.proofs.lemmas.Bool.{ltb-true, ltb-false}
use Rattle.std.proofs.lemmas.List.{append_assoc, append-nil, length-append}
use Rattle.line_grammar.specs.Language.{AnyOf, Stops, IsRead, IsReadTo, IsStuck}
use Rattle.line_grammar.specs.Parts.{IsPart}
use Rattle.line_grammar.specs.Words.{Either}
use Rattle.line_grammar.proofs.Pairs.{one_then}
use Rattle.line_grammar.proofs.NumberFacts.{starts}
use Rattle.line_grammar.proofs.Readings.{stuck_renamed}
use Rattle.line_grammar.proofs.WordFacts.{lacking_part, either_read}
use Rattle.tp_base.specs.declared.answers.Entry.{Entry}
use Rattle.tp_base.specs.declared.ids.Who.{Who}
use Rattle.tp_base.specs.declared.ids.Who.TheVariants.{Client, Worker}
use Rattle.tp_lines.specs.Answers.{EntryLines, IsEntryLine, line_of_entry, text_of_answer}
use Rattle.tp_lines.specs.Calls.{CallLines, line_of_call, row_of}
use Rattle.tp_lines.specs.Parts.{row_text}
use Rattle.tp_lines.specs.Words.{text_of_who}
use Rattle.tp_lines.proofs.Bounds.{decimal_short, stuck_short}
use Rattle.tp_lines.proofs.EntryFacts.{entries_part}
use Rattle.tp_lines.proofs.Feeds.{line_feedless}
use Rattle.tp_lines.proofs.WhoFacts.{lines_part}
use Rattle.tp_report.specs.declared.headers.Format.{Format}
use Rattle.tp_report.specs.declared.headers.Format.TheVariants.{One, Two}
use Rattle.tp_report.specs.declared.headers.Header.{Header}
use Rattle.tp_report.specs.declared.lines.Line.{Line}
use Rattle.tp_report.specs.Histories.{AreObjects, HasEntryLine, HasMoment, HeaderLines, IsLine, Lines, NextLines, end_line, mark_of, objects_text}
use Rattle.line_grammar.specs.Traces.{Ended}
use Rattle.tp_report.specs.Readings.{Ends}
use Rattle.tp_report.proofs.Feeds.{IsFree, free_append, free_decimal}
use Rattle.tp_report.proofs.FreeLines.{entry_free, end_free}
use Rattle.tp_report.proofs.HeaderFacts.{headers_part}
use Rattle.tp_report.proofs.LineFacts.{line_free, line_short, line_unique, line_with}

-- headers and entries, with a line feed behind them
mark_free : (format : Format) → IsFree (mark_of format)
mark_free One = refl
mark_free Two = refl

objects_free : (format : Format) (objects : ℕ) → AreObjects format objects → IsFree (objects_text format objects)
objects_free One objects h = refl
objects_free Two objects h = free_decimal objects (omega (arith, h.1))

header_free : (header : Header) (line : List ℕ) → HeaderLines header line → IsFree line
header_free header line h =
    let objects : List ℕ = objects_text header.format header.objects in
    subst (λ t. IsFree t) (sym h.split)
    (free_append (mark_of header.format) (codes " clients " ++ (decimal header.clients ++ (codes " workers " ++ (decimal header.workers ++ (codes " events " ++ (decimal header.events ++ objects)))))) (mark_free header.format)
    (free_append (decimal header.clients) (codes " workers " ++ (decimal header.workers ++ (codes " events " ++ (decimal header.events ++ objects)))) (free_decimal header.clients (omega (arith, h.clients_most)))
    (free_append (decimal header.workers) (codes " events " ++ (decimal header.events ++ objects)) (free_decimal header.workers (omega (arith, h.workers_most)))
    (free_append (decimal header.events) objects (free_decimal header.events (omega (arith, h.events_most))) (objects_free header.format header.objects h.objects_in_range)))))

pub header_part : IsPart 10 HeaderLines
header_part = lacking_part 10 HeaderLines headers_part.unique header_free

pub entry_part : IsPart 10 EntryLines
entry_part = lacking_part 10 EntryLines entries_part.unique entry_free

pub call_part : IsPart 10 CallLines
call_part = lacking_part 10 CallLines lines_part.unique line_feedless

-- no entry begins as the end line does
letter_apart : (who : Who) (back more rest : List ℕ) → (text_of_who who ++ back) ++ more ≡ 101 ∷ rest → ⊥
letter_apart (Client number) back more rest e = omega (arith, ap (λ t. get_or t 0 0) e)
letter_apart (Worker number) back more rest e = omega (arith, ap (λ t. get_or t 0 0) e)

pub entry_apart : (entry : Entry) (line more rest : List ℕ) → IsEntryLine entry line → line ++ more ≡ 101 ∷ rest → ⊥
entry_apart entry line more rest h e =
    let arrow = codes " -> " in
    let answer = text_of_answer entry.answer in
    let behind = (arrow ++ answer) ++ more in
    letter_apart entry.who (32 ∷ row_text (row_of entry.call)) behind rest
    (sym (ap (λ l. l ++ more) (h.split ∙ append_assoc (line_of_call entry.who entry.call) arrow answer) ∙ append_assoc (line_of_call entry.who entry.call) (arrow ++ answer) more)
    ∙ e)

digit_apart : (moment : ℕ) → moment < 2 ^ 64 → (digits behind rest : List ℕ) → digits ≡ decimal moment → digits ++ 32 ∷ behind ≡ 101 ∷ rest → ⊥
digit_apart moment bound [] behind rest is e = omega (arith, ap (λ t. get_or t 0 0) e)
digit_apart moment bound (x ∷ digits) behind rest is e = omega (arith, ap (λ t. get_or t 0 0) e, (starts moment x digits bound (sym is)).1)

with_apart : (format : Format) (moment : Option ℕ) (entry : Entry) (more rest : List ℕ) → HasMoment format moment → HasEntryLine entry → line_with moment entry ++ more ≡ 101 ∷ rest → ⊥
with_apart format None entry more rest m h e = entry_apart entry (line_of_entry entry) more rest h e
with_apart One (Some moment) entry more rest m h e = absurd m
with_apart Two (Some moment) entry more rest m h e =
    digit_apart moment (omega (arith, m)) (decimal moment) (line_of_entry entry ++ more) rest refl
    (sym (ap (λ l. l ++ more) (append_assoc (decimal moment) (32 ∷ []) (line_of_entry entry)) ∙ append_assoc (decimal moment) (32 ∷ line_of_entry entry) more) ∙ e)

pub line_apart : (format : Format) (line : Line) (text more rest : List ℕ) → IsLine format line text → text ++ more ≡ 101 ∷ rest → ⊥
line_apart format line text more rest h e = with_apart format line.moment line.entry more rest h.has_moment h.has_entry (ap (λ l. l ++ more) (sym h.split) ∙ e)

-- the lines behind a header and entries
next_unique : (header : Header) (len : ℕ) (v w : Option Line) (text : List ℕ) → NextLines header len v text → NextLines header len w text → v ≡ w
next_unique header len (Some a) (Some b) text p q = ap (λ x. Some x) (line_unique header.format a b text p.1 q.1)
next_unique header len (Some a) None text p q = absurd (line_apart header.format a text [] (codes "nd " ++ decimal len) p.1 (append-nil text ∙ q))
next_unique header len None (Some b) text p q = absurd (line_apart header.format b text [] (codes "nd " ++ decimal len) q.1 (append-nil text ∙ p))
next_unique header len None None text p q = refl

next_free : (header : Header) (len : ℕ) → len < 2 ^ 64 → (v : Option Line) (line : List ℕ) → NextLines header len v line → IsFree line
next_free header len bound (Some line) text h = line_free header.format line text h.1
next_free header len bound None text h = subst (λ t. IsFree t) (sym h) (end_free len bound)

pub next_part : (header : Header) (len : ℕ) → len < 2 ^ 64 → IsPart 10 (NextLines header len)
next_part header len bound = lacking_part 10 (NextLines header len) (next_unique header len) (next_free header len bound)

-- what the next line is
module _ (header : Header) (len : ℕ) where
  abbrev Next : Option Line → List ℕ → Type 0
  Next = Ended (NextLines header len)

  next_cases : (value : Option Line) (text : List ℕ) → Next value text → ((len < header.events) × AnyOf (Ended (Lines header.format)) text) ⊎ (text ≡ end_line len ++ 10 ∷ [])
  next_cases (Some line) text n = inl (n.is_line.0, (line, record { line = n.line; is_line = n.is_line.1; split = n.split }))
  next_cases None text n = inr (n.split ∙ ap (λ l. l ++ 10 ∷ []) n.is_line)

  -- an ended entry line doesn't begin as the end line does
  ended_apart : (value : Line) (text more rest : List ℕ) → Ended (Lines header.format) value text → text ++ more ≡ 101 ∷ rest → ⊥
  ended_apart value text more rest t e =
      line_apart header.format value t.line (10 ∷ [] ++ more) rest t.is_line (sym (append_assoc t.line (10 ∷ []) more) ∙ ap (λ l. l ++ more) (sym t.split) ∙ e)

  pub next_line : (text : List ℕ) (line : Line) (n : ℕ) → len < header.events → IsReadTo (Ended (Lines header.format)) text line n → IsReadTo Next text (Some line) n
  next_line text line n less read = let t = read.text_of in record {
    within = read.within;
    text_of = record { line = t.line; is_line = (less, t.is_line); split = t.split };
    stops = stops (drop n text) read.stops;
  }
    where
      stops : (rest : List ℕ) → Stops (AnyOf (Ended (Lines header.format))) (take n text) rest → Stops (AnyOf Next) (take n text) rest
      stops [] s = tt
      stops (x ∷ rest) s = λ (more, (v, a)).
          elim (next_cases v ((take n text ++ x ∷ []) ++ more) a) [
            | inl l ↦ s (more, l.1)
            | inr e ↦ ended_apart line (take n text) (x ∷ more) (codes "nd " ++ (decimal len ++ 10 ∷ [])) read.text_of (sym (one_then (take n text) x more) ∙ e ∙ refl)
          ]

  pub next_end : (text : List ℕ) (n : ℕ) → IsReadTo (Ends len) text None n → IsReadTo Next text None n
  next_end text n read = record {
    within = read.within;
    text_of = record { line = end_line len; is_line = refl; split = read.text_of.split };
    stops = stops (drop n text) read.stops;
  }
    where
      stops : (rest : List ℕ) → Stops (AnyOf (Ends len)) (take n text) rest → Stops (AnyOf Next) (take n text) rest
      stops [] s = tt
      stops (x ∷ rest) s = λ (more, (v, a)).
          elim (next_cases v ((take n text ++ x ∷ []) ++ more) a) [
            | inl l ↦ ended_apart l.1.0 ((take n text ++ x ∷ []) ++ more) [] (codes "nd " ++ (decimal len ++ 10 ∷ x ∷ more)) l.1.1
                (append-nil ((take n text ++ x ∷ []) ++ more) ∙ one_then (take n text) x more ∙ ap (λ l. l ++ x ∷ more) read.text_of.split ∙ append_assoc (end_line len) (10 ∷ []) (x ∷ more))
            | inr e ↦ s (more, (None, record { means = refl; split = e }))
          ]

  -- lines of entries, as values of the next line
  abbrev Another : Option Line → List ℕ → Type 0
  Another (Some line) text = Ended (Lines header.format) line text
  Another None text = ⊥

  another_back : (v : Option Line) (text : List ℕ) → Another v text → AnyOf (Ended (Lines header.format)) text
  another_back (Some line) text a = (line, a)
  another_back None text a = absurd a

  both_back : (v : Option Line) (text : List ℕ) → Next v text → AnyOf (Either Another (Ends len)) text
  both_back (Some line) text n = (Some line, inl (record { line = n.line; is_line = n.is_line.1; split = n.split }))
  both_back None text n = (None, inr (record { means = refl; split = n.split ∙ ap (λ l. l ++ 10 ∷ []) n.is_line }))

  both_to : len < header.events → (v : Option Line) (text : List ℕ) → Either Another (Ends len) v text → AnyOf Next text
  both_to less (Some line) text (inl a) = (Some line, record { line = a.line; is_line = (less, a.is_line); split = a.split })
  both_to less None text (inl a) = absurd a
  both_to less v text (inr w) = (None, record { line = end_line len; is_line = refl; split = w.split })

  further_is : (text : List ℕ) (i j : ℕ) (b : Bool) → nat_lt i j ≡ b → IsRead (Either Another (Ends len)) text (if b then Err j else Err i) → IsStuck (Either Another (Ends len)) text (max i j)
  further_is text i j true e r = let at : j ≡ max i j = omega (arith, ltb-true i j e) in subst (λ k. IsStuck (Either Another (Ends len)) text k) at r
  further_is text i j false e r = let at : i ≡ max i j = omega (arith, ltb-false i j e) in subst (λ k. IsStuck (Either Another (Ends len)) text k) at r

  pub next_stuck : (text : List ℕ) (i j : ℕ) → len < header.events → IsStuck (Ended (Lines header.format)) text i → IsStuck (Ends len) text j → IsStuck Next text (max i j)
  next_stuck text i j less lines ends =
      let another = stuck_renamed (Ended (Lines header.format)) Another another_back text i (λ v t a. (Some v, a)) lines in
      stuck_renamed (Either Another (Ends len)) Next both_back text (max i j) (both_to less)
      (further_is text i j (nat_lt i j) refl (either_read Another (Ends len) text (Err i) (Err j) another ends))

-- no line of a history is long
mark_short : (format : Format) → length (mark_of format) ≡ 9
mark_short One = refl
mark_short Two = refl

objects_short : (format : Format) (objects : ℕ) → AreObjects format objects → length (objects_text format objects) ≤ 29
objects_short One objects h = omega arith
objects_short Two objects h = omega (arith, decimal_short objects (omega (arith, h.1)))

header_short : (header : Header) (line : List ℕ) → HeaderLines header line → length line ≤ 730
header_short header line h =
    let c = decimal header.clients in let w = decimal header.workers in let e = decimal header.events in
    let o = objects_text header.format header.objects in
    omega (
      arith,
      ap length h.split,
      length-append (mark_of header.format) (codes " clients " ++ (c ++ (codes " workers " ++ (w ++ (codes " events " ++ (e ++ o)))))),
      length-append c (codes " workers " ++ (w ++ (codes " events " ++ (e ++ o)))),
      length-append w (codes " events " ++ (e ++ o)),
      length-append e o,
      mark_short header.format,
      decimal_short header.clients (omega (arith, h.clients_most)),
      decimal_short header.workers (omega (arith, h.workers_most)),
      decimal_short header.events (omega (arith, h.events_most)),
      objects_short header.format header.objects h.objects_in_range,
    )

next_short : (header : Header) (len : ℕ) → len < 2 ^ 64 → (v : Option Line) (text : List ℕ) → NextLines header len v text → length text ≤ 730
next_short header len bound (Some line) text h = line_short header.format line text h.1
next_short header len bound None text h = omega (arith, ap length h, decimal_short len bound)

ended_short : {V : Type 0} (W : V → List ℕ → Type 0) → ((v : V) (line : List ℕ) → W v line → length line ≤ 730) → (v : V) (text : List ℕ) → Ended W v text → length text ≤ 731
ended_short W short v text e = omega (arith, ap length e.split, length-append e.line (10 ∷ []), short v e.line e.is_line)

pub header_place : (text : List ℕ) (place : ℕ) → IsStuck (Ended HeaderLines) text place → place ≤ 731
header_place text place stuck = stuck_short (Ended HeaderLines) 731 (ended_short HeaderLines header_short) text place stuck

pub next_place : (header : Header) (len : ℕ) → len < 2 ^ 64 → (text : List ℕ) (place : ℕ) → IsStuck (Ended (NextLines header len)) text place → place ≤ 731
next_place header len bound text place stuck = stuck_short (Ended (NextLines header len)) 731 (ended_short (NextLines header len) (next_short header len bound)) text place stuck
