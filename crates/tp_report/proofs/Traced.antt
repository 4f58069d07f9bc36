-- How far a trace has been read, and played.
use Rattle.std.proofs.Common.{◌≡◌, ℕ, ◌+◌, ◌<◌, ◌≤◌, List, [], ◌∷◌, ◌++◌, length, take, drop, max, refl, sym, ap, ap₂, ◌∙◌, subst, arith, append_assoc, length-append}
use Rattle.std.specs.Prelude.{map, fold}
use Rattle.std.proofs.lemmas.List.{append-nil, nil_from_length, length-map, length-take-le, take-append-drop}
use Rattle.std.proofs.lemmas.List.Elements.{All-nil, All-push, All-head, All-tail, All-map, All-weaker}
use Rattle.std.proofs.Math.Seq.{drop-append_seam}
use Rattle.line_grammar.specs.Language.{IsReadTo as IsReadAs, IsStuck}
use Rattle.line_grammar.specs.Traces.{Ended, trace_text, IsAhead, IsTraceFault}
use Rattle.recorded.specs.ProgramLimits.{program_limits}
use Rattle.recorded.specs.Recordings.{Recording, IsFirstOf, entries_of, entries_told, outcomes_behind, recorded}
use Rattle.tp_base.specs.declared.answers.Outcome.{Outcome}
use Rattle.tp_base.specs.declared.calls.Call.{Call}
use Rattle.tp_base.specs.declared.ids.Who.{Who}
use Rattle.tp_base.specs.declared.ids.Who.TheVariants.{Client, Worker}
use Rattle.tp_lines.specs.Answers.{text_of_outcome}
use Rattle.tp_lines.specs.Calls.{client_number, CallLines, IsLine, IsWhoInRange}
use Rattle.tp_model.specs.History.{play}
use Rattle.tp_report.specs.Playing.{book_of, IsPlayed, IsPlayedOf, IsPlayedTo, IsReadTo}
use Rattle.tp_report.specs.declared.playing.MachineSize.{MachineSize}
use Rattle.tp_report.specs.Traces.{line_of, HasLine, IsTraceOf, answers_text}
use Rattle.tp_report.specs.declared.playing.Played.{Played}
use Rattle.line_grammar.proofs.EndedFacts.{ahead_read, read_first, stuck_first, reaches_line, absent_line}
use Rattle.tp_report.proofs.Places.{call_part}

-- ---- read

abbrev pub lines_of : List (Who × Call) → List ℕ
lines_of calls = trace_text (map line_of calls)

lines_of-append : (calls more : List (Who × Call)) → lines_of (calls ++ more) ≡ lines_of calls ++ lines_of more
lines_of-append [] more = refl
lines_of-append (made ∷ calls) more =
    ap (λ t. line_of made ++ 10 ∷ t) (lines_of-append calls more)
    ∙ sym (append_assoc (line_of made) (10 ∷ lines_of calls) (lines_of more))

-- each line has at least its line feed
lines_of-length : (calls : List (Who × Call)) → length calls ≤ length (lines_of calls)
lines_of-length [] = omega arith
lines_of-length (made ∷ calls) = omega (arith, lines_of-length calls, length-append (line_of made) (10 ∷ lines_of calls))

-- the lines of calls are lines
is_line : (made : Who × Call) → HasLine made → IsLine (line_of made)
is_line made h = (made, h)

has_line : (made : Who × Call) (line : List ℕ) → CallLines made line → HasLine made
has_line made line h = subst (λ l. CallLines made l) h.split h

read_none : (bytes : List ℕ) → IsReadTo bytes [] bytes
read_none bytes = record { have_lines = All-nil HasLine; split = refl; only = λ all trace. (all, refl, trace) }

read_count : (bytes : List ℕ) (calls : List (Who × Call)) (rest : List ℕ) → IsReadTo bytes calls rest → length calls + length rest ≤ length bytes
read_count bytes calls rest r = omega (arith, ap length r.split, length-append (lines_of calls) rest, lines_of-length calls)

module _ (bytes : List ℕ) (calls : List (Who × Call)) (rest : List ℕ) (r : IsReadTo bytes calls rest) where
  read_next : (made : Who × Call) (size : ℕ) → IsReadAs (Ended CallLines) rest made size → IsReadTo bytes (calls ++ made ∷ []) (drop size rest)
  read_next made size read =
      let t = read.text_of in
      let first : rest ≡ (line_of made ++ 10 ∷ []) ++ drop size rest
      = sym (take-append-drop size rest) ∙ ap (λ l. l ++ drop size rest) (t.split ∙ ap (λ l. l ++ 10 ∷ []) t.is_line.split) in
      record {
        have_lines = All-push HasLine calls made r.have_lines (has_line made t.line t.is_line);
        split = r.split ∙ ap (λ l. lines_of calls ++ l) first
            ∙ sym (append_assoc (lines_of calls) (line_of made ++ 10 ∷ []) (drop size rest))
            ∙ ap (λ l. l ++ drop size rest) (sym (lines_of-append calls (made ∷ [])));
        only = λ all trace. (let behind = r.only all trace in next_only first all behind.0 behind.1 behind.2);
      }
    where
      next_only : rest ≡ (line_of made ++ 10 ∷ []) ++ drop size rest → (all tail : List (Who × Call)) → all ≡ calls ++ tail → IsTraceOf rest tail
          → (more : List (Who × Call)) × (all ≡ (calls ++ made ∷ []) ++ more) × IsTraceOf (drop size rest) more
      next_only first all [] e trace =
          absurd (omega (arith, ap length trace.split, ap length first, length-append (line_of made ++ 10 ∷ []) (drop size rest), length-append (line_of made) (10 ∷ [])))
      next_only first all (m ∷ tail) e trace =
          let s = read_first CallLines call_part rest made size read m (line_of m) (lines_of tail) (All-head HasLine m tail trace.have_lines) trace.split in (
            tail,
            e ∙ ap (λ x. calls ++ x ∷ tail) (sym s.0) ∙ sym (append_assoc calls (made ∷ []) tail),
            record { have_lines = All-tail HasLine m tail trace.have_lines; split = s.1 },
          )

  read_fault : (place : ℕ) → 0 < length rest → IsStuck (Ended CallLines) rest place → IsTraceFault IsLine bytes (length calls + 1) (place + 1)
  read_fault place more stuck =
      let size : length (take place rest) ≡ place = length-take-le place rest stuck.within in
      record {
        lines = map line_of calls;
        front = take place rest;
        back = drop place rest;
        each = All-map IsLine line_of calls (All-weaker HasLine (λ made. IsLine (line_of made)) is_line calls r.have_lines);
        split = r.split ∙ ap (λ l. lines_of calls ++ l) (sym (take-append-drop place rest));
        left = λ none. omega (arith, more, ap length (take-append-drop place rest), ap length none);
        open_line = absent_line CallLines call_part (take place rest) stuck.absent;
        reaches = reaches_line CallLines call_part (take place rest) (drop place rest) stuck.reaches;
        line_of = omega (arith, length-map calls line_of);
        column_of = omega (arith, size);
      }

  -- where what is left begins with no line, the bytes are no trace
  read_no : (place : ℕ) → 0 < length rest → IsStuck (Ended CallLines) rest place → (all : List (Who × Call)) → IsTraceOf bytes all → ⊥
  read_no place more stuck all trace = let behind = r.only all trace in of_tail behind.0 behind.2
    where
      of_tail : (tail : List (Who × Call)) → IsTraceOf rest tail → ⊥
      of_tail [] t = omega (arith, more, ap length t.split)
      of_tail (m ∷ tail) t = stuck_first CallLines call_part rest place stuck m (line_of m) (lines_of tail) (All-head HasLine m tail t.have_lines) t.split

  read_all : length rest ≡ 0 → IsTraceOf bytes calls
  read_all none = record { have_lines = r.have_lines; split = r.split ∙ ap (λ t. lines_of calls ++ t) (nil_from_length rest none) ∙ append-nil (lines_of calls) }

  read_only : length rest ≡ 0 → (all : List (Who × Call)) → IsTraceOf bytes all → calls ≡ all
  read_only none all trace = let behind = r.only all trace in of_tail behind.0 behind.1 behind.2
    where
      of_tail : (tail : List (Who × Call)) → all ≡ calls ++ tail → IsTraceOf rest tail → calls ≡ all
      of_tail [] e t = sym (e ∙ append-nil calls)
      of_tail (m ∷ tail) e t = absurd (omega (arith, none, ap length t.split, length-append (line_of m) (10 ∷ lines_of tail)))

-- ---- played

number_most : (who : Who) → IsWhoInRange who → client_number who ≤ 16
number_most (Client number) h = h.1
number_most (Worker number) h = omega arith

pub played_none : (machine : MachineSize) (clients : ℕ) (bytes : List ℕ) (book : Recording) (text : List ℕ) → book.limits ≡ program_limits clients machine.workers → book.capacity ≡ machine.events → book.history ≡ [] → text ≡ []
    → IsPlayedTo machine clients bytes book text 0 0 bytes
played_none machine clients bytes book text limits capacity empty none =
    let limits_are = program_limits clients machine.workers in
    let opened : book ≡ record { limits = limits_are; capacity = machine.events; history = [] }
    = ap₂ (λ l n. record book { limits = l; capacity = n }) limits capacity ∙ ap (λ h. record { limits = limits_are; capacity = machine.events; history = h }) empty in
    record {
      calls = [];
      read = read_none bytes;
      counts = refl;
      told = λ more. ap (λ t. t ++ answers_text (outcomes_behind book more)) none ∙ ap (λ r. answers_text (outcomes_behind r more)) opened;
      limits = limits;
      capacity = capacity;
      written = λ more. ap (λ (r : Recording). r.history ++ entries_of more (outcomes_behind r more)) opened;
      greatest_is = refl;
      most = omega arith;
    }

clients_push : (calls : List (Who × Call)) (made : Who × Call) (least : ℕ)
    → fold (λ greatest (m : Who × Call). max greatest (client_number m.0)) least (calls ++ made ∷ []) ≡ max (fold (λ greatest (m : Who × Call). max greatest (client_number m.0)) least calls) (client_number made.0)
clients_push [] made least = refl
clients_push (m ∷ calls) made least = clients_push calls made (max least (client_number m.0))

module _ (machine : MachineSize) (clients : ℕ) (bytes : List ℕ) (book : Recording) (text : List ℕ) (greatest lines : ℕ) (rest : List ℕ) (p : IsPlayedTo machine clients bytes book text greatest lines rest) where
  pub played_few : lines + length rest ≤ length bytes
  played_few = omega (arith, p.counts, read_count bytes p.calls rest p.read)

  pub played_next : (new : Recording) (made : Who × Call) (size next : ℕ) (outcome : Outcome) (longer : List ℕ) → IsReadAs (Ended CallLines) rest made size → new ≡ recorded book made.0 made.1 outcome → IsFirstOf book new made.0 made.1 outcome
      → longer ≡ text ++ (text_of_outcome outcome ++ 10 ∷ []) → next ≡ max greatest (client_number made.0) → IsPlayedTo machine clients bytes new longer next (lines + 1) (drop size rest)
  played_next new made size next outcome longer read made_is first line is = record {
    calls = p.calls ++ made ∷ [];
    read = read_next bytes p.calls rest p.read made size read;
    counts = omega (arith, p.counts, length-append p.calls (made ∷ []));
    told = λ more.
        let behind = answers_text (outcomes_behind new more) in
        ap (λ t. t ++ behind) line
        ∙ append_assoc text (text_of_outcome outcome ++ 10 ∷ []) behind
        ∙ ap (λ t. text ++ t) (append_assoc (text_of_outcome outcome) (10 ∷ []) behind ∙ ap (λ os. answers_text os) (sym (first more)))
        ∙ p.told (made ∷ more)
        ∙ ap (λ cs. answers_text (play (program_limits clients machine.workers) machine.events cs)) (sym (append_assoc p.calls (made ∷ []) more));
    limits = ap (λ (r : Recording). r.limits) made_is ∙ p.limits;
    capacity = ap (λ (r : Recording). r.capacity) made_is ∙ p.capacity;
    written = λ more.
        let entries = entries_told made.0 made.1 outcome in
        let behind = outcomes_behind new more in
        ap (λ (r : Recording). r.history ++ entries_of more behind) made_is
        ∙ append_assoc book.history entries (entries_of more behind)
        ∙ ap (λ os. book.history ++ entries_of (made ∷ more) os) (sym (first more))
        ∙ p.written (made ∷ more)
        ∙ ap (λ cs. entries_of cs (play (program_limits clients machine.workers) machine.events cs)) (sym (append_assoc p.calls (made ∷ []) more));
    greatest_is = is ∙ ap (λ n. max n (client_number made.0)) p.greatest_is ∙ sym (clients_push p.calls made 0);
    most = omega (arith, is, p.most, number_most made.0 read.text_of.is_line.who_in_range);
  }

  -- the line of a call stands there once more
  pub played_again : (new : Recording) (made : Who × Call) (line behind longer : List ℕ) (outcome : Outcome) → Ended CallLines made line → rest ≡ line ++ behind → new ≡ recorded book made.0 made.1 outcome → IsFirstOf book new made.0 made.1 outcome
      → longer ≡ text ++ (text_of_outcome outcome ++ 10 ∷ []) → client_number made.0 ≤ greatest → IsPlayedTo machine clients bytes new longer greatest (lines + 1) behind
  played_again new made line behind longer outcome e split made_is first printed most =
      let size = length line in
      let dropped : drop size rest ≡ behind = ap (drop size) split ∙ drop-append_seam line behind in
      let ahead : IsAhead CallLines rest made size
      = record {
        line = e.line;
        is_line = e.is_line;
        split = split ∙ ap (λ l. l ++ behind) e.split ∙ append_assoc e.line (10 ∷ []) behind ∙ ap (λ l. e.line ++ 10 ∷ l) (sym dropped);
        size_of = ap length e.split ∙ length-append e.line (10 ∷ []);
        within = omega (arith, ap length split, length-append line behind);
      } in
      subst (λ r. IsPlayedTo machine clients bytes new longer greatest (lines + 1) r) dropped
      (played_next new made size greatest outcome longer (ahead_read CallLines call_part rest made size ahead) made_is first printed (omega (arith, most)))

  pub played_fault : (place : ℕ) → 0 < length rest → IsStuck (Ended CallLines) rest place → IsTraceFault IsLine bytes (lines + 1) (place + 1)
  played_fault place more stuck = subst (λ n. IsTraceFault IsLine bytes (n + 1) (place + 1)) (sym p.counts) (read_fault bytes p.calls rest p.read place more stuck)

  pub played_no : (place : ℕ) → 0 < length rest → IsStuck (Ended CallLines) rest place → (all : List (Who × Call)) → IsTraceOf bytes all → ⊥
  played_no = read_no bytes p.calls rest p.read

  text_is : text ≡ answers_text (play (program_limits clients machine.workers) machine.events p.calls)
  text_is = sym (append-nil text) ∙ p.told [] ∙ ap (λ cs. answers_text (play (program_limits clients machine.workers) machine.events cs)) (append-nil p.calls)

  book_is : book ≡ book_of (program_limits clients machine.workers) machine.events p.calls
  book_is =
      let written = sym (append-nil book.history) ∙ p.written [] ∙ ap (λ cs. entries_of cs (play (program_limits clients machine.workers) machine.events cs)) (append-nil p.calls) in
      ap₂ (λ l n. record book { limits = l; capacity = n }) p.limits p.capacity ∙ ap (λ h. record { limits = program_limits clients machine.workers; capacity = machine.events; history = h }) written

  is_played : (played : Played) → played.text.items ≡ text → played.clients ≡ greatest → IsPlayedOf machine clients p.calls book played
  is_played played same count = record { book_is = book_is; text_is = same ∙ text_is; greatest = count ∙ p.greatest_is }

  pub played_all : (played : Played) → played.text.items ≡ text → played.clients ≡ greatest → length rest ≡ 0 → IsPlayed machine clients bytes book played
  played_all played same count none = record { calls = p.calls; is_trace = read_all bytes p.calls rest p.read none; is_played = is_played played same count }

  pub played_only : (played : Played) → played.text.items ≡ text → played.clients ≡ greatest → length rest ≡ 0 → (all : List (Who × Call)) → IsTraceOf bytes all → IsPlayedOf machine clients all book played
  played_only played same count none all trace = subst (λ cs. IsPlayedOf machine clients cs book played) (read_only bytes p.calls rest p.read none all trace) (is_played played same count)
