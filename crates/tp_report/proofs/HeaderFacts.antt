-- The first line of a history, from its parts.
use Rattle.std.proofs.Common.{◌≡◌, ℕ, ◌+◌, List, [], ◌∷◌, ◌++◌, length, drop, get_or, refl, sym, ap, ◌∙◌, subst, arith, length-append, inl, inr}
use Rattle.std.specs.Prelude.{codes, decimal, Result}
use Rattle.line_grammar.specs.Language.{AnyOf, IsRead, IsReadTo, IsStuck}
use Rattle.line_grammar.specs.Parts.{Pairs, Opens, IsPart, IsTail}
use Rattle.line_grammar.specs.Words.{Word, further_of}
use Rattle.line_grammar.proofs.Pairs.{pairs_read, pairs_stuck_first, pairs_stuck_second, pairs_part}
use Rattle.line_grammar.proofs.Readings.{part_renamed, read_renamed, stuck_renamed}
use Rattle.line_grammar.proofs.WordFacts.{further_read}
use Rattle.recorded.specs.declared.TheConstants.{OBJECT_LIMIT}
use Rattle.tp_report.specs.declared.headers.Format.{Format}
use Rattle.tp_report.specs.declared.headers.Format.TheVariants.{One, Two}
use Rattle.tp_report.specs.declared.headers.Header.{Header}
use Rattle.tp_report.specs.declared.headers.TheConstants.{EVENT_LIMIT}
use Rattle.tp_report.specs.Histories.{AreObjects, HeaderLines, mark_of, objects_text}
use Rattle.tp_report.specs.Readings.{Counts, Keyed, Marks, Objects, Rooms, Sizes}
use Rattle.tp_report.proofs.Keys.{keyed_part, keyed_tail, word_part}

-- a part, and one behind it that its value may choose
module _ {V U : Type 0} (P : V → List ℕ → Type 0) (R : V → U → List ℕ → Type 0) (part : IsPart 32 P) (tails : (v : V) → IsTail 32 (R v)) where
  first_stuck : (text : List ℕ) (k : ℕ) → IsStuck P text k → IsStuck (Pairs P R) text k
  first_stuck text k stuck = pairs_stuck_first 32 P R part tails text k stuck

  second_stuck : (text : List ℕ) (v : V) (n : ℕ) → IsReadTo P text v n → (rest : List ℕ) → rest ≡ drop n text → (k : ℕ) → IsStuck (R v) rest k → IsStuck (Pairs P R) text (n + k)
  second_stuck text v n first rest e k stuck = pairs_stuck_second 32 P R part tails text v n first k (subst (λ l. IsStuck (R v) l k) e stuck)

  both_read : (text : List ℕ) (v : V) (n : ℕ) → IsReadTo P text v n → (rest : List ℕ) → rest ≡ drop n text → (u : U) (m : ℕ) → IsReadTo (R v) rest u m → IsReadTo (Pairs P R) text (v, u) (n + m)
  both_read text v n first rest e u m second = pairs_read 32 P R part tails text v n first u m (subst (λ l. IsReadTo (R v) l u m) e second)

  both_open : (front back : List ℕ) → Opens 32 front → Opens 32 back → Opens 32 (front ++ back)
  both_open [] back f b = b
  both_open (x ∷ front) back f b = f

  both_tail : IsTail 32 P → IsTail 32 (Pairs P R)
  both_tail first = record {
    opens = λ (v, u) text pair. subst (λ l. Opens 32 l) (sym pair.split) (both_open pair.front pair.back (first.opens v pair.front pair.first) ((tails v).opens u pair.back pair.second));
    some = let a = first.some in let b = (tails a.0).some in
        ((a.0, b.0), a.1 ++ b.1, record { front = a.1; back = b.1; split = refl; first = a.2; second = b.2 });
  }

-- ---- the numbers

abbrev Clients : ℕ → List ℕ → Type 0
Clients = Keyed (codes " clients") 0 16

abbrev Workers : ℕ → List ℕ → Type 0
Workers = Keyed (codes " workers") 1 64

abbrev Events : ℕ → List ℕ → Type 0
Events = Keyed (codes " events") 16 EVENT_LIMIT

clients_part : IsPart 32 Clients
clients_part = keyed_part (codes " clients") 0 16 (omega arith) (omega arith)

workers_part : IsPart 32 Workers
workers_part = keyed_part (codes " workers") 1 64 (omega arith) (omega arith)

events_part : IsPart 32 Events
events_part = keyed_part (codes " events") 16 EVENT_LIMIT (omega arith) (omega arith)

objects_part : (format : Format) → IsPart 32 (Objects format)
objects_part One = word_part 4095 32 []
objects_part Two = keyed_part (codes " objects") 1 OBJECT_LIMIT (omega arith) (omega arith)

objects_tail : (format : Format) → IsTail 32 (Objects format)
objects_tail One = record { opens = λ v text w. subst (λ l. Opens 32 l) (sym w.split) tt; some = (4095, [], record { means = refl; split = refl }) }
objects_tail Two = keyed_tail (codes " objects") 1 OBJECT_LIMIT (omega arith) (omega arith) (codes "objects") refl

events_tail : IsTail 32 Events
events_tail = keyed_tail (codes " events") 16 EVENT_LIMIT (omega arith) (omega arith) (codes "events") refl

workers_tail : IsTail 32 Workers
workers_tail = keyed_tail (codes " workers") 1 64 (omega arith) (omega arith) (codes "workers") refl

clients_tail : IsTail 32 Clients
clients_tail = keyed_tail (codes " clients") 0 16 (omega arith) (omega arith) (codes "clients") refl

module _ (format : Format) where
  rooms_part : IsPart 32 (Rooms format)
  rooms_part = pairs_part 32 Events (λ events. Objects format) events_part (λ events. objects_tail format) (λ events. objects_part format)

  rooms_tail : IsTail 32 (Rooms format)
  rooms_tail = both_tail Events (λ events. Objects format) events_part (λ events. objects_tail format) events_tail

  sizes_part : IsPart 32 (Sizes format)
  sizes_part = pairs_part 32 Workers (λ workers. Rooms format) workers_part (λ workers. rooms_tail) (λ workers. rooms_part)

  sizes_tail : IsTail 32 (Sizes format)
  sizes_tail = both_tail Workers (λ workers. Rooms format) workers_part (λ workers. rooms_tail) workers_tail

  counts_part : IsPart 32 (Counts format)
  counts_part = pairs_part 32 Clients (λ clients. Sizes format) clients_part (λ clients. sizes_tail) (λ clients. sizes_part)

  counts_tail : IsTail 32 (Counts format)
  counts_tail = both_tail Clients (λ clients. Sizes format) clients_part (λ clients. sizes_tail) clients_tail

  pub rooms_stuck_first : (text : List ℕ) (k : ℕ) → IsStuck Events text k → IsStuck (Rooms format) text k
  rooms_stuck_first = first_stuck Events (λ events. Objects format) events_part (λ events. objects_tail format)

  pub rooms_stuck_second : (text : List ℕ) (v n : ℕ) → IsReadTo Events text v n → (rest : List ℕ) → rest ≡ drop n text → (k : ℕ) → IsStuck (Objects format) rest k → IsStuck (Rooms format) text (n + k)
  rooms_stuck_second = second_stuck Events (λ events. Objects format) events_part (λ events. objects_tail format)

  pub rooms_read : (text : List ℕ) (v n : ℕ) → IsReadTo Events text v n → (rest : List ℕ) → rest ≡ drop n text → (u m : ℕ) → IsReadTo (Objects format) rest u m → IsReadTo (Rooms format) text (v, u) (n + m)
  rooms_read = both_read Events (λ events. Objects format) events_part (λ events. objects_tail format)

  pub sizes_stuck_first : (text : List ℕ) (k : ℕ) → IsStuck Workers text k → IsStuck (Sizes format) text k
  sizes_stuck_first = first_stuck Workers (λ workers. Rooms format) workers_part (λ workers. rooms_tail)

  pub sizes_stuck_second : (text : List ℕ) (v n : ℕ) → IsReadTo Workers text v n → (rest : List ℕ) → rest ≡ drop n text → (k : ℕ) → IsStuck (Rooms format) rest k → IsStuck (Sizes format) text (n + k)
  sizes_stuck_second = second_stuck Workers (λ workers. Rooms format) workers_part (λ workers. rooms_tail)

  pub sizes_read : (text : List ℕ) (v n : ℕ) → IsReadTo Workers text v n → (rest : List ℕ) → rest ≡ drop n text → (u : ℕ × ℕ) (m : ℕ) → IsReadTo (Rooms format) rest u m → IsReadTo (Sizes format) text (v, u) (n + m)
  sizes_read = both_read Workers (λ workers. Rooms format) workers_part (λ workers. rooms_tail)

  pub counts_stuck_first : (text : List ℕ) (k : ℕ) → IsStuck Clients text k → IsStuck (Counts format) text k
  counts_stuck_first = first_stuck Clients (λ clients. Sizes format) clients_part (λ clients. sizes_tail)

  pub counts_stuck_second : (text : List ℕ) (v n : ℕ) → IsReadTo Clients text v n → (rest : List ℕ) → rest ≡ drop n text → (k : ℕ) → IsStuck (Sizes format) rest k → IsStuck (Counts format) text (n + k)
  counts_stuck_second = second_stuck Clients (λ clients. Sizes format) clients_part (λ clients. sizes_tail)

  pub counts_read : (text : List ℕ) (v n : ℕ) → IsReadTo Clients text v n → (rest : List ℕ) → rest ≡ drop n text → (u : ℕ × (ℕ × ℕ)) (m : ℕ) → IsReadTo (Sizes format) rest u m → IsReadTo (Counts format) text (v, u) (n + m)
  counts_read = both_read Clients (λ clients. Sizes format) clients_part (λ clients. sizes_tail)

-- ---- the format before them

abbrev First : Format → List ℕ → Type 0
First = Word One (mark_of One)

abbrev Second : Format → List ℕ → Type 0
Second = Word Two (mark_of Two)

pub marks_read : (text : List ℕ) (r q z : Result (Format × ℕ) ℕ) → z ≡ further_of r q → IsRead First text r → IsRead Second text q → IsRead Marks text z
marks_read text r q z e a b = further_read First Second text r q z e a b

mark_size : (format : Format) (text : List ℕ) → Marks format text → length text ≡ 9
mark_size format text (inl a) = ap length a.split
mark_size format text (inr a) = ap length a.split

marks_part : IsPart 32 Marks
marks_part = record { unique = unique; apart = λ v w text more a b. omega (arith, mark_size v text a, mark_size w (text ++ 32 ∷ more) b, length-append text (32 ∷ more)) }
  where
    unique : (v w : Format) (text : List ℕ) → Marks v text → Marks w text → v ≡ w
    unique v w text (inl a) (inl b) = a.means ∙ sym b.means
    unique v w text (inl a) (inr b) = absurd (omega (arith, ap (λ t. get_or t 8 0) (sym a.split ∙ b.split)))
    unique v w text (inr a) (inl b) = absurd (omega (arith, ap (λ t. get_or t 8 0) (sym a.split ∙ b.split)))
    unique v w text (inr a) (inr b) = a.means ∙ sym b.means

mark_there : (format : Format) → Marks format (mark_of format)
mark_there One = inl (record { means = refl; split = refl })
mark_there Two = inr (record { means = refl; split = refl })

mark_is : (format : Format) (text : List ℕ) → Marks format text → text ≡ mark_of format
mark_is format text (inl a) = a.split ∙ ap mark_of (sym a.means)
mark_is format text (inr a) = a.split ∙ ap mark_of (sym a.means)

objects_there : (format : Format) (objects : ℕ) → AreObjects format objects → Objects format objects (objects_text format objects)
objects_there One objects is = record { means = is; split = refl }
objects_there Two objects is = record { at_least = is.0; at_most = is.1; split = refl }

objects_are : (format : Format) (objects : ℕ) (text : List ℕ) → Objects format objects text → AreObjects format objects × (text ≡ objects_text format objects)
objects_are One objects text a = (a.means, a.split)
objects_are Two objects text a = ((a.at_least, a.at_most), a.split)

-- ---- the header

abbrev Row : Type 0
Row = Format × (ℕ × (ℕ × (ℕ × ℕ)))

abbrev Rows : Row → List ℕ → Type 0
Rows = Pairs Marks Counts

abbrev header_of : Row → Header
header_of (format, (clients, (workers, (events, objects)))) = record { format = format; clients = clients; workers = workers; events = events; objects = objects }

header_back : (header : Header) (text : List ℕ) → HeaderLines header text → (p : Row) × Rows p text × (header ≡ header_of p)
header_back header text h =
    let clients : List ℕ = codes " clients" ++ 32 ∷ decimal header.clients in
    let workers : List ℕ = codes " workers" ++ 32 ∷ decimal header.workers in
    let events : List ℕ = codes " events" ++ 32 ∷ decimal header.events in
    let objects : List ℕ = objects_text header.format header.objects in (
      (header.format, (header.clients, (header.workers, (header.events, header.objects)))),
      record {
        front = mark_of header.format;
        back = clients ++ (workers ++ (events ++ objects));
        split = h.split;
        first = mark_there header.format;
        second = record {
          front = clients;
          back = workers ++ (events ++ objects);
          split = refl;
          first = record { at_least = omega arith; at_most = h.clients_most; split = refl };
          second = record {
            front = workers;
            back = events ++ objects;
            split = refl;
            first = record { at_least = h.workers_least; at_most = h.workers_most; split = refl };
            second = record {
              front = events;
              back = objects;
              split = refl;
              first = record { at_least = h.events_least; at_most = h.events_most; split = refl };
              second = objects_there header.format header.objects h.objects_in_range;
            };
          };
        };
      },
      refl,
    )

header_to : (format : Format) (clients workers events objects : ℕ) (text : List ℕ) → Rows (format, (clients, (workers, (events, objects)))) text
    → HeaderLines (header_of (format, (clients, (workers, (events, objects))))) text
header_to format clients workers events objects text pair =
    let c = pair.second in let w = c.second in let e = w.second in
    let told = objects_are format objects e.back e.second in
    let clients_text : List ℕ = codes " clients" ++ 32 ∷ decimal clients in
    let workers_text : List ℕ = codes " workers" ++ 32 ∷ decimal workers in
    let events_text : List ℕ = codes " events" ++ 32 ∷ decimal events in
    let behind_events : e.front ++ e.back ≡ events_text ++ objects_text format objects = ap (λ l. l ++ e.back) e.first.split ∙ ap (λ l. events_text ++ l) told.1 in
    let behind_workers : w.front ++ w.back ≡ workers_text ++ (events_text ++ objects_text format objects) = ap (λ l. l ++ w.back) w.first.split ∙ ap (λ l. workers_text ++ l) (e.split ∙ behind_events) in
    let behind_clients : c.front ++ c.back ≡ clients_text ++ (workers_text ++ (events_text ++ objects_text format objects)) =
    ap (λ l. l ++ c.back) c.first.split ∙ ap (λ l. clients_text ++ l) (w.split ∙ behind_workers) in
    record {
      clients_most = c.first.at_most;
      workers_least = w.first.at_least;
      workers_most = w.first.at_most;
      events_least = e.first.at_least;
      events_most = e.first.at_most;
      objects_in_range = told.0;
      split = pair.split ∙ ap (λ l. l ++ pair.back) (mark_is format pair.front pair.first) ∙ ap (λ l. mark_of format ++ l) (c.split ∙ behind_clients);
    }

header_any : (header : Header) (text : List ℕ) → HeaderLines header text → AnyOf Rows text
header_any header text h = let b = header_back header text h in (b.0, b.1)

any_header : (p : Row) (text : List ℕ) → Rows p text → AnyOf HeaderLines text
any_header (format, (clients, (workers, (events, objects)))) text pair =
    (header_of (format, (clients, (workers, (events, objects)))), header_to format clients workers events objects text pair)

pub header_stuck_first : (text : List ℕ) (k : ℕ) → IsStuck Marks text k → IsStuck HeaderLines text k
header_stuck_first text k stuck = stuck_renamed Rows HeaderLines header_any text k any_header (first_stuck Marks Counts marks_part counts_tail text k stuck)

pub header_stuck_second : (text : List ℕ) (format : Format) (n : ℕ) → IsReadTo Marks text format n → (rest : List ℕ) → rest ≡ drop n text
    → (k : ℕ) → IsStuck (Counts format) rest k → IsStuck HeaderLines text (n + k)
header_stuck_second text format n first rest e k stuck =
    stuck_renamed Rows HeaderLines header_any text (n + k) any_header (second_stuck Marks Counts marks_part counts_tail text format n first rest e k stuck)

pub header_read : (text : List ℕ) (format : Format) (n : ℕ) → IsReadTo Marks text format n → (rest : List ℕ) → rest ≡ drop n text
    → (clients workers events objects m : ℕ) → IsReadTo (Counts format) rest (clients, (workers, (events, objects))) m
    → IsReadTo HeaderLines text (record { format = format; clients = clients; workers = workers; events = events; objects = objects }) (n + m)
header_read text format n first rest e clients workers events objects m second =
    read_renamed Rows HeaderLines header_any text (format, (clients, (workers, (events, objects)))) (header_of (format, (clients, (workers, (events, objects))))) (n + m)
    (header_to format clients workers events objects)
    (both_read Marks Counts marks_part counts_tail text format n first rest e (clients, (workers, (events, objects))) m second)

pub headers_part : IsPart 32 HeaderLines
headers_part = part_renamed 32 Rows HeaderLines header_of header_back (pairs_part 32 Marks Counts marks_part counts_tail counts_part)
