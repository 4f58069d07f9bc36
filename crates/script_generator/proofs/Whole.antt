-- The script of a number is a script, and short.
use Rattle.std.proofs.Common.{◌≡◌, ℕ, zero, suc, ◌+◌, ◌*◌, ◌<◌, ◌≤◌, Bool, true, false, List, [], ◌∷◌, ◌++◌, Some, bytes_eq, codes, cond, decimal, length as list_length, refl, sym, ap, ◌∙◌, subst, arith, append-nil, length-append, add-zero, if◌then◌else◌, nat_lt, ◌⊎◌, inl, inr, eq-or-lt_of_le}
use Rattle.std.specs.Fmt.{digits}
use Rattle.std.specs.Map.{lookup}
use Rattle.std.proofs.lemmas.Bool.Decides.{nat_tests}
use Rattle.script_lines.specs.declared.judge.Known.{Known}
use Rattle.script_lines.specs.declared.line.Line.{Line}
use Rattle.script_lines.specs.declared.names.Named.{Named}
use Rattle.script_lines.specs.declared.words.Sort.TheVariants as sort
use Rattle.script_lines.specs.Names.{Names}
use Rattle.script_lines.specs.States.{first_state}
use Rattle.script_lines.specs.Texts.{lines_of}
use Rattle.script_lines.specs.declared.state.State.{State}
use Rattle.script_lines.specs.declared.words.Word.{Word}
use Rattle.script_lines.specs.declared.words.Word.TheVariants as word
use Rattle.script_lines.specs.States.{state_after}
use Rattle.script_lines.proofs.HeadFacts.{MayHead, line_head}
use Rattle.tp_script.specs.declared.script.Opening.TheVariants as opening
use Rattle.tp_script.specs.Nexts.{clients_of, opens, places_behind}
use Rattle.tp_script.specs.declared.numbered.NumberedLine.{NumberedLine}
use Rattle.tp_script.specs.Parsed.{is_played, parsed, played}
use Rattle.tp_script.proofs.ClientFacts.{unplayed}
use Rattle.tp_script.specs.Scripts.{AreLinesOf, IsScript, Reads, known_after, with_routines, words_of}
use Rattle.script_generator.specs.Scripts.{Generated, client_line, draw_of, drawn, generated, group_and_timer, last_client, most_of, pool_line, priority_word, routines, with_client, with_clients, with_lines, with_text, with_works, work_line}
use Rattle.script_generator.proofs.Clients.{Knows, client_closes, client_opens, last_leads, line_leads}
use Rattle.script_generator.proofs.Knowing.{behind, declared, head_leads, named, names_with, routine_names, routines_lead, start, within, work_leads}
use Rattle.script_generator.proofs.Points.{Leads, Point, joined, wider}

-- ---- names

-- a name that is found in front is found
found_before : (test : List ℕ → Bool) (front back : Names) (found : Named) → lookup test front ≡ Some found → lookup test (front ++ back) ≡ Some found
found_before test [] back found e = let no_such : ⊥ = cc in absurd no_such
found_before test (entry ∷ front) back found e = by (test entry.0) (found_before test front back found) e
  where
    by : (b : Bool) → (lookup test front ≡ Some found → lookup test (front ++ back) ≡ Some found) → cond b (Some entry.1) (lookup test front) ≡ Some found → cond b (Some entry.1) (lookup test (front ++ back)) ≡ Some found
    by true further h = h
    by false further h = further h

timer_found : (works : ℕ) → lookup (bytes_eq (codes "t")) (names_with works) ≡ Some (named sort.Timer 1)
timer_found zero = refl
timer_found (suc works) = found_before (bytes_eq (codes "t")) (names_with works) ((codes "w" ++ decimal (suc works), named sort.Work (suc (suc works))) ∷ []) (named sort.Timer 1) (timer_found works)

group_found : (works : ℕ) → lookup (bytes_eq (codes "g")) (names_with works) ≡ Some (named sort.Group 1)
group_found zero = refl
group_found (suc works) = found_before (bytes_eq (codes "g")) (names_with works) ((codes "w" ++ decimal (suc works), named sort.Work (suc (suc works))) ∷ []) (named sort.Group 1) (group_found works)

last_found : (number : ℕ) → number < 8 → lookup (bytes_eq (codes "w" ++ decimal (suc number))) (names_with (suc number)) ≡ Some (named sort.Work (suc (suc number)))
unfolding digits
last_found (suc (suc (suc (suc (suc (suc (suc (suc number)))))))) few = absurd (omega arith)
last_found number few = refl

work_found : (works number : ℕ) → number < works → works ≤ 8 → lookup (bytes_eq (codes "w" ++ decimal (suc number))) (names_with works) ≡ Some (named sort.Work (suc (suc number)))
work_found zero number low few = absurd (omega arith)
work_found (suc works) number low few = by (eq-or-lt_of_le (let within : number ≤ works = omega arith in within)) (λ less. work_found works number less (omega arith))
  where
    by : (number ≡ works) ⊎ (number < works) → (number < works → lookup (bytes_eq (codes "w" ++ decimal (suc number))) (names_with works) ≡ Some (named sort.Work (suc (suc number))))
        → lookup (bytes_eq (codes "w" ++ decimal (suc number))) (names_with (suc works)) ≡ Some (named sort.Work (suc (suc number)))
    by (inl e) further = subst (λ n. lookup (bytes_eq (codes "w" ++ decimal (suc number))) (names_with (suc n)) ≡ Some (named sort.Work (suc (suc number)))) e (last_found number (omega arith))
    by (inr less) further = found_before (bytes_eq (codes "w" ++ decimal (suc number))) (names_with works) ((codes "w" ++ decimal (suc works), named sort.Work (suc (suc works))) ∷ []) (named sort.Work (suc (suc number))) (further less)

all_known : (works : ℕ) → works ≤ 8 → Knows (names_with works ++ routine_names) works
all_known works few = record {
  timer = found_before (bytes_eq (codes "t")) (names_with works) routine_names (named sort.Timer 1) (timer_found works);
  group = found_before (bytes_eq (codes "g")) (names_with works) routine_names (named sort.Group 1) (group_found works);
  work = λ number low. found_before (bytes_eq (codes "w" ++ decimal (suc number))) (names_with works) routine_names (named sort.Work (suc (suc number))) (work_found works number low few);
}

-- ---- the parts of a script

draw_below : (state below : ℕ) → 0 < below → draw_of state below < below
draw_below state below some = omega arith

some_most : (works kind : ℕ) → 0 < works → 0 < most_of works kind
some_most works kind some = grind (arith, nat_tests)

works_lead : (before : Point) (most : ℕ) (g : Generated) → Leads before (declared 0) g.text most → (works : ℕ) → works ≤ 8 → Leads before (declared works) (with_works works g).text (most + 60 * works)
works_lead before most g leads zero few = wider before (declared 0) g.text most (most + 60 * 0) leads (omega arith)
works_lead before most g leads (suc works) few =
    let draw : ℕ = draw_of (drawn (with_works works g).state) 3 in
    joined before (declared works) (declared (suc works)) (with_works works g).text (work_line (suc works) (priority_word draw)) (most + 60 * works) 60 (most + 60 * suc works)
    (works_lead before most g leads works (omega arith)) (work_leads works draw (omega arith)) (omega arith)

module _ (names : Names) (objects works : ℕ) (knows : Knows names works) (some : 0 < works) (few : works ≤ 8) (before : Point) where
  lines_lead : (clients most : ℕ) (g : Generated) → Leads before (within names objects clients) g.text most → (length : ℕ) → Leads before (within names objects clients) (with_lines works length g).text (most + 15 * length)
  lines_lead clients most g leads zero = wider before (within names objects clients) g.text most (most + 15 * 0) leads (omega arith)
  lines_lead clients most g leads (suc length) =
      let state : ℕ = drawn (with_lines works length g).state in
      let kind : ℕ = draw_of state 8 in
      let draw : ℕ = draw_of (drawn state) (most_of works kind) in
      let inside : Point = within names objects clients in
      joined before inside inside (with_lines works length g).text (client_line kind (1 + draw)) (most + 15 * length) 15 (most + 15 * suc length)
      (lines_lead clients most g leads length) (line_leads names objects clients works knows few kind draw (draw_below (drawn state) (most_of works kind) (some_most works kind some))) (omega arith)

  client_leads : (clients most length : ℕ) (g : Generated) → clients < 3 → Leads before (behind names objects clients) g.text most → Leads before (behind names objects (suc clients)) (with_client works length g).text (most + 12 + 15 * length)
  client_leads clients most length g low leads =
      let inside : Point = within names objects (suc clients) in
      let opened : Generated = with_text (codes "client\n") g in
      joined before inside (behind names objects (suc clients)) (with_lines works length opened).text (codes "done\n") (most + 7 + 15 * length) 5 (most + 12 + 15 * length)
      (lines_lead (suc clients) (most + 7) opened
      (joined before (behind names objects clients) inside g.text (codes "client\n") most 7 (most + 7) leads (client_opens names objects clients (omega arith)) (omega arith)) length)
      (client_closes names objects clients) (omega arith)

abbrev names_of : ℕ → Names
names_of more = names_with (4 + more) ++ routine_names

abbrev ended : ℕ → Point
ended more = behind (names_of more) (5 + more) 4

body_leads : (more length : ℕ) (g : Generated) → more < 5 → 1 ≤ length → length ≤ 10000 → Leads start (declared 0) g.text 70
    → Leads start (ended more) (with_text (last_client length) (with_clients (4 + more) length 3 (with_text routines (with_works (4 + more) g)))).text (1000 + 45 * length)
body_leads more length g low some small leads =
    let works : ℕ = 4 + more in
    let names : Names = names_of more in
    let knows : Knows names works = all_known works (omega arith) in
    let first : Generated = with_text routines (with_works works g) in
    let opened : Leads start (behind names (5 + more) 0) first.text 700 =
    joined start (declared works) (behind names (5 + more) 0) (with_works works g).text routines (70 + 60 * works) 60 700 (works_lead start 70 g leads works (omega arith)) (routines_lead more low) (omega arith) in
    let one = client_leads names (5 + more) works knows (omega arith) (omega arith) start 0 700 length first (omega arith) opened in
    let two = client_leads names (5 + more) works knows (omega arith) (omega arith) start 1 (700 + 12 + 15 * length) length (with_clients works length 1 first) (omega arith) one in
    let three = client_leads names (5 + more) works knows (omega arith) (omega arith) start 2 (700 + 12 + 15 * length + 12 + 15 * length) length (with_clients works length 2 first) (omega arith) two in
    joined start (behind names (5 + more) 3) (ended more) (with_clients works length 3 first).text (last_client length) (700 + 12 + 15 * length + 12 + 15 * length + 12 + 15 * length) 90 (1000 + 45 * length)
    three (last_leads names (5 + more) works knows (omega arith) length some small) (omega arith)

-- ---- the whole

generated_leads : (number length : ℕ) → 1 ≤ length → length ≤ 10000 → (more : ℕ) × Leads start (ended more) (generated number length) (1000 + 45 * length)
unfolding generated
generated_leads number length some small =
    let state : ℕ = drawn number in
    let draw : ℕ = draw_of state 4 in
    let more : ℕ = draw_of (drawn state) 5 in
    (more, body_leads more length (record { state = drawn state; text = pool_line (1 + draw) ++ group_and_timer }) (draw_below (drawn state) 5 (omega arith)) some small (head_leads draw (draw_below state 4 (omega arith))))

-- ---- its clients

-- a line that begins a client is counted, and no other
counted : (state : State) (head : Word) → MayHead state head → (state_after state head).clients ≡ state.clients + (if opens opening.Client head then 1 else 0)
counted state word.Client (inl e) = let no_such : ⊥ = cc in absurd no_such
counted state word.Client (inr (room, may)) = by (nat_lt state.clients 15) room
  where
    by : (b : Bool) → b ≡ true → (if b then state.clients + 1 else state.clients) ≡ state.clients + 1
    by true e = refl
    by false e = let no_such : ⊥ = cc in absurd no_such
counted state _ may = omega arith

one_place : (b : Bool) (place : ℕ) → list_length (if b then place ∷ [] else []) ≡ (if b then 1 else 0)
one_place true place = refl
one_place false place = refl

abbrev one_if : Bool → ℕ
one_if opened = if opened then 1 else 0

clients_read : (texts : List (List ℕ)) (known end : Known) (number : ℕ) (rows : List NumberedLine) (at : ℕ) → Reads known number texts rows end
    → end.state.clients ≡ known.state.clients + list_length (places_behind opening.Client at (played rows))
clients_read [] known end number rows at (none, e) = subst (λ (rs : List NumberedLine). end.state.clients ≡ known.state.clients + list_length (places_behind opening.Client at (played rs))) (sym none) (ap (λ (k : Known). k.state.clients) e ∙ sym (add-zero known.state.clients))
clients_read (text ∷ texts) known end number rows at (inl (blank, reads)) = clients_read texts known end (number + 1) rows at reads
clients_read (text ∷ texts) known end number rows at (inr (solid, (line, name, more, read, e, reads))) =
    subst (λ (rs : List NumberedLine). end.state.clients ≡ known.state.clients + list_length (places_behind opening.Client at (played rs))) (sym e)
    (by (λ next. clients_read texts (known_after known line name) end (number + 1) more next reads) (is_played line.head) refl)
  where
    same : (state_after known.state line.head).clients ≡ known.state.clients + (if opens opening.Client line.head then 1 else 0)
    same = counted known.state line.head (line_head known (words_of text) line name read)

    by : ((next : ℕ) → end.state.clients ≡ (state_after known.state line.head).clients + list_length (places_behind opening.Client next (played more))) → (b : Bool) → is_played line.head ≡ b
        → end.state.clients ≡ known.state.clients + list_length (places_behind opening.Client at ((if b then line ∷ [] else []) ++ played more))
    by further true is =
        omega (
          arith,
          further (at + 1),
          same,
          one_place (opens opening.Client line.head) (at + 1),
          length-append (if opens opening.Client line.head then (at + 1) ∷ [] else []) (places_behind opening.Client (at + 1) (played more)),
        )
    by further false is =
        let none = ap one_if (unplayed line.head is) in
        omega (arith, further at, same, none)

-- ---- a text that leads from the first line to behind the fourth client

script_of : (text : List ℕ) (more most : ℕ) → Leads start (ended more) text most → (lines : List Line) × IsScript text lines × (clients_of lines ≡ 5)
script_of text more most leads =
    let read = leads.reads 1 [] [] (ended more).known (refl, refl) in
    let begun : with_routines [] (lines_of text) ≡ routine_names = ap (λ (t : List ℕ). with_routines [] (lines_of t)) (sym (append-nil text)) ∙ leads.begins [] in
    let reads : Reads start.known 1 (lines_of text) read.0 (ended more).known = subst (λ (t : List ℕ). Reads start.known 1 (lines_of t) read.0 (ended more).known) (append-nil text) read.1 in
    let all : AreLinesOf text read.0 =
    record {
      end = (ended more).known;
      reads = subst (λ (names : Names). Reads (record { names = []; routines = names; state = first_state }) 1 (lines_of text) read.0 (ended more).known) (sym begun) reads;
      closed = refl;
    } in (
      played read.0,
      (parsed read.0, (read.0, all, refl), refl),
      omega (arith, clients_read (lines_of text) start.known (ended more).known 1 read.0 0 reads),
    )

pub generated_script : (number length : ℕ) → 1 ≤ length → length ≤ 10000 → (lines : List Line) × IsScript (generated number length) lines × (clients_of lines ≡ 5)
generated_script number length some small =
    let leads = generated_leads number length some small in
    script_of (generated number length) leads.0 (1000 + 45 * length) leads.1

pub generated_short : (number length : ℕ) → 1 ≤ length → length ≤ 10000 → list_length (generated number length) ≤ 1000 + 45 * length
generated_short number length some small = (generated_leads number length some small).1.size
