-- The lines of entries, with moments before them and without.
use Rattle.std.proofs.Common.{◌≡◌, ℕ, ◌+◌, ◌≤◌, List, [], ◌∷◌, ◌++◌, length, take, drop, refl, sym, ap, ap₂, ◌∙◌, subst, arith, append_assoc, length-append}
use Rattle.std.specs.Prelude.{decimal, Option, None, Some, Result, Ok, Err, IfErr}
use Rattle.std.specs.Result.{IsErrAnd}
use Rattle.std.proofs.lemmas.Result.{err_from_is_err_and}
use Rattle.std.proofs.Math.Seq.{take-append_seam, drop-append_seam}
use Rattle.std.proofs.lemmas.List.{length-take-le, take-append-drop}
use Rattle.line_grammar.specs.Language.{AnyOf, IsRead, IsReadTo, IsStuck, Stops}
use Rattle.line_grammar.specs.Parts.{Led, Pairs, IsPart, IsTail}
use Rattle.line_grammar.proofs.NumberFacts.{numbers_part}
use Rattle.line_grammar.proofs.Pairs.{pairs_read, pairs_stuck_first, pairs_stuck_second, pairs_part, stops_at_separator}
use Rattle.line_grammar.proofs.Readings.{read_renamed, stuck_renamed, led_none, led_part, led_tail, led_then, led_then_stuck}
use Rattle.tp_base.specs.declared.answers.Answer.TheVariants.{Done}
use Rattle.tp_base.specs.declared.answers.Entry.{Entry}
use Rattle.tp_base.specs.declared.calls.Call.TheVariants.{Take}
use Rattle.tp_base.specs.declared.ids.Who.TheVariants.{Worker}
use Rattle.tp_lines.specs.Answers.{EntryLines, IsEntryLine, line_of_entry}
use Rattle.tp_lines.specs.declared.words.Word.TheVariants as word
use Rattle.tp_lines.proofs.Bounds.{decimal_short}
use Rattle.tp_lines.proofs.EntryFacts.{entries_part, entry_short}
use Rattle.tp_report.specs.declared.headers.Format.{Format}
use Rattle.tp_report.specs.declared.headers.Format.TheVariants.{One, Two}
use Rattle.tp_report.specs.declared.lines.Line.{Line}
use Rattle.tp_report.specs.Histories.{HasEntryLine, HasMoment, IsLine, Lines, front_with}
use Rattle.line_grammar.specs.Traces.{Ended}
use Rattle.tp_report.specs.Readings.{MomentLines, Moments, read_as}
use Rattle.tp_report.proofs.Feeds.{IsFree, free_append, free_decimal}
use Rattle.tp_report.proofs.FreeLines.{entry_free}

-- the line of an entry in its range
is_entry : (entry : Entry) (text : List ℕ) → HasEntryLine entry → text ≡ line_of_entry entry → IsEntryLine entry text
is_entry entry text h e = subst (λ t. IsEntryLine entry t) (sym e) h

pub has_entry : (entry : Entry) (text : List ℕ) → IsEntryLine entry text → HasEntryLine entry
has_entry entry text h = subst (λ t. IsEntryLine entry t) h.split h

abbrev pub line_with : Option ℕ → Entry → List ℕ
line_with moment entry = front_with moment ++ line_of_entry entry

-- no line feed stands in a line
free_with : (format : Format) (moment : Option ℕ) (entry : Entry) → HasMoment format moment → HasEntryLine entry → IsFree (line_with moment entry)
free_with format None entry m h = entry_free entry (line_of_entry entry) h
free_with One (Some moment) entry m h = absurd m
free_with Two (Some moment) entry m h =
    free_append (decimal moment ++ 32 ∷ []) (line_of_entry entry) (free_append (decimal moment) (32 ∷ []) (free_decimal moment (omega (arith, m))) refl) (entry_free entry (line_of_entry entry) h)

pub line_free : (format : Format) (line : Line) (text : List ℕ) → IsLine format line text → IsFree text
line_free format line text h = subst (λ t. IsFree t) (sym h.split) (free_with format line.moment line.entry h.has_moment h.has_entry)

-- no line is long
short_with : (format : Format) (moment : Option ℕ) (entry : Entry) → HasMoment format moment → HasEntryLine entry → length (line_with moment entry) ≤ 730
short_with format None entry m h = omega (arith, entry_short entry (line_of_entry entry) h)
short_with One (Some moment) entry m h = absurd m
short_with Two (Some moment) entry m h =
    omega (arith, length-append (decimal moment ++ 32 ∷ []) (line_of_entry entry), length-append (decimal moment) (32 ∷ []), decimal_short moment (omega (arith, m)), entry_short entry (line_of_entry entry) h)

pub line_short : (format : Format) (line : Line) (text : List ℕ) → IsLine format line text → length text ≤ 730
line_short format line text h = omega (arith, ap length h.split, short_with format line.moment line.entry h.has_moment h.has_entry)

-- ---- moments

moments_part : IsPart 32 Moments
moments_part = numbers_part 0 9223372036854775807 32 (omega arith) (omega arith)

module _ (W : Entry → List ℕ → Type 0) where
  abbrev Behind : ℕ → Entry → List ℕ → Type 0
  Behind moment = Led 32 W

-- one line of an entry
some_line : Entry
some_line = record { who = Worker 1; call = Take; answer = Done }

abbrev some_text : List ℕ
some_text = line_of_entry some_line ++ 10 ∷ []

some_entry : AnyOf EntryLines (line_of_entry some_line)
unfolding some_line
some_entry = (
  some_line,
  record {
    who_in_range = (omega arith, omega arith);
    call_in_range = (record { word = word.Take; is = refl; table = refl }, tt);
    answer_in_range = (record { word = word.Done; is = refl; table = refl }, tt);
    split = refl;
  },
)

some_ended : AnyOf (Ended EntryLines) some_text
some_ended = (some_entry.0, record { line = line_of_entry some_line; is_line = some_entry.1; split = refl })

ended_tail : (moment : ℕ) → IsTail 32 (Behind (Ended EntryLines) moment)
ended_tail moment = led_tail 32 (Ended EntryLines) some_text some_ended

entry_tail : (moment : ℕ) → IsTail 32 (Behind EntryLines moment)
entry_tail moment = led_tail 32 EntryLines (line_of_entry some_line) some_entry

-- ---- a line has one value

timed_part : IsPart 32 (Pairs Moments (Behind EntryLines))
timed_part = pairs_part 32 Moments (Behind EntryLines) moments_part entry_tail (λ moment. led_part 32 EntryLines 32 entries_part)

timed_pair : (moment : ℕ) (entry : Entry) (text : List ℕ) → moment ≤ 9223372036854775807 → HasEntryLine entry → text ≡ line_with (Some moment) entry → Pairs Moments (Behind EntryLines) (moment, entry) text
timed_pair moment entry text m h e = record {
  front = decimal moment;
  back = 32 ∷ line_of_entry entry;
  split = e ∙ append_assoc (decimal moment) (32 ∷ []) (line_of_entry entry);
  first = record { at_least = omega arith; at_most = m; split = refl };
  second = record { rest = line_of_entry entry; split = refl; behind = h };
}

same_with : (format : Format) (m n : Option ℕ) (a b : Entry) (text : List ℕ) → HasMoment format m → HasMoment format n → HasEntryLine a → HasEntryLine b → text ≡ line_with m a → text ≡ line_with n b → (m ≡ n) × (a ≡ b)
same_with One None None a b text p q h k e f = (refl, entries_part.unique a b text (is_entry a text h e) (is_entry b text k f))
same_with One (Some m) n a b text p q h k e f = absurd p
same_with One None (Some n) a b text p q h k e f = absurd q
same_with Two None n a b text p q h k e f = absurd p
same_with Two (Some m) None a b text p q h k e f = absurd q
same_with Two (Some m) (Some n) a b text p q h k e f =
    let same : (m, a) ≡ (n, b) = timed_part.unique (m, a) (n, b) text (timed_pair m a text p h e) (timed_pair n b text q k f) in
    (ap (λ (x : ℕ × Entry). Some x.0) same, ap (λ (x : ℕ × Entry). x.1) same)

abbrev the_line : Option ℕ → Entry → Line
the_line moment entry = record { moment = moment; entry = entry }

pub line_unique : (format : Format) (v w : Line) (text : List ℕ) → IsLine format v text → IsLine format w text → v ≡ w
line_unique format v w text a b =
    let same = same_with format v.moment w.moment v.entry w.entry text a.has_moment b.has_moment a.has_entry b.has_entry a.split b.split in
    ap₂ the_line same.0 same.1

-- ---- reading

none_in_one : (moment : Option ℕ) (entry : Entry) → HasMoment One moment → line_with moment entry ≡ line_of_entry entry
none_in_one None entry h = refl
none_in_one (Some moment) entry h = absurd h

one_back : (line : Line) (text : List ℕ) → Ended (Lines One) line text → AnyOf (Ended EntryLines) text
one_back line text l =
    let is = is_entry line.entry l.line l.is_line.has_entry (l.is_line.split ∙ none_in_one line.moment line.entry l.is_line.has_moment) in
    (line.entry, record { line = l.line; is_line = is; split = l.split })

one_to : (entry : Entry) (text : List ℕ) → Ended EntryLines entry text → Ended (Lines One) (record { moment = None; entry = entry }) text
one_to entry text l = record { line = l.line; is_line = record { has_moment = tt; has_entry = has_entry entry l.line l.is_line; split = l.is_line.split }; split = l.split }

pub one_read : (text : List ℕ) (entry : Entry) (r : Result ℕ ℕ) → IsRead (Ended EntryLines) text (read_as entry r) → IsRead (Ended (Lines One)) text (read_as (the_line None entry) r)
one_read text entry (Ok n) read = read_renamed (Ended EntryLines) (Ended (Lines One)) one_back text entry (the_line None entry) n (one_to entry) read
one_read text entry (Err k) stuck = stuck_renamed (Ended EntryLines) (Ended (Lines One)) one_back text k (λ entry t l. (the_line None entry, one_to entry t l)) stuck

spread : (moment : ℕ) (entry : Entry) → line_with (Some moment) entry ++ 10 ∷ [] ≡ decimal moment ++ 32 ∷ (line_of_entry entry ++ 10 ∷ [])
spread moment entry =
    ap (λ l. l ++ 10 ∷ []) (append_assoc (decimal moment) (32 ∷ []) (line_of_entry entry)) ∙ append_assoc (decimal moment) (32 ∷ line_of_entry entry) (10 ∷ [])

two_with : (moment : Option ℕ) (entry : Entry) (text line : List ℕ) → HasMoment Two moment → HasEntryLine entry → line ≡ line_with moment entry → text ≡ line ++ 10 ∷ [] → AnyOf MomentLines text
two_with None entry text line m h e f = absurd m
two_with (Some moment) entry text line m h e f = (
  (moment, entry),
  record {
    front = decimal moment;
    back = 32 ∷ (line_of_entry entry ++ 10 ∷ []);
    split = f ∙ ap (λ l. l ++ 10 ∷ []) e ∙ spread moment entry;
    first = record { at_least = omega arith; at_most = m; split = refl };
    second = record { rest = line_of_entry entry ++ 10 ∷ []; split = refl; behind = record { line = line_of_entry entry; is_line = h; split = refl } };
  },
)

two_back : (line : Line) (text : List ℕ) → Ended (Lines Two) line text → AnyOf MomentLines text
two_back line text l = two_with line.moment line.entry text l.line l.is_line.has_moment l.is_line.has_entry l.is_line.split l.split

two_to : (moment : ℕ) (entry : Entry) (text : List ℕ) → MomentLines (moment, entry) text → Ended (Lines Two) (record { moment = Some moment; entry = entry }) text
two_to moment entry text pair =
    let l = pair.second.behind in
    record {
      line = line_with (Some moment) entry;
      is_line = record { has_moment = pair.first.at_most; has_entry = has_entry entry l.line l.is_line; split = refl };
      split = pair.split ∙ ap (λ t. t ++ pair.back) pair.first.split
          ∙ ap (λ t. decimal moment ++ t) (pair.second.split ∙ ap (λ t. 32 ∷ t) (l.split ∙ ap (λ t. t ++ 10 ∷ []) l.is_line.split))
          ∙ sym (spread moment entry);
    }

any_two : (p : ℕ × Entry) (text : List ℕ) → MomentLines p text → AnyOf (Ended (Lines Two)) text
any_two (moment, entry) text pair = (record { moment = Some moment; entry = entry }, two_to moment entry text pair)

two_stuck : (text : List ℕ) (k : ℕ) → IsStuck MomentLines text k → IsStuck (Ended (Lines Two)) text k
two_stuck text k stuck = stuck_renamed MomentLines (Ended (Lines Two)) two_back text k any_two stuck

-- behind a moment and its space
module _ (text : List ℕ) (moment : ℕ) (front rest : List ℕ) (within : moment ≤ 9223372036854775807) (is : front ≡ decimal moment ++ 32 ∷ []) (split : text ≡ front ++ rest) where
  whole : text ≡ decimal moment ++ 32 ∷ rest
  whole = split ∙ ap (λ l. l ++ rest) is ∙ append_assoc (decimal moment) (32 ∷ []) rest

  taken : take (length (decimal moment)) text ≡ decimal moment
  taken = ap (λ t. take (length (decimal moment)) t) whole ∙ take-append_seam (decimal moment) (32 ∷ rest)

  dropped : drop (length (decimal moment)) text ≡ 32 ∷ rest
  dropped = ap (λ t. drop (length (decimal moment)) t) whole ∙ drop-append_seam (decimal moment) (32 ∷ rest)

  number : Moments moment (decimal moment)
  number = record { at_least = omega arith; at_most = within; split = refl }

  first : IsReadTo Moments text moment (length (decimal moment))
  first = record {
    within = omega (arith, ap length whole, length-append (decimal moment) (32 ∷ rest));
    text_of = subst (λ t. Moments moment t) (sym taken) number;
    stops = subst (λ t. Stops (AnyOf Moments) t (drop (length (decimal moment)) text)) (sym taken)
        (subst (λ r. Stops (AnyOf Moments) (decimal moment) r) (sym dropped)
        (stops_at_separator 32 Moments (Behind (Ended EntryLines)) moments_part ended_tail moment (decimal moment) number (32 ∷ rest) refl));
  }

  size : length front ≡ length (decimal moment) + 1
  size = ap length is ∙ length-append (decimal moment) (32 ∷ [])

  pub behind_read : (entry : Entry) (n : ℕ) → IsReadTo (Ended EntryLines) rest entry n → IsReadTo (Ended (Lines Two)) text (record { moment = Some moment; entry = entry }) (length front + n)
  behind_read entry n read =
      let sum : length (decimal moment) + (n + 1) ≡ length front + n = omega (arith, size) in
      subst (λ i. IsReadTo (Ended (Lines Two)) text (record { moment = Some moment; entry = entry }) i) sum
      (read_renamed MomentLines (Ended (Lines Two)) two_back text (moment, entry) (record { moment = Some moment; entry = entry }) (length (decimal moment) + (n + 1)) (two_to moment entry)
      (pairs_read 32 Moments (Behind (Ended EntryLines)) moments_part ended_tail text moment (length (decimal moment)) first entry (n + 1)
      (led_then 32 (Ended EntryLines) (drop (length (decimal moment)) text) rest dropped entry n read)))

  pub behind_stuck : (k : ℕ) → IsStuck (Ended EntryLines) rest k → IsStuck (Ended (Lines Two)) text (length front + k)
  behind_stuck k stuck =
      let sum : length (decimal moment) + (k + 1) ≡ length front + k = omega (arith, size) in
      subst (λ i. IsStuck (Ended (Lines Two)) text i) sum
      (two_stuck text (length (decimal moment) + (k + 1))
      (pairs_stuck_second 32 Moments (Behind (Ended EntryLines)) moments_part ended_tail text moment (length (decimal moment)) first (k + 1)
      (led_then_stuck 32 (Ended EntryLines) (drop (length (decimal moment)) text) rest dropped k stuck)))

-- a moment that isn't read
pub moment_stuck : (text : List ℕ) (k : ℕ) → IsStuck Moments text k → IsStuck MomentLines text k
moment_stuck text k stuck = pairs_stuck_first 32 Moments (Behind (Ended EntryLines)) moments_part ended_tail text k stuck

pub space_missing : (text : List ℕ) (moment n : ℕ) → IsReadTo Moments text moment n → (rest : List ℕ) → rest ≡ drop n text → ((x : ℕ) (more : List ℕ) → rest ≡ x ∷ more → x ≡ 32 → ⊥) → IsStuck MomentLines text n
space_missing text moment n read rest e none =
    let at : n + 0 ≡ n = omega arith in
    subst (λ i. IsStuck MomentLines text i) at
    (pairs_stuck_second 32 Moments (Behind (Ended EntryLines)) moments_part ended_tail text moment n read 0
    (subst (λ l. IsStuck (Led 32 (Ended EntryLines)) l 0) e (led_none 32 (Ended EntryLines) rest some_text some_ended none)))

-- what a number and a space are that were read
pub stamp_there : (text : List ℕ) (moment n : ℕ) → IsReadTo Moments text moment n → (space rest : List ℕ) → space ≡ drop n text → space ≡ 32 ∷ rest
    → (take (n + 1) text ≡ decimal moment ++ 32 ∷ []) × (text ≡ (decimal moment ++ 32 ∷ []) ++ rest)
stamp_there text moment n read space rest e f =
    let held : take n text ≡ decimal moment = read.text_of.split in
    let all : text ≡ (decimal moment ++ 32 ∷ []) ++ rest =
    sym (take-append-drop n text) ∙ ap (λ l. l ++ drop n text) held ∙ ap (λ l. decimal moment ++ l) (sym e ∙ f) ∙ sym (append_assoc (decimal moment) (32 ∷ []) rest) in
    let long : n + 1 ≡ length (decimal moment ++ 32 ∷ []) = omega (arith, length-append (decimal moment) (32 ∷ []), ap length held, length-take-le n text read.within) in
    (rw (long) (ap (λ t. take (length (decimal moment ++ 32 ∷ [])) t) all ∙ take-append_seam (decimal moment ++ 32 ∷ []) rest), all)

-- what is told on of a place
pub place_told : {T : Type 0} (P : ℕ → Type 0) (place : ℕ) (r : Result T ℕ) → IsErrAnd r (λ k. k ≡ place) → P place → IfErr r P
place_told P place r told p = let e = err_from_is_err_and r told in subst (λ x. IfErr x P) (sym e.1) (subst P (sym e.2) p)

pub stuck_told : (line : Line) (text : List ℕ) (place : ℕ) (r : Result ℕ ℕ) → IsErrAnd r (λ k. k ≡ place) → IsStuck MomentLines text place → IsRead (Ended (Lines Two)) text (read_as line r)
stuck_told line text place r told stuck =
    let e = err_from_is_err_and r told in
    subst (λ x. IsRead (Ended (Lines Two)) text (read_as line x)) (sym e.1) (subst (λ k. IsStuck (Ended (Lines Two)) text k) (sym e.2) (two_stuck text place stuck))
