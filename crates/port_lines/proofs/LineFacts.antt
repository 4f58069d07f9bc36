-- The lines of devices and operations, from their parts.
use Rattle.std.proofs.Common.{◌≡◌, ℕ, ◌+◌, ◌<◌, ◌≤◌, List, [], ◌∷◌, ◌++◌, drop, get_or, refl, sym, ap, ap₂, ◌∙◌, subst, arith, inl, inr, IsTrue}
use Rattle.std.specs.Prelude.{codes, decimal, Result, Ok, Err}
use Rattle.std.proofs.lemmas.List.{append_assoc, append_cancel_left}
use Rattle.std.proofs.lemmas.Fmt.{decimal_injective}
use Rattle.line_grammar.specs.Language.{AnyOf, IsRead, IsReadTo, IsStuck}
use Rattle.line_grammar.specs.Numbers.{Numbers}
use Rattle.line_grammar.specs.Parts.{Led, Pairs, Opens, IsPart, IsTail}
use Rattle.line_grammar.specs.Words.{Either, Word, further_of, lacks}
use Rattle.line_grammar.proofs.Cuts.{Cut, cut, further, nearer, same}
use Rattle.line_grammar.proofs.NumberFacts.{decimal_lacks, numbers_part}
use Rattle.line_grammar.proofs.Pairs.{pairs_read, pairs_stuck_first, pairs_stuck_second}
use Rattle.line_grammar.proofs.Readings.{led_part, read_renamed, read_same, stuck_renamed}
use Rattle.line_grammar.proofs.TraceFacts.{not_within}
use Rattle.line_grammar.proofs.WordFacts.{further_read, lacking_part, lacks_append}
use Rattle.port_lines.specs.declared.lines.Line.{Line}
use Rattle.port_lines.specs.declared.lines.Line.TheVariants.{Device, Op}
use Rattle.port_lines.specs.declared.lines.Operation.{Operation}
use Rattle.port_lines.specs.declared.lines.TheConstants.{DEVICE_LIMIT, OPERATION_LIMIT}
use Rattle.port_lines.specs.Readings.{ByteCounts, DeviceLines, EndedLines, IsStuckAt, IsLineRead, OperationLines, Fields}
use Rattle.port_lines.specs.Texts.{IsInRange, line_text}

-- ---- parts

abbrev Feed : ℕ → List ℕ → Type 0
Feed = Word {V = ℕ} 0 (10 ∷ [])

abbrev Opening : ℕ → List ℕ → Type 0
Opening = Word {V = ℕ} 0 (codes "op")

abbrev Errors : ℕ → List ℕ → Type 0
Errors = Led 32 (Numbers 0 4294967295)

abbrev Bytes : ℕ → List ℕ → Type 0
Bytes = Led 32 (Numbers 0 18446744073709551615)

opening_part : IsPart 32 Opening
opening_part = lacking_part 32 Opening (λ v w text a b. a.means ∙ sym b.means) (λ v text a. subst (λ t. IsTrue (lacks 32 t)) (sym a.split) refl)

errors_part : IsPart 32 Errors
errors_part = led_part 32 (Numbers 0 4294967295) 32 (numbers_part 0 4294967295 32 (omega arith) (omega arith))

bytes_part : IsPart 10 Bytes
bytes_part = led_part 32 (Numbers 0 18446744073709551615) 10 (numbers_part 0 18446744073709551615 10 (omega arith) (omega arith))

feed_tail : IsTail 10 Feed
feed_tail = record {
  opens = λ v text w. subst (λ l. Opens 10 l) (sym w.split) refl;
  some = (0, 10 ∷ [], record { means = refl; split = refl });
}

open_both : (front back : List ℕ) → Opens 32 front → Opens 32 back → Opens 32 (front ++ back)
open_both [] back f b = b
open_both (x ∷ front) back f b = f

-- a number behind a space, and what follows it
led_pairs_tail : {U : Type 0} (most : ℕ) (R : U → List ℕ → Type 0) → (other : U) (text : List ℕ) → R other text → IsTail 32 (Pairs (Led 32 (Numbers 0 most)) (λ v. R))
led_pairs_tail most R other text r = record {
  opens = λ (v, u) t pair. (let e : t ≡ 32 ∷ (pair.first.rest ++ pair.back) = pair.split ∙ ap (λ l. l ++ pair.back) pair.first.split in subst (λ l. Opens 32 l) (sym e) refl);
  some = (
    (0, other),
    (32 ∷ decimal 0) ++ text,
    record { front = 32 ∷ decimal 0; back = text; split = refl; first = record { rest = decimal 0; split = refl; behind = record { at_least = omega arith; at_most = omega arith; split = refl } }; second = r },
  );
}

byte_counts_tail : IsTail 32 ByteCounts
byte_counts_tail = led_pairs_tail 18446744073709551615 Feed 0 (10 ∷ []) (record { means = refl; split = refl })

fields_tail : IsTail 32 Fields
fields_tail = let some = byte_counts_tail.some in led_pairs_tail 4294967295 ByteCounts some.0 some.1 some.2

-- a part, and what was found behind it
module _ {V U : Type 0} (separator : ℕ) (P : V → List ℕ → Type 0) (R : U → List ℕ → Type 0) (part : IsPart separator P) (tail : IsTail separator R)
    (text : List ℕ) where
  first_stuck : (k : ℕ) → IsStuck P text k → IsStuck (Pairs P (λ v. R)) text k
  first_stuck k stuck = pairs_stuck_first separator P (λ v. R) part (λ v. tail) text k stuck

  module _ (v : V) (n : ℕ) (first : IsReadTo P text v n) (rest : List ℕ) (e : rest ≡ drop n text) where
    second_stuck : (k : ℕ) → IsStuck R rest k → IsStuck (Pairs P (λ v. R)) text (n + k)
    second_stuck k stuck = pairs_stuck_second separator P (λ v. R) part (λ v. tail) text v n first k (subst (λ l. IsStuck R l k) e stuck)

    both_read : (u : U) (m : ℕ) → IsReadTo R rest u m → IsReadTo (Pairs P (λ v. R)) text (v, u) (n + m)
    both_read u m second = pairs_read separator P (λ v. R) part (λ v. tail) text v n first u m (subst (λ l. IsReadTo R l u m) e second)

pub byte_count_stuck_first : (text : List ℕ) (k : ℕ) → IsStuck Bytes text k → IsStuck ByteCounts text k
byte_count_stuck_first = first_stuck 10 Bytes Feed bytes_part feed_tail

pub byte_count_stuck_second : (text : List ℕ) (v : ℕ) (n : ℕ) → IsReadTo Bytes text v n → (rest : List ℕ) → rest ≡ drop n text → (k : ℕ) → IsStuck Feed rest k → IsStuck ByteCounts text (n + k)
byte_count_stuck_second = second_stuck 10 Bytes Feed bytes_part feed_tail

pub byte_count_read : (text : List ℕ) (v : ℕ) (n : ℕ) → IsReadTo Bytes text v n → (rest : List ℕ) → rest ≡ drop n text → (u m : ℕ) → IsReadTo Feed rest u m → IsReadTo ByteCounts text (v, u) (n + m)
byte_count_read = both_read 10 Bytes Feed bytes_part feed_tail

pub fields_stuck_first : (text : List ℕ) (k : ℕ) → IsStuck Errors text k → IsStuck Fields text k
fields_stuck_first = first_stuck 32 Errors ByteCounts errors_part byte_counts_tail

pub fields_stuck_second : (text : List ℕ) (v : ℕ) (n : ℕ) → IsReadTo Errors text v n → (rest : List ℕ) → rest ≡ drop n text → (k : ℕ) → IsStuck ByteCounts rest k → IsStuck Fields text (n + k)
fields_stuck_second = second_stuck 32 Errors ByteCounts errors_part byte_counts_tail

pub fields_read : (text : List ℕ) (v : ℕ) (n : ℕ) → IsReadTo Errors text v n → (rest : List ℕ) → rest ≡ drop n text → (u : ℕ × ℕ) (m : ℕ) → IsReadTo ByteCounts rest u m → IsReadTo Fields text (v, u) (n + m)
fields_read = both_read 32 Errors ByteCounts errors_part byte_counts_tail

-- ---- the line of an operation

abbrev Whole : (ℕ × (ℕ × (ℕ × ℕ))) → List ℕ → Type 0
Whole = Pairs Opening (λ v. Fields)

whole_to : (v error bytes feed : ℕ) (text : List ℕ) → Whole (v, (error, (bytes, feed))) text → OperationLines (Op (record { error = error; bytes = bytes })) text
whole_to v error bytes feed text w =
    let s = w.second in
    let e = s.second in
    let a = s.first.behind in
    let b = e.first.behind in (
      (a.at_most, b.at_most),
      w.split
          ∙ ap₂ (λ x y. x ++ y) w.first.split
          (s.split
          ∙ ap₂ (λ x y. x ++ y) (s.first.split ∙ ap (λ d. 32 ∷ d) a.split)
          (e.split ∙ ap₂ (λ x y. x ++ y) (e.first.split ∙ ap (λ d. 32 ∷ d) b.split) e.second.split))
          ∙ ap (λ l. codes "op " ++ l) (sym (append_assoc (decimal error) (32 ∷ decimal bytes) (10 ∷ []))),
    )

whole_any : (v : ℕ × (ℕ × (ℕ × ℕ))) (text : List ℕ) → Whole v text → AnyOf OperationLines text
whole_any (v, (error, (bytes, feed))) text w = (Op (record { error = error; bytes = bytes }), whole_to v error bytes feed text w)

whole_back : (line : Line) (text : List ℕ) → OperationLines line text → AnyOf Whole text
whole_back Device text o = absurd o
whole_back (Op operation) text o =
    let number : (most value : ℕ) → value ≤ most → Led 32 (Numbers 0 most) value (32 ∷ decimal value)
    = λ most value h. record { rest = decimal value; split = refl; behind = record { at_least = omega arith; at_most = h; split = refl } } in
    let last = 32 ∷ decimal operation.bytes ++ 10 ∷ [] in (
      (0, (operation.error, (operation.bytes, 0))),
      record {
        front = codes "op";
        back = (32 ∷ decimal operation.error) ++ last;
        split = o.1 ∙ ap (λ l. codes "op " ++ l) (append_assoc (decimal operation.error) (32 ∷ decimal operation.bytes) (10 ∷ []));
        first = record { means = refl; split = refl };
        second = record {
          front = 32 ∷ decimal operation.error;
          back = last;
          split = refl;
          first = number 4294967295 operation.error o.0.0;
          second = record { front = 32 ∷ decimal operation.bytes; back = 10 ∷ []; split = refl; first = number 18446744073709551615 operation.bytes o.0.1; second = record { means = refl; split = refl } };
        };
      },
    )

pub operation_stuck_first : (text : List ℕ) (k : ℕ) → IsStuck Opening text k → IsStuck OperationLines text k
operation_stuck_first text k stuck = stuck_renamed Whole OperationLines whole_back text k whole_any (first_stuck 32 Opening Fields opening_part fields_tail text k stuck)

pub operation_stuck_second : (text : List ℕ) (v : ℕ) (n : ℕ) → IsReadTo Opening text v n → (rest : List ℕ) → rest ≡ drop n text → (k : ℕ) → IsStuck Fields rest k → IsStuck OperationLines text (n + k)
operation_stuck_second text v n first rest e k stuck =
    stuck_renamed Whole OperationLines whole_back text (n + k) whole_any (second_stuck 32 Opening Fields opening_part fields_tail text v n first rest e k stuck)

pub operation_read : (text : List ℕ) (v : ℕ) (n : ℕ) → IsReadTo Opening text v n → (rest : List ℕ) → rest ≡ drop n text → (error bytes feed m : ℕ) → IsReadTo Fields rest (error, (bytes, feed)) m
    → IsReadTo OperationLines text (Op (record { error = error; bytes = bytes })) (n + m)
operation_read text v n first rest e error bytes feed m second =
    read_renamed Whole OperationLines whole_back text (v, (error, (bytes, feed))) (Op (record { error = error; bytes = bytes })) (n + m) (whole_to v error bytes feed)
    (both_read 32 Opening Fields opening_part fields_tail text v n first rest e (error, (bytes, feed)) m second)

-- ---- what stands behind so many devices and operations

stuck_at : (W : Line → List ℕ → Type 0) (text : List ℕ) (k : ℕ) → IsStuck W text k → IsStuckAt W text k
stuck_at W text k stuck = record { within = stuck.within; absent = stuck.absent; longest = record { begins = inr stuck.reaches.begins; stops = stuck.reaches.stops } }

told : (devices operations : ℕ) (text : List ℕ) (r : Result (Line × ℕ) ℕ) → IsRead (EndedLines devices operations) text r → IsLineRead devices operations text r
told devices operations text (Ok (line, size)) read = read
told devices operations text (Err place) stuck = stuck_at (EndedLines devices operations) text place stuck

-- either
pub line_read : (devices operations : ℕ) (text : List ℕ) (r q z : Result (Line × ℕ) ℕ) → 0 < devices → operations < OPERATION_LIMIT → devices < DEVICE_LIMIT
    → z ≡ further_of r q → IsRead DeviceLines text r → IsRead OperationLines text q → IsLineRead devices operations text z
line_read devices operations text r q z some few room e a b =
    told devices operations text z (read_same (Either DeviceLines OperationLines) (EndedLines devices operations) to back text z (further_read DeviceLines OperationLines text r q z e a b))
  where
    to : (line : Line) (t : List ℕ) → Either DeviceLines OperationLines line t → EndedLines devices operations line t
    to Device t (inl w) = (room, w.split)
    to Device t (inr o) = absurd o
    to (Op operation) t (inl w) = let no_such : ⊥ = cc (w.means) in absurd no_such
    to (Op operation) t (inr o) = ((some, few, o.0), o.1)

    back : (line : Line) (t : List ℕ) → EndedLines devices operations line t → Either DeviceLines OperationLines line t
    back Device t e = inl (record { means = refl; split = e.1 })
    back (Op operation) t e = inr (e.0.2, e.1)

-- ---- lines are told by their texts

-- of what stands before the first separator
front_same : (separator : ℕ) (a b x y : List ℕ) → IsTrue (lacks separator a) → IsTrue (lacks separator b) → a ++ separator ∷ x ≡ b ++ separator ∷ y → (a ≡ b) × (x ≡ y)
front_same separator a b x y h k e = by_cut (cut a (separator ∷ x) b (separator ∷ y) e)
  where
    by_cut : Cut a (separator ∷ x) b (separator ∷ y) → (a ≡ b) × (x ≡ y)
    by_cut (further z m f g) = let at : z ≡ separator = cc in absurd (not_within separator z b m a h f at)
    by_cut (nearer z m f g) = let at : z ≡ separator = cc in absurd (not_within separator z a m b k f at)
    by_cut (same f g) = let rests : x ≡ y = cc in (f, rests)

lacks_feed : (line : Line) → IsInRange line → IsTrue (lacks 10 (line_text line))
lacks_feed Device h = refl
lacks_feed (Op operation) h =
    lacks_append 10 (codes "op ") (decimal operation.error ++ 32 ∷ decimal operation.bytes) refl
    (lacks_append 10 (decimal operation.error) (32 ∷ decimal operation.bytes) (decimal_lacks 10 (omega arith) operation.error (omega (arith, h.0)))
    (lacks_append 10 (32 ∷ []) (decimal operation.bytes) refl (decimal_lacks 10 (omega arith) operation.bytes (omega (arith, h.1)))))

same_operation : (a b : Operation) → IsInRange (Op a) → IsInRange (Op b) → line_text (Op a) ≡ line_text (Op b) → a ≡ b
same_operation a b h k e =
    let behind : decimal a.error ++ 32 ∷ decimal a.bytes ≡ decimal b.error ++ 32 ∷ decimal b.bytes = append_cancel_left (codes "op ") _ _ e in
    let s = front_same 32 (decimal a.error) (decimal b.error) (decimal a.bytes) (decimal b.bytes)
    (decimal_lacks 32 (omega arith) a.error (omega (arith, h.0))) (decimal_lacks 32 (omega arith) b.error (omega (arith, k.0))) behind in
    ap₂ (λ x y. record { error = x; bytes = y }) (decimal_injective a.error b.error (omega (arith, h.0)) (omega (arith, k.0)) s.0)
    (decimal_injective a.bytes b.bytes (omega (arith, h.1)) (omega (arith, k.1)) s.1)

same_line : (a b : Line) → IsInRange a → IsInRange b → line_text a ≡ line_text b → a ≡ b
same_line Device Device h k e = refl
same_line Device (Op b) h k e = absurd (omega (arith, ap (λ t. get_or t 0 0) e))
same_line (Op a) Device h k e = absurd (omega (arith, ap (λ t. get_or t 0 0) e))
same_line (Op a) (Op b) h k e = ap (λ (o : Operation). Op o) (same_operation a b h k e)

-- of two lines that a text begins with, each with its line feed
pub first_same : (a b : Line) (x y : List ℕ) → IsInRange a → IsInRange b → line_text a ++ 10 ∷ x ≡ line_text b ++ 10 ∷ y → (a ≡ b) × (x ≡ y)
first_same a b x y h k e =
    let s = front_same 10 (line_text a) (line_text b) x y (lacks_feed a h) (lacks_feed b k) e in
    (same_line a b h k s.0, s.1)
