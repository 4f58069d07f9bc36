-- How far the lines of devices have been read.
use Rattle.std.proofs.Common.{◌≡◌, ℕ, ◌+◌, ◌<◌, List, [], ◌∷◌, ◌++◌, length, take, drop, refl, sym, ap, ◌∙◌, subst, arith, append_assoc, length-append, ◌⊎◌, inl, inr}
use Rattle.std.proofs.lemmas.List.{append-nil, append_cancel_left, length-take-le, nil_from_length, take-append-drop}
use Rattle.std.proofs.lemmas.List.Elements.{All-nil}
use Rattle.line_grammar.specs.Language.{AnyOf, Begins, Stops, IsReadTo}
use Rattle.line_grammar.specs.Traces.{EndedLine}
use Rattle.line_grammar.proofs.Cuts.{Cut, cut, further, nearer, same}
use Rattle.line_grammar.proofs.Pairs.{one_then}
use Rattle.port_lines.specs.declared.lines.Line.{Line}
use Rattle.port_lines.specs.declared.lines.Operation.{Operation}
use Rattle.port_lines.specs.Readings.{EndedLines, IsStuckAt}
use Rattle.port_lines.specs.Texts.{AreDevices, IsInRange, IsPortFault, IsPortText, LinesBelow, MayStand, line_text, lines_of, operation_count, text_of}
use Rattle.port_lines.proofs.DeviceFacts.{are_more, in_range_of, line_count, may_stand, same_devices}
use Rattle.port_lines.proofs.LineFacts.{first_same}

text_of-append : (lines more : List Line) → text_of (lines ++ more) ≡ text_of lines ++ text_of more
text_of-append [] more = refl
text_of-append (line ∷ lines) more =
    ap (λ t. line_text line ++ 10 ∷ t) (text_of-append lines more)
    ∙ sym (append_assoc (line_text line) (10 ∷ text_of lines) (text_of more))

-- the lines of these devices were read, and this is left; and a text of devices begins with them
pub record IsReadSo (bytes : List ℕ) (devices : List (List Operation)) (operations : ℕ) (rest : List ℕ) : Type 0 where
  pub are : AreDevices devices
  pub counts : operations ≡ operation_count devices
  pub split : bytes ≡ text_of (lines_of devices) ++ rest
  pub only : (all : List (List Operation)) → IsPortText bytes all → (tail : List Line) × (lines_of all ≡ lines_of devices ++ tail)

pub read_none : (bytes : List ℕ) → IsReadSo bytes [] 0 bytes
read_none bytes = record {
  are = record { devices_most = omega arith; operations_most = omega arith; in_range = All-nil IsInRange };
  counts = refl;
  split = refl;
  only = λ all t. (lines_of all, refl);
}

module _ (bytes : List ℕ) (devices : List (List Operation)) (operations : ℕ) (rest : List ℕ) (r : IsReadSo bytes devices operations rest) where
  -- what is left of such a text
  rest_is : (all : List (List Operation)) → IsPortText bytes all → (tail : List Line) → lines_of all ≡ lines_of devices ++ tail → rest ≡ text_of tail
  rest_is all t tail e =
      append_cancel_left (text_of (lines_of devices)) rest (text_of tail)
      (sym r.split ∙ t.split ∙ ap (λ l. text_of l) e ∙ text_of-append (lines_of devices) tail)

  pub read_next : (line : Line) (size : ℕ) → IsReadTo (EndedLines (length devices) operations) rest line size → (new : List (List Operation)) (count : ℕ)
      → lines_of new ≡ lines_of devices ++ line ∷ [] → count + length new ≡ operations + length devices + 1 → IsReadSo bytes new count (drop size rest)
  read_next line size read new count lines counted =
      let t = read.text_of in
      let may : MayStand (length devices) (operation_count devices) line = subst (λ n. MayStand (length devices) n line) r.counts t.0 in
      let first : rest ≡ line_text line ++ 10 ∷ drop size rest
      = sym (take-append-drop size rest) ∙ ap (λ l. l ++ drop size rest) t.1 ∙ append_assoc (line_text line) (10 ∷ []) (drop size rest) in
      record {
        are = are_more devices new line r.are may lines;
        counts = omega (arith, counted, r.counts, line_count devices, line_count new, ap length lines, length-append (lines_of devices) (line ∷ []));
        split = r.split ∙ ap (λ l. text_of (lines_of devices) ++ l) (first ∙ sym (append_assoc (line_text line) (10 ∷ []) (drop size rest)))
            ∙ sym (append_assoc (text_of (lines_of devices)) (line_text line ++ 10 ∷ []) (drop size rest))
            ∙ ap (λ l. l ++ drop size rest) (sym (text_of-append (lines_of devices) (line ∷ [])) ∙ ap (λ l. text_of l) (sym lines));
        only = λ all t. (let o = r.only all t in next_only may first all t o.0 o.1);
      }
    where
      next_only : MayStand (length devices) (operation_count devices) line → rest ≡ line_text line ++ 10 ∷ drop size rest
          → (all : List (List Operation)) → IsPortText bytes all → (tail : List Line) → lines_of all ≡ lines_of devices ++ tail
          → (more : List Line) × (lines_of all ≡ lines_of new ++ more)
      next_only may first all t [] e = absurd (omega (arith, ap length (rest_is all t [] e), ap length first, length-append (line_text line) (10 ∷ drop size rest)))
      next_only may first all t (m ∷ tail) e =
          let also = may_stand devices all m tail t.are e in
          let s = first_same line m (drop size rest) (text_of tail) (in_range_of (length devices) (operation_count devices) line may) (in_range_of (length devices) (operation_count devices) m also)
          (sym first ∙ rest_is all t (m ∷ tail) e) in
          (tail, e ∙ ap (λ x. lines_of devices ++ x ∷ tail) (sym s.0) ∙ sym (append_assoc (lines_of devices) (line ∷ []) tail) ∙ ap (λ l. l ++ tail) (sym lines))

  -- ---- where no line stands

  abbrev Below : List ℕ → Type 0
  Below = EndedLine (LinesBelow devices)

  abbrev Here : Line → List ℕ → Type 0
  Here = EndedLines (length devices) (operation_count devices)

  below_ended : (text : List ℕ) → Below text → AnyOf Here text
  below_ended text e = (e.is_line.0, (e.is_line.1.0, e.split ∙ ap (λ l. l ++ 10 ∷ []) e.is_line.1.1))

  ended_below : (text : List ℕ) → AnyOf Here text → Below text
  ended_below text (line, e) = record { line = line_text line; is_line = (line, (e.0, refl)); split = e.1 }

  begins_below : (front : List ℕ) → ((front ≡ []) ⊎ Begins (AnyOf Here) front) → (front ≡ []) ⊎ Begins Below front
  begins_below front (inl e) = inl e
  begins_below front (inr b) = inr (b.0, ended_below (front ++ b.0) b.1)

  stops_below : (front back : List ℕ) → Stops (AnyOf Here) front back → Stops Below front back
  stops_below front [] stops = tt
  stops_below front (x ∷ back) stops = λ (more, e). stops (more, below_ended ((front ++ x ∷ []) ++ more) e)

  stuck_here : (place : ℕ) → IsStuckAt (EndedLines (length devices) operations) rest place → IsStuckAt Here rest place
  stuck_here place stuck = subst (λ n. IsStuckAt (EndedLines (length devices) n) rest place) r.counts stuck

  pub read_fault : (place : ℕ) → 0 < length rest → IsStuckAt (EndedLines (length devices) operations) rest place → (line column : ℕ) → line ≡ length devices + operations + 1 → column ≡ place + 1
      → IsPortFault bytes line column
  read_fault place more h line column e f =
      let stuck = stuck_here place h in
      let size : length (take place rest) ≡ place = length-take-le place rest stuck.within in
      record {
        above = devices;
        front = take place rest;
        back = drop place rest;
        are_above = r.are;
        split = r.split ∙ ap (λ l. text_of (lines_of devices) ++ l) (sym (take-append-drop place rest));
        left = λ none. omega (arith, more, ap length (take-append-drop place rest), ap length none);
        open_line = λ e. stuck.absent (below_ended (take place rest) e);
        longest = record { begins = begins_below (take place rest) stuck.longest.begins; stops = stops_below (take place rest) (drop place rest) stuck.longest.stops };
        line_of = omega (arith, e, r.counts, line_count devices);
        column_of = omega (arith, f, size);
      }

  -- no line that may stand there stands at the front of what is left
  module _ (place : ℕ) (stuck : IsStuckAt Here rest place) (line : Line) (may : MayStand (length devices) (operation_count devices) line) (behind : List ℕ) where
    stopped : (back : List ℕ) → Stops (AnyOf Here) (take place rest) back → (x : ℕ) (m : List ℕ) → line_text line ++ 10 ∷ [] ≡ take place rest ++ x ∷ m → back ≡ x ∷ m ++ behind → ⊥
    stopped [] stops x m f g = let none : ⊥ = cc in none
    stopped (z ∷ back) stops x m f g =
        let at : z ≡ x = cc in
        stops (m, (line, (may, one_then (take place rest) z m ∙ ap (λ b. take place rest ++ b ∷ m) at ∙ sym f)))

    longer : (x : ℕ) (m : List ℕ) → take place rest ≡ (line_text line ++ 10 ∷ []) ++ x ∷ m → (take place rest ≡ []) ⊎ Begins (AnyOf Here) (take place rest) → ⊥
    longer x m f (inl e) = omega (arith, ap length e, ap length f, length-append (line_text line ++ 10 ∷ []) (x ∷ m))
    longer x m f (inr (more, (other, e))) =
        let whole : line_text other ++ 10 ∷ [] ≡ line_text line ++ 10 ∷ (x ∷ m ++ more) =
        sym e.1 ∙ ap (λ l. l ++ more) f ∙ append_assoc (line_text line ++ 10 ∷ []) (x ∷ m) more ∙ append_assoc (line_text line) (10 ∷ []) (x ∷ m ++ more) in
        let s = first_same other line [] (x ∷ m ++ more) (in_range_of (length devices) (operation_count devices) other e.0) (in_range_of (length devices) (operation_count devices) line may) whole in
        let none : ⊥ = cc (s.1) in none

    no_line : rest ≡ line_text line ++ 10 ∷ behind → ⊥
    no_line e =
        by_cut
        (cut (take place rest) (drop place rest) (line_text line ++ 10 ∷ []) behind (take-append-drop place rest ∙ e ∙ sym (append_assoc (line_text line) (10 ∷ []) behind)))
      where
        by_cut : Cut (take place rest) (drop place rest) (line_text line ++ 10 ∷ []) behind → ⊥
        by_cut (further x m f g) = longer x m f stuck.longest.begins
        by_cut (nearer x m f g) = stopped (drop place rest) stuck.longest.stops x m f g
        by_cut (same f g) = stuck.absent (line, (may, f))

  -- then the bytes are no text of devices
  pub read_no : (place : ℕ) → 0 < length rest → IsStuckAt (EndedLines (length devices) operations) rest place → (all : List (List Operation)) → IsPortText bytes all → ⊥
  read_no place more h all t = let o = r.only all t in of_tail o.0 o.1
    where
      of_tail : (tail : List Line) → lines_of all ≡ lines_of devices ++ tail → ⊥
      of_tail [] e = omega (arith, more, ap length (rest_is all t [] e))
      of_tail (m ∷ tail) e = no_line place (stuck_here place h) m (may_stand devices all m tail t.are e) (text_of tail) (rest_is all t (m ∷ tail) e)

  -- ---- where nothing is left

  pub read_all : length rest ≡ 0 → IsPortText bytes devices
  read_all none = record { are = r.are; split = r.split ∙ ap (λ t. text_of (lines_of devices) ++ t) (nil_from_length rest none) ∙ append-nil (text_of (lines_of devices)) }

  pub read_only : length rest ≡ 0 → (all : List (List Operation)) → IsPortText bytes all → devices ≡ all
  read_only none all t = let o = r.only all t in of_tail o.0 o.1
    where
      of_tail : (tail : List Line) → lines_of all ≡ lines_of devices ++ tail → devices ≡ all
      of_tail [] e = same_devices devices all (sym (e ∙ append-nil (lines_of devices)))
      of_tail (m ∷ tail) e = absurd (omega (arith, none, ap length (rest_is all t (m ∷ tail) e), length-append (line_text m) (10 ∷ text_of tail)))
