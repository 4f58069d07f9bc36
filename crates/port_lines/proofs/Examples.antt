-- What the definitions say of small texts, and where no more devices or operations may stand.
use Rattle.std.proofs.Common.{◌≡◌, ℕ, ◌+◌, List, [], ◌∷◌, ◌++◌, length, get_or, refl, sym, ap, ◌∙◌, arith, inl, length-append}
use Rattle.std.specs.Fmt.{digits}
use Rattle.std.specs.Prelude.{codes}
use Rattle.std.proofs.lemmas.List.Elements.{All-cons, All-nil}
use Rattle.port_lines.specs.declared.lines.Line.{Line}
use Rattle.port_lines.specs.declared.lines.Line.TheVariants.{Device, Op}
use Rattle.port_lines.specs.declared.lines.Operation.{Operation}
use Rattle.port_lines.specs.Texts.{AreDevices, IsInRange, IsPortFault, IsPortText, LinesBelow, MayStand, line_text, lines_of, operation_count, text_of}

operation : ℕ → ℕ → Operation
operation error bytes = record { error = error; bytes = bytes }

no_device : IsPortText [] []
no_device = record { are = record { devices_most = omega arith; operations_most = omega arith; in_range = All-nil IsInRange }; split = refl }

one_device : IsPortText (codes "device\nop 0 512\nop 5 0\n") ((operation 0 512 ∷ operation 5 0 ∷ []) ∷ [])
unfolding operation digits
one_device = record {
  are = record {
    devices_most = omega arith;
    operations_most = omega arith;
    in_range = All-cons IsInRange Device (Op (operation 0 512) ∷ Op (operation 5 0) ∷ []) tt
        (All-cons IsInRange (Op (operation 0 512)) (Op (operation 5 0) ∷ []) (omega arith, omega arith) (All-cons IsInRange (Op (operation 5 0)) [] (omega arith, omega arith) (All-nil IsInRange)));
  };
  split = refl;
}

-- a fault at the first byte of a line, where each line that may stand there begins with another
at_first : (above : List (List Operation)) (x : ℕ) (rest : List ℕ) → AreDevices above
    → ((line : Line) → MayStand (length above) (operation_count above) line → get_or (line_text line) 0 0 ≡ x → ⊥)
    → IsPortFault (text_of (lines_of above) ++ x ∷ rest) (length (lines_of above) + 1) 1
at_first above x rest are apart = record {
  above = above;
  front = [];
  back = x ∷ rest;
  are_above = are;
  split = refl;
  left = λ e. let none : ⊥ = cc in none;
  open_line = λ e. omega (arith, ap length e.split, length-append e.line (10 ∷ []));
  longest = record { begins = inl refl; stops = λ (more, e). other more e.line e.is_line e.split };
  line_of = refl;
  column_of = refl;
}
  where
    other : (more line : List ℕ) → LinesBelow above line → x ∷ more ≡ line ++ 10 ∷ [] → ⊥
    other more line (Device, may) e = apart Device may.0 (sym (ap (λ t. get_or t 0 0) (e ∙ ap (λ l. l ++ 10 ∷ []) may.1)))
    other more line (Op o, may) e = apart (Op o) may.0 (sym (ap (λ t. get_or t 0 0) (e ∙ ap (λ l. l ++ 10 ∷ []) may.1)))

operation_first : IsPortFault (codes "op 0 1\n") 1 1
operation_first = at_first [] 111 (codes "p 0 1\n") (no_device.are) apart
  where
    apart : (line : Line) → MayStand 0 0 line → get_or (line_text line) 0 0 ≡ 111 → ⊥
    apart Device may e = omega (arith, e)
    apart (Op o) may e = omega (arith, may.0)

one_device_more : (above : List (List Operation)) (rest : List ℕ) → AreDevices above → length above ≡ 15
    → IsPortFault (text_of (lines_of above) ++ (codes "device" ++ rest)) (length (lines_of above) + 1) 1
one_device_more above rest are full = at_first above 100 (codes "evice" ++ rest) are apart
  where
    apart : (line : Line) → MayStand (length above) (operation_count above) line → get_or (line_text line) 0 0 ≡ 100 → ⊥
    apart Device may e = omega (arith, may, full)
    apart (Op o) may e = omega (arith, e)

one_operation_more : (above : List (List Operation)) (rest : List ℕ) → AreDevices above → operation_count above ≡ 8192
    → IsPortFault (text_of (lines_of above) ++ (codes "op" ++ rest)) (length (lines_of above) + 1) 1
one_operation_more above rest are full = at_first above 111 (codes "p" ++ rest) are apart
  where
    apart : (line : Line) → MayStand (length above) (operation_count above) line → get_or (line_text line) 0 0 ≡ 111 → ⊥
    apart Device may e = omega (arith, e)
    apart (Op o) may e = omega (arith, may.1, full)
