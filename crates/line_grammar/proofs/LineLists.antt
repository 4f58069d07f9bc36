-- Lines of values one after another: one more of them, their fault, and that they are those of no other values.
use Rattle.std.proofs.Common.{◌≡◌, ℕ, ◌+◌, ◌<◌, ◌≤◌, List, [], ◌∷◌, ◌++◌, length, take, drop, refl, sym, ap, ◌∙◌, subst, arith, append_assoc, length-append}
use Rattle.std.proofs.lemmas.List.{append-nil, length-take-le, take-append-drop}
use Rattle.std.proofs.lemmas.List.Elements.{All-cons, All-nil}
use Rattle.std.specs.Prelude.{All}
use Rattle.line_grammar.specs.Language.{AnyOf, IsStuck}
use Rattle.line_grammar.specs.Lines.{AreLines, AreLinesTo}
use Rattle.line_grammar.specs.Parts.{IsPart}
use Rattle.line_grammar.specs.Traces.{trace_text, Ended, IsTraceFault}
use Rattle.line_grammar.proofs.EndedFacts.{absent_line, first_same, reaches_line, stuck_first}

-- lines of the language, and the rest behind them
record AreTexts {V : Type 0} (W : V → List ℕ → Type 0) (rest : List ℕ) (count : ℕ) (bytes : List ℕ) : Type 0 where
  lines : List (List ℕ)
  each : All (AnyOf W) lines
  split : bytes ≡ trace_text lines ++ rest
  counts : length lines ≡ count

-- what is left of a text's lines, where some of them are known
record AreLeft {V : Type 0} (W : V → List ℕ → Type 0) (values all : List V) (rest : List ℕ) : Type 0 where
  tail : List V
  split : all ≡ values ++ tail
  lines : AreLines W tail rest

module _ {V : Type 0} (W : V → List ℕ → Type 0) where
  -- what was read is one line more
  pub lines_push : (rest more : List ℕ) (values : List V) (value : V) (line bytes : List ℕ) → AreLinesTo W rest values bytes → W value line → rest ≡ line ++ 10 ∷ more → AreLinesTo W more (values ++ value ∷ []) bytes
  lines_push rest more [] value line bytes lines is split = record { line = line; rest = more; is_line = is; split = lines ∙ split; behind = refl }
  lines_push rest more (first ∷ values) value line bytes lines is split =
      record {
        line = lines.line;
        rest = lines.rest;
        is_line = lines.is_line;
        split = lines.split;
        behind = lines_push rest more values value line lines.rest lines.behind is split;
      }

  texts : (rest : List ℕ) (values : List V) (bytes : List ℕ) → AreLinesTo W rest values bytes → AreTexts W rest (length values) bytes
  texts rest [] bytes lines = record { lines = []; each = All-nil (AnyOf W); split = lines; counts = refl }
  texts rest (value ∷ values) bytes lines =
      let behind = texts rest values lines.rest lines.behind in
      record {
        lines = lines.line ∷ behind.lines;
        each = All-cons (AnyOf W) lines.line behind.lines (value, lines.is_line) behind.each;
        split = lines.split ∙ ap (λ t. lines.line ++ 10 ∷ t) behind.split ∙ sym (append_assoc lines.line (10 ∷ trace_text behind.lines) rest);
        counts = omega (arith, behind.counts);
      }

  -- each line has at least its line feed
  pub lines_count : (rest : List ℕ) (values : List V) (bytes : List ℕ) → AreLinesTo W rest values bytes → length values + length rest ≤ length bytes
  lines_count rest [] bytes lines = omega (arith, ap length lines)
  lines_count rest (value ∷ values) bytes lines =
      omega (arith, lines_count rest values lines.rest lines.behind, ap length lines.split, length-append lines.line (10 ∷ lines.rest))

module _ {V : Type 0} (W : V → List ℕ → Type 0) (part : IsPart 10 W) where
  -- the first fault is in the line behind those that were read
  pub lines_fault : (rest : List ℕ) (values : List V) (bytes : List ℕ) (place : ℕ) → AreLinesTo W rest values bytes → 0 < length rest → IsStuck (Ended W) rest place → IsTraceFault (AnyOf W) bytes (length values + 1) (place + 1)
  lines_fault rest values bytes place lines more stuck =
      let t = texts W rest values bytes lines in
      let size : length (take place rest) ≡ place = length-take-le place rest stuck.within in
      record {
        lines = t.lines;
        front = take place rest;
        back = drop place rest;
        each = t.each;
        split = t.split ∙ ap (λ l. trace_text t.lines ++ l) (sym (take-append-drop place rest));
        left = λ none. omega (arith, more, ap length (take-append-drop place rest), ap length none);
        open_line = absent_line W part (take place rest) stuck.absent;
        reaches = reaches_line W part (take place rest) (drop place rest) stuck.reaches;
        line_of = omega (arith, t.counts);
        column_of = omega (arith, size);
      }

  -- all values of a text begin with those that were read
  lines_left : (rest : List ℕ) (values all : List V) (bytes : List ℕ) → AreLinesTo W rest values bytes → AreLines W all bytes → AreLeft W values all rest
  lines_left rest [] all bytes lines whole = record { tail = all; split = refl; lines = subst (AreLines W all) lines whole }
  lines_left rest (value ∷ values) [] bytes lines whole =
      absurd (omega (arith, ap length whole, ap length lines.split, length-append lines.line (10 ∷ lines.rest)))
  lines_left rest (value ∷ values) (other ∷ all) bytes lines whole =
      let same = first_same W part value other lines.line whole.line lines.rest whole.rest lines.is_line whole.is_line (sym lines.split ∙ whole.split) in
      let left = lines_left rest values all lines.rest lines.behind (subst (AreLines W all) (sym same.2) whole.behind) in
      record { tail = left.tail; split = ap (λ v. v ∷ all) (sym same.0) ∙ ap (λ vs. value ∷ vs) left.split; lines = left.lines }

  -- where what is left begins with no line, the bytes are no lines
  pub lines_no : (rest : List ℕ) (values all : List V) (bytes : List ℕ) (place : ℕ) → AreLinesTo W rest values bytes → 0 < length rest → IsStuck (Ended W) rest place → AreLines W all bytes → ⊥
  lines_no rest values all bytes place lines more stuck whole = let left = lines_left rest values all bytes lines whole in of_tail left.tail left.lines
    where
      of_tail : (tail : List V) → AreLines W tail rest → ⊥
      of_tail [] t = omega (arith, more, ap length t)
      of_tail (value ∷ tail) t = stuck_first W part rest place stuck value t.line t.rest t.is_line t.split

  -- they are the lines of no other values
  pub lines_only : (values all : List V) (bytes : List ℕ) → AreLines W values bytes → AreLines W all bytes → values ≡ all
  lines_only values all bytes lines whole = let left = lines_left [] values all bytes lines whole in of_tail left.tail left.split left.lines
    where
      of_tail : (tail : List V) → all ≡ values ++ tail → AreLines W tail [] → values ≡ all
      of_tail [] e t = sym (e ∙ append-nil values)
      of_tail (value ∷ tail) e t = absurd (omega (arith, ap length t.split, length-append t.line (10 ∷ t.rest)))
