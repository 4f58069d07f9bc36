-- A text is one script at most, has one first fault at most, and not both.
use Rattle.std.proofs.Common.{◌≡◌, ℕ, ◌+◌, false, List, [], ◌∷◌, Err, sym, ap, ◌∙◌, subst, inl, inr}
use Rattle.std.proofs.lemmas.Bool.{true≢false}
use Rattle.script_lines.specs.declared.judge.Known.{Known}
use Rattle.script_lines.specs.declared.fault.ScriptKind.{ScriptKind}
use Rattle.script_lines.specs.declared.line.Line.{Line}
use Rattle.script_lines.specs.Readings.{first_trail}
use Rattle.script_lines.specs.States.{is_inside}
use Rattle.script_lines.specs.Texts.{lines_of}
use Rattle.script_lines.proofs.LineFacts.{no_line_fault, one_line, one_line_fault}
use Rattle.tp_script.specs.declared.fault.ScriptFault.{ScriptFault}
use Rattle.tp_script.specs.declared.fault.ScriptFault.TheVariants.{NoMemory, At}
use Rattle.tp_script.specs.declared.numbered.NumberedLine.{NumberedLine}
use Rattle.tp_script.specs.Answers.{IsScriptFault, IsThat}
use Rattle.tp_script.specs.Parsed.{Parsed, parsed}
use Rattle.tp_script.specs.Scripts.{AreLinesOf, Faults, IsFaultIn, IsParsed, IsScript, Reads, first_known, known_after, words_of}

abbrev numbered : ℕ → Line → NumberedLine
numbered number line = record { number = number; line = line }

-- behind one line
same_after : (known : Known) (a b : Line) (m n : List ℕ) → (a ≡ b) × (m ≡ n) → known_after known a m ≡ known_after known b n
same_after known a b m n (p, q) = ap (λ (l : Line). known_after known l m) p ∙ ap (λ (t : List ℕ). known_after known b t) q

pub one_reading : (texts : List (List ℕ)) (known : Known) (number : ℕ) (a b : List NumberedLine) (end other : Known) → Reads known number texts a end → Reads known number texts b other → (a ≡ b) × (end ≡ other)
one_reading [] known number a b end other (p, e) (q, f) = (p ∙ sym q, e ∙ sym f)
one_reading (text ∷ texts) known number a b end other (inl (blank, p)) (inl (too, q)) = one_reading texts known (number + 1) a b end other p q
one_reading (text ∷ texts) known number a b end other (inl (blank, p)) (inr (solid, q)) = absurd (true≢false (sym blank ∙ solid))
one_reading (text ∷ texts) known number a b end other (inr (solid, p)) (inl (blank, q)) = absurd (true≢false (sym blank ∙ solid))
one_reading (text ∷ texts) known number a b end other (inr (solid, (line, name, more, r, e, p))) (inr (too, (said, called, rest, s, f, q))) =
    let same = one_line known (words_of text) line said name called r s in
    let both = one_reading texts (known_after known line name) (number + 1) more rest end other p
    (subst (λ (next : Known). Reads next (number + 1) texts rest other) (sym (same_after known line said name called same)) q) in
    (e ∙ ap (λ (l : Line). numbered number l ∷ more) same.0 ∙ ap (λ (rows : List NumberedLine). numbered number said ∷ rows) both.0 ∙ sym f, both.1)

pub no_fault : (texts : List (List ℕ)) (known end : Known) (number : ℕ) (rows : List NumberedLine) (line column : ℕ) (kind : ScriptKind) → Reads known number texts rows end → is_inside end.state.place ≡ false
    → Faults known number texts line column kind → ⊥
no_fault [] known end number rows line column kind (p, e) closed (open_end, at, first, of) =
    true≢false (sym open_end ∙ ap (λ (k : Known). is_inside k.state.place) (sym e) ∙ closed)
no_fault (text ∷ texts) known end number rows line column kind (inl (blank, p)) closed (inl (too, f)) = no_fault texts known end (number + 1) rows line column kind p closed f
no_fault (text ∷ texts) known end number rows line column kind (inl (blank, p)) closed (inr (inl (solid, at, f))) = absurd (true≢false (sym blank ∙ solid))
no_fault (text ∷ texts) known end number rows line column kind (inl (blank, p)) closed (inr (inr (solid, f))) = absurd (true≢false (sym blank ∙ solid))
no_fault (text ∷ texts) known end number rows line column kind (inr (solid, p)) closed (inl (blank, f)) = absurd (true≢false (sym blank ∙ solid))
no_fault (text ∷ texts) known end number rows line column kind (inr (solid, (said, name, more, r, e, p))) closed (inr (inl (too, at, f))) =
    no_line_fault known (words_of text) said name column kind r f
no_fault (text ∷ texts) known end number rows line column kind (inr (solid, (said, name, more, r, e, p))) closed (inr (inr (too, (other, called, s, f)))) =
    let same = one_line known (words_of text) said other name called r s in
    no_fault texts (known_after known said name) end (number + 1) more line column kind p closed
    (subst (λ (next : Known). Faults next (number + 1) texts line column kind) (sym (same_after known said other name called same)) f)

pub one_fault : (texts : List (List ℕ)) (known : Known) (number : ℕ) (i j c d : ℕ) (k l : ScriptKind) → Faults known number texts i c k → Faults known number texts j d l → (i ≡ j) × (c ≡ d) × (k ≡ l)
one_fault [] known number i j c d k l (o, p, q, r) (u, v, w, x) = (p ∙ sym v, q ∙ sym w, r ∙ sym x)
one_fault (text ∷ texts) known number i j c d k l (inl (blank, f)) (inl (too, g)) = one_fault texts known (number + 1) i j c d k l f g
one_fault (text ∷ texts) known number i j c d k l (inl (blank, f)) (inr (inl (solid, at, g))) = absurd (true≢false (sym blank ∙ solid))
one_fault (text ∷ texts) known number i j c d k l (inl (blank, f)) (inr (inr (solid, g))) = absurd (true≢false (sym blank ∙ solid))
one_fault (text ∷ texts) known number i j c d k l (inr (inl (solid, at, f))) (inl (blank, g)) = absurd (true≢false (sym blank ∙ solid))
one_fault (text ∷ texts) known number i j c d k l (inr (inr (solid, f))) (inl (blank, g)) = absurd (true≢false (sym blank ∙ solid))
one_fault (text ∷ texts) known number i j c d k l (inr (inl (solid, at, f))) (inr (inl (too, here, g))) =
    let both = one_line_fault known (words_of text) 1 first_trail c d k l f g in
    (at ∙ sym here, both.0, both.1)
one_fault (text ∷ texts) known number i j c d k l (inr (inl (solid, at, f))) (inr (inr (too, (said, name, r, g)))) =
    absurd (no_line_fault known (words_of text) said name c k r f)
one_fault (text ∷ texts) known number i j c d k l (inr (inr (solid, (said, name, r, f)))) (inr (inl (too, at, g))) =
    absurd (no_line_fault known (words_of text) said name d l r g)
one_fault (text ∷ texts) known number i j c d k l (inr (inr (solid, (said, name, r, f)))) (inr (inr (too, (other, called, s, g)))) =
    let same = one_line known (words_of text) said other name called r s in
    one_fault texts (known_after known said name) (number + 1) i j c d k l f
    (subst (λ (next : Known). Faults next (number + 1) texts j d l) (sym (same_after known said other name called same)) g)

one_rows : (text : List ℕ) (a b : List NumberedLine) → AreLinesOf text a → AreLinesOf text b → a ≡ b
one_rows text a b p q = (one_reading (lines_of text) (first_known (lines_of text)) 1 a b p.end q.end p.reads q.reads).0

pub one_parsed : (text : List ℕ) (a b : Parsed) → IsParsed text a → IsParsed text b → a ≡ b
one_parsed text a b (rows, p, e) (other, q, f) = e ∙ ap parsed (one_rows text rows other p q) ∙ sym f

pub one_script : (text : List ℕ) (a b : List Line) → IsScript text a → IsScript text b → a ≡ b
one_script text a b (script, p, e) (other, q, f) = e ∙ ap (λ (s : Parsed). s.lines) (one_parsed text script other p q) ∙ sym f

pub no_fault_in : (text : List ℕ) (lines : List Line) (line column : ℕ) (kind : ScriptKind) → IsScript text lines → IsFaultIn text line column kind → ⊥
no_fault_in text lines line column kind (script, (rows, p, e), f) fault = no_fault (lines_of text) (first_known (lines_of text)) p.end 1 rows line column kind p.reads p.closed fault

-- where there is a fault, no script is looked for
pub only_fault : (text : List ℕ) (fault : ScriptFault) → IsScriptFault text fault → (lines : List Line) → IsScript text lines → IsThat lines (Err fault)
only_fault text NoMemory told lines script = tt
only_fault text (At line column kind) told lines script = no_fault_in text lines line column kind script told
