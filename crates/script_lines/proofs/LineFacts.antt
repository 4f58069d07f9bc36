-- A line has one reading at most, has one fault at most, and not both.
use Rattle.std.proofs.Common.{◌≡◌, ℕ, ◌+◌, ◌<◌, ◌^◌, true, List, [], ◌∷◌, ◌++◌, Option, Some, None, length, sym, ap, ◌∙◌, subst, arith, inl, inr}
use Rattle.std.proofs.lemmas.Bool.{true≢false}
use Rattle.line_grammar.specs.Numbers.{Signed}
use Rattle.line_grammar.proofs.NumberFacts.{numbers_part, signed_unique}
use Rattle.script_lines.specs.declared.judge.Known.{Known}
use Rattle.script_lines.specs.declared.fault.ScriptKind.{ScriptKind}
use Rattle.script_lines.specs.declared.line.Form.{Form}
use Rattle.script_lines.specs.declared.line.Form.TheVariants as form
use Rattle.script_lines.specs.declared.line.Line.{Line}
use Rattle.script_lines.specs.declared.line.Token.{Token}
use Rattle.script_lines.specs.declared.line.Token.TheVariants as token
use Rattle.script_lines.specs.declared.words.Field.{Field}
use Rattle.script_lines.specs.declared.words.Field.TheVariants as field
use Rattle.script_lines.specs.Lines.{form_of, may_end}
use Rattle.script_lines.specs.Readings.{Fails, Goes, IsLineRead, Steps, StepsBy, Trail, first_trail, moved}
use Rattle.script_lines.specs.Texts.{Spot}
use Rattle.script_lines.specs.Tokens.{FitsForm, IsDueToken}
use Rattle.tp_lines.proofs.DueFacts.{due_apart}

-- numbers of a form are of 64 bits
abbrev IsBounded : Form → Type 0
IsBounded (form.Number least most) = most < 2 ^ 64
IsBounded _ = Unit {0}

bounded : (part : Field) (line : Line) → IsBounded (form_of part line)
bounded field.Head line = tt
bounded field.Count line = omega arith
bounded field.Small line = omega arith
bounded field.Large line = omega arith
bounded field.Time line = omega arith
bounded field.Level line = omega arith
bounded field.Limit line = omega arith
bounded field.Units line = omega arith
bounded field.UnitsOption line = omega arith
bounded _ line = tt

one_some : {A : Type 0} (o : Option A) (a b : A) → o ≡ Some a → o ≡ Some b → a ≡ b
one_some o a b p q = let e : Some a ≡ Some b = sym p ∙ q in cc

one_due : (text : List ℕ) (a b : Token) → IsDueToken text a → IsDueToken text b → a ≡ b
one_due text a b (None, e, p) (None, f, q) = e ∙ sym f
one_due text a b (None, e, p) (Some w, f, q) = absurd (due_apart w (subst (Signed w) p q))
one_due text a b (Some v, e, p) (None, f, q) = absurd (due_apart v (subst (Signed v) q p))
one_due text a b (Some v, e, p) (Some w, f, q) = e ∙ ap (λ due. token.Due (Some due)) (signed_unique v w text p q) ∙ sym f

module _ (known : Known) where
  one_said : (part : Field) (made : Form) (text : List ℕ) (a b : Token) → IsBounded made → FitsForm known part made text a → FitsForm known part made text b → a ≡ b
  one_said part form.Choice text a b bound p q = one_some _ a b p q
  one_said part (form.Number least most) text a b bound (n, e, p) (m, f, q) =
      e ∙ ap token.Number ((numbers_part least most 32 bound (omega arith)).unique n m text p q) ∙ sym f
  one_said part form.Due text a b bound p q = one_due text a b p q
  one_said part (form.Fresh tally) text a b bound p q = one_some _ a b p q
  one_said part (form.Name wanted) text a b bound p q = one_some _ a b p q
  one_said part form.Armed text a b bound p q = one_some _ a b p q
  one_said part form.Routine text a b bound p q = one_some _ a b p q

  one_step : (trail : Trail) (left : List Field) (text : List ℕ) (a b : Trail) → StepsBy known trail left text a → StepsBy known trail left text b → a ≡ b
  one_step trail [] text a b p q = absurd p
  one_step trail (part ∷ left) text a b (s, f, e) (t, g, h) =
      e ∙ ap (λ said. moved trail left said text) (one_said part (form_of part trail.line) text s t (bounded part trail.line) f g) ∙ sym h

  one_end : (spots : List Spot) (trail a b : Trail) → Goes known trail spots a → Goes known trail spots b → a ≡ b
  one_end [] trail a b p q = p ∙ sym q
  one_end (spot ∷ spots) trail a b (n, s, g) (m, t, h) =
      let same = one_step trail trail.left spot.word n m s t in
      one_end spots n a b g (subst (λ (next : Trail). Goes known next spots b) (sym same) h)

  -- a line has no fault
  good_line : (spots : List Spot) (behind : ℕ) (trail end : Trail) (column : ℕ) (kind : ScriptKind) → Goes known trail spots end → may_end end.left ≡ true → Fails known behind trail spots column kind → ⊥
  good_line [] behind trail end column kind goes whole (open_end, at, of) =
      true≢false (sym whole ∙ ap (λ (t : Trail). may_end t.left) goes ∙ open_end)
  good_line (spot ∷ spots) behind trail end column kind (n, s, g) whole (inl (stuck, at, of)) = stuck n s
  good_line (spot ∷ spots) behind trail end column kind (n, s, g) whole (inr (m, t, fails)) =
      let same = one_step trail trail.left spot.word n m s t in
      good_line spots (spot.column + length spot.word) n end column kind g whole
      (subst (λ (next : Trail). Fails known (spot.column + length spot.word) next spots column kind) (sym same) fails)

  -- behind words that lead to where a word may not stand, it stands in no line
  pub no_way : (front more : List Spot) (spot : Spot) (from trail end : Trail) → Goes known from front trail → ((next : Trail) → Steps known trail spot.word next → ⊥) → Goes known from (front ++ spot ∷ more) end → ⊥
  no_way [] more spot from trail end e stuck (next, s, g) = stuck next (subst (λ (t : Trail). Steps known t spot.word next) (sym e) s)
  no_way (word ∷ front) more spot from trail end (n, s, g) stuck (m, t, h) =
      let same = one_step from from.left word.word n m s t in
      no_way front more spot n trail end g stuck (subst (λ (next : Trail). Goes known next (front ++ spot ∷ more) end) (sym same) h)

  pub one_line_fault : (spots : List Spot) (behind : ℕ) (trail : Trail) (c d : ℕ) (k l : ScriptKind) → Fails known behind trail spots c k → Fails known behind trail spots d l → (c ≡ d) × (k ≡ l)
  one_line_fault [] behind trail c d k l (o, at, of) (p, here, as_is) = (at ∙ sym here, of ∙ sym as_is)
  one_line_fault (spot ∷ spots) behind trail c d k l (inl (stuck, at, of)) (inl (still, here, as_is)) = (at ∙ sym here, of ∙ sym as_is)
  one_line_fault (spot ∷ spots) behind trail c d k l (inl (stuck, at, of)) (inr (m, t, fails)) = absurd (stuck m t)
  one_line_fault (spot ∷ spots) behind trail c d k l (inr (n, s, fails)) (inl (stuck, at, of)) = absurd (stuck n s)
  one_line_fault (spot ∷ spots) behind trail c d k l (inr (n, s, f)) (inr (m, t, g)) =
      let same = one_step trail trail.left spot.word n m s t in
      one_line_fault spots (spot.column + length spot.word) n c d k l f
      (subst (λ (next : Trail). Fails known (spot.column + length spot.word) next spots d l) (sym same) g)

  pub one_line : (spots : List Spot) (a b : Line) (m n : List ℕ) → IsLineRead known spots a m → IsLineRead known spots b n → (a ≡ b) × (m ≡ n)
  one_line spots a b m n p q =
      let same = one_end spots first_trail p.end q.end p.goes q.goes in
      (p.line_of ∙ ap (λ (t : Trail). t.line) same ∙ sym q.line_of, p.name_of ∙ ap (λ (t : Trail). t.name) same ∙ sym q.name_of)

  pub no_line_fault : (spots : List Spot) (line : Line) (name : List ℕ) (column : ℕ) (kind : ScriptKind) → IsLineRead known spots line name → Fails known 1 first_trail spots column kind → ⊥
  no_line_fault spots line name column kind read fails = good_line spots 1 first_trail read.end column kind read.goes read.whole fails
