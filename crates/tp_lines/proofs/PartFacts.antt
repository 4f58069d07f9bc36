-- What stands in one field.
use Rattle.std.proofs.Common.{◌≡◌, ℕ, ◌<◌, ◌≤◌, ◌^◌, List, ◌∷◌, refl, sym, ap, ◌∙◌, subst, arith, rules, None}
use Rattle.std.specs.Prelude.{decimal}
use Rattle.line_grammar.specs.Language.{AnyOf, IsReadTo, IsStuck}
use Rattle.line_grammar.specs.Numbers.{Numbers}
use Rattle.line_grammar.specs.Parts.{Led, IsPart}
use Rattle.line_grammar.proofs.NumberFacts.{numbers_part}
use Rattle.line_grammar.proofs.Readings.{read_renamed, stuck_renamed, part_renamed, led_part}
use Rattle.tp_lines.specs.declared.parts.Form.{Form}
use Rattle.tp_lines.specs.declared.parts.Form.TheVariants as form
use Rattle.tp_lines.specs.declared.parts.Part.{Part}
use Rattle.tp_lines.specs.declared.parts.Part.TheVariants as part
use Rattle.tp_lines.specs.declared.words.Field.{Field}
use Rattle.tp_lines.specs.declared.words.Field.TheVariants as field
use Rattle.tp_lines.specs.Choices.{BodyTexts, ChoiceTexts, DueTexts, MillisTexts, NamedTexts, PartTexts, default_word}
use Rattle.tp_lines.specs.Parts.{Fits, FitsForm, IsDuePart, IsMillisPart, IsNamedPart, IsNumberPart, IsWordPart, form_of, number_of, number_part, text_of_part}
use Rattle.tp_lines.specs.Values.{due_of, millis_of, named_of}
use Rattle.tp_lines.proofs.Choices.{choice_part, default_table}
use Rattle.tp_lines.proofs.DueFacts.{due_read_as, due_written, dues_part}
use Rattle.tp_lines.proofs.MillisFacts.{millis_part, millis_read_as, millis_written}
use Rattle.tp_lines.proofs.NamedFacts.{named_read_as, named_written, nameds_part}

number_back : (f : Field) (n : ℕ) → number_of (number_part f n) ≡ n
number_back field.Short n = refl
number_back _ n = refl

abbrev form_text : Form → ℕ → List ℕ
form_text (form.Lettered letter least most) n = letter ∷ decimal n
form_text _ n = decimal n

number_text : (f : Field) (n : ℕ) → text_of_part (number_part f n) ≡ form_text (form_of f) n
number_text field.Short n = refl
number_text _ n = refl

pub record IsSoundRange (least most : ℕ) : Type 0 where
  pub low : least ≤ 1
  pub order : least ≤ most
  pub bits : most < 2 ^ 64

abbrev pub IsSoundForm : Form → Type 0
IsSoundForm (form.Number least most) = IsSoundRange least most
IsSoundForm (form.Lettered letter least most) = IsSoundRange least most
IsSoundForm _ = Unit {0}

pub sound_form : (f : Field) → IsSoundForm (form_of f)
sound_form field.Short = search rules
sound_form _ = search rules

-- a field is spelled by a language, for whose values its parts are names
pub record IsSpelled {V : Type 0} (f : Field) (W : V → List ℕ → Type 0) (name : V → Part) : Type 0 where
  pub from : (p : Part) (t : List ℕ) → BodyTexts f p t → (v : V) × (W v t) × (p ≡ name v)
  pub to : (v : V) (t : List ℕ) → W v t → BodyTexts f (name v) t

module _ {V : Type 0} (f : Field) (W : V → List ℕ → Type 0) (name : V → Part) (is : IsSpelled f W name) where
  body_back : (p : Part) (t : List ℕ) → BodyTexts f p t → AnyOf W t
  body_back p t b = let v = is.from p t b in (v.0, v.1)

  pub body_read : (text : List ℕ) (v : V) (size : ℕ) → IsReadTo W text v size → IsReadTo (BodyTexts f) text (name v) size
  body_read text v size read = read_renamed W (BodyTexts f) body_back text v (name v) size (is.to v) read

  pub body_stuck : (text : List ℕ) (place : ℕ) → IsStuck W text place → IsStuck (BodyTexts f) text place
  body_stuck text place stuck = stuck_renamed W (BodyTexts f) body_back text place (λ v t a. (name v, is.to v t a)) stuck

  spelled_part : IsPart 32 W → IsPart 32 (BodyTexts f)
  spelled_part part = part_renamed 32 W (BodyTexts f) name is.from part

module _ (f : Field) where
  number_fits : (least most n : ℕ) → least ≤ n → n ≤ most → IsNumberPart f least most (number_part f n)
  number_fits least most n low high = record {
    is = ap (λ m. number_part f m) (sym (number_back f n));
    at_least = omega (arith, number_back f n);
    at_most = omega (arith, number_back f n);
  }

  spelled : (p : Part) (least most : ℕ) → IsNumberPart f least most p → (x : Form) → form_of f ≡ x → text_of_part p ≡ form_text x (number_of p)
  spelled p least most h x e = ap text_of_part h.is ∙ number_text f (number_of p) ∙ ap (λ y. form_text y (number_of p)) e

  pub plain_spelled : (least most : ℕ) → form_of f ≡ form.Number least most → IsSpelled f (Numbers least most) (λ n. number_part f n)
  plain_spelled least most e = record {
    from = λ p t b.
        let h : IsNumberPart f least most p = subst (λ x. FitsForm x f p) e b.fits in
        (number_of p, record { at_least = h.at_least; at_most = h.at_most; split = b.split ∙ spelled p least most h (form.Number least most) e }, h.is);
    to = λ n t a. record {
      fits = subst (λ x. FitsForm x f (number_part f n)) (sym e) (number_fits least most n a.at_least a.at_most);
      split = a.split ∙ sym (number_text f n ∙ ap (λ y. form_text y n) e);
    };
  }

  pub lettered_spelled : (letter least most : ℕ) → form_of f ≡ form.Lettered letter least most → IsSpelled f (Led letter (Numbers least most)) (λ n. number_part f n)
  lettered_spelled letter least most e = record {
    from = λ p t b.
        let h : IsNumberPart f least most p = subst (λ x. FitsForm x f p) e b.fits in (
          number_of p,
          record { rest = decimal (number_of p); split = b.split ∙ spelled p least most h (form.Lettered letter least most) e; behind = record { at_least = h.at_least; at_most = h.at_most; split = refl } },
          h.is,
        );
    to = λ n t a. record {
      fits = subst (λ x. FitsForm x f (number_part f n)) (sym e) (number_fits least most n a.behind.at_least a.behind.at_most);
      split = a.split ∙ ap (λ l. letter ∷ l) a.behind.split ∙ sym (number_text f n ∙ ap (λ y. form_text y n) e);
    };
  }

  pub due_spelled : form_of f ≡ form.Due → IsSpelled f DueTexts (λ due. part.Due due)
  due_spelled e = record {
    from = λ p t b.
        let h : IsDuePart p = subst (λ x. FitsForm x f p) e b.fits in
        (due_of p, due_read_as (due_of p) t h.in_range (b.split ∙ ap text_of_part h.is), h.is);
    to = λ due t a.
        let is = due_written due t a in
        record { fits = subst (λ x. FitsForm x f (part.Due due)) (sym e) (record { is = refl; in_range = is.0 }); split = is.1 };
  }

  pub named_spelled : form_of f ≡ form.Named → IsSpelled f NamedTexts (λ kernel. part.Named kernel)
  named_spelled e = record {
    from = λ p t b.
        let h : IsNamedPart p = subst (λ x. FitsForm x f p) e b.fits in
        (named_of p, named_read_as (named_of p) t h.in_range (b.split ∙ ap text_of_part h.is), h.is);
    to = λ kernel t a.
        let is = named_written kernel t a in
        record { fits = subst (λ x. FitsForm x f (part.Named kernel)) (sym e) (record { is = refl; in_range = is.0 }); split = is.1 };
  }

  pub millis_spelled : form_of f ≡ form.Millis → IsSpelled f MillisTexts (λ millis. part.Millis millis)
  millis_spelled e = record {
    from = λ p t b.
        let h : IsMillisPart p = subst (λ x. FitsForm x f p) e b.fits in
        (millis_of p, millis_read_as (millis_of p) t h.in_range (b.split ∙ ap text_of_part h.is), h.is);
    to = λ millis t a.
        let is = millis_written millis t a in
        record { fits = subst (λ x. FitsForm x f (part.Millis millis)) (sym e) (record { is = refl; in_range = is.0 }); split = is.1 };
  }

  pub word_spelled : form_of f ≡ form.Choice → IsSpelled f (ChoiceTexts f) (λ w. part.Word w)
  word_spelled e = record {
    from = λ p t b.
        let h : IsWordPart f p = subst (λ x. FitsForm x f p) e b.fits in
        (h.word, record { table = h.table; split = b.split ∙ ap text_of_part h.is }, h.is);
    to = λ w t a. record { fits = subst (λ x. FitsForm x f (part.Word w)) (sym e) (record { word = w; is = refl; table = a.table }); split = a.split };
  }

  by_form : (x : Form) → form_of f ≡ x → IsSoundForm x → IsPart 32 (BodyTexts f)
  by_form (form.Number least most) e s = spelled_part f (Numbers least most) (λ n. number_part f n) (plain_spelled least most e) (numbers_part least most 32 s.bits (omega arith))
  by_form (form.Lettered letter least most) e s =
      spelled_part f (Led letter (Numbers least most)) (λ n. number_part f n) (lettered_spelled letter least most e)
      (led_part letter (Numbers least most) 32 (numbers_part least most 32 s.bits (omega arith)))
  by_form form.Due e s = spelled_part f DueTexts (λ due. part.Due due) (due_spelled e) dues_part
  by_form form.Named e s = spelled_part f NamedTexts (λ kernel. part.Named kernel) (named_spelled e) nameds_part
  by_form form.Millis e s = spelled_part f MillisTexts (λ millis. part.Millis millis) (millis_spelled e) millis_part
  by_form form.Choice e s = spelled_part f (ChoiceTexts f) (λ w. part.Word w) (word_spelled e) (choice_part f 32 (omega arith))

  some_by_form : (x : Form) → form_of f ≡ x → IsSoundForm x → (p : Part) × Fits f p
  some_by_form (form.Number least most) e s = (number_part f most, subst (λ x. FitsForm x f (number_part f most)) (sym e) (number_fits least most most s.order (omega arith)))
  some_by_form (form.Lettered letter least most) e s = (number_part f most, subst (λ x. FitsForm x f (number_part f most)) (sym e) (number_fits least most most s.order (omega arith)))
  some_by_form form.Due e s = (part.Due None, subst (λ x. FitsForm x f (part.Due None)) (sym e) (record { is = refl; in_range = tt }))
  some_by_form form.Named e s = (part.Named None, subst (λ x. FitsForm x f (part.Named None)) (sym e) (record { is = refl; in_range = tt }))
  some_by_form form.Millis e s = (part.Millis None, subst (λ x. FitsForm x f (part.Millis None)) (sym e) (record { is = refl; in_range = tt }))
  some_by_form form.Choice e s =
      (part.Word (default_word f), subst (λ x. FitsForm x f (part.Word (default_word f))) (sym e) (record { word = default_word f; is = refl; table = default_table f e }))

pub body_part : (f : Field) → IsPart 32 (BodyTexts f)
body_part f = by_form f (form_of f) refl (sound_form f)

pub part_part : (f : Field) → IsPart 32 (PartTexts f)
part_part f = led_part 32 (BodyTexts f) 32 (body_part f)

-- something fits in each field
pub some_part : (f : Field) → (p : Part) × Fits f p
some_part f = some_by_form f (form_of f) refl (sound_form f)

-- with its text
pub some_text : (f : Field) → (t : List ℕ) × AnyOf (BodyTexts f) t
some_text f = let p = some_part f in (text_of_part p.0, (p.0, record { fits = p.1; split = refl }))
