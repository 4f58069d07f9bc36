-- Reading one of the words of a field.
use Rattle.std.proofs.Common.{◌≡◌, ℕ, ◌+◌, ◌<◌, ◌≤◌, List, [], ◌∷◌, ◌++◌, length, take, drop, get_or, sym, ap, ◌∙◌, subst, ◌⊎◌, inl, inr, false, IsTrue}
use Rattle.std.specs.Prelude.{Result}
use Rattle.std.proofs.lemmas.List.{take_more}
use Rattle.line_grammar.specs.Language.{Stops, AnyOf, IsRead, IsReadTo}
use Rattle.line_grammar.specs.Parts.{IsPart}
use Rattle.line_grammar.specs.Words.{Word as OneWord, EndsWord, Either, lacks, is_solid, further_of}
use Rattle.line_grammar.proofs.Pairs.{one_then}
use Rattle.line_grammar.proofs.Readings.{read_same}
use Rattle.line_grammar.proofs.WordFacts.{lacking_part, solid_lacks, solid_behind, further_read}
use Rattle.tp_lines.specs.declared.parts.Form.TheVariants as form
use Rattle.tp_lines.specs.declared.words.Field.{Field}
use Rattle.tp_lines.specs.declared.words.Field.TheVariants as field
use Rattle.tp_lines.specs.declared.words.TheConstants.{WORDS}
use Rattle.tp_lines.specs.declared.words.Word.{Word}
use Rattle.tp_lines.specs.Choices.{ChoiceTexts, IsListed, Met, default_word}
use Rattle.tp_lines.specs.Parts.{form_of}
use Rattle.tp_lines.specs.Shapes.{table_of, text_of_word}
use Rattle.tp_lines.proofs.WordRules.{all_listed, one_word, solid}

pub default_table : (f : Field) → form_of f ≡ form.Choice → table_of (default_word f) ≡ f
default_table field.Short e = cc
default_table _ e = cc

pub choice_part : (f : Field) (separator : ℕ) → separator < 45 → IsPart separator (ChoiceTexts f)
choice_part f separator low = lacking_part separator (ChoiceTexts f)
    (λ v w text a b. one_word v w (a.table ∙ sym b.table) (sym a.split ∙ b.split))
    (λ v text a. subst (λ t. IsTrue (lacks separator t)) (sym a.split) (solid_lacks separator low (text_of_word v) (solid v)))

pub never : IsTrue false → ⊥
never h = let no_such : ⊥ = cc in no_such

-- a word that the end or a byte of no word follows
pub choice_read : (f : Field) (w : Word) (text : List ℕ) (size : ℕ) → size ≤ length text → table_of w ≡ f → take size text ≡ text_of_word w
    → EndsWord (drop size text) → IsReadTo (ChoiceTexts f) text w size
choice_read f w text size within table split ended = record { within = within; text_of = record { table = table; split = split }; stops = stops_here (take size text) (drop size text) ended }
  where
    stops_here : (front rest : List ℕ) → EndsWord rest → Stops (AnyOf (ChoiceTexts f)) front rest
    stops_here front [] ended = tt
    stops_here front (x ∷ rest) ended = λ (more, (other, b)).
        solid_behind front x more (subst (λ t. IsTrue (is_solid t)) (sym b.split ∙ one_then front x more) (solid other)) ended

listed_front : (words : List Word) (x w : Word) → IsListed words w → IsListed (words ++ x ∷ []) w
listed_front [] x w listed = absurd listed
listed_front (y ∷ words) x w (inl e) = inl e
listed_front (y ∷ words) x w (inr listed) = inr (listed_front words x w listed)

listed_last : (words : List Word) (x w : Word) → w ≡ x → IsListed (words ++ x ∷ []) w
listed_last [] x w e = inl e
listed_last (y ∷ words) x w e = inr (listed_last words x w e)

listed_cases : (words : List Word) (x w : Word) → IsListed (words ++ x ∷ []) w → IsListed words w ⊎ (w ≡ x)
listed_cases [] x w (inl e) = inr e
listed_cases [] x w (inr listed) = absurd listed
listed_cases (y ∷ words) x w (inl e) = inl (inl e)
listed_cases (y ∷ words) x w (inr listed) = elim (listed_cases words x w listed) [ inl l ↦ inl (inr l) | inr e ↦ inr e ]

module _ (f : Field) (first : Word) where
  pub met_first : (text : List ℕ) (r : Result (Word × ℕ) ℕ) → IsRead (OneWord first (text_of_word first)) text r → IsRead (Met f first []) text r
  met_first text r read = read_same (OneWord first (text_of_word first)) (Met f first [])
      (λ w t a. record { which = inl a.means; split = a.split ∙ ap text_of_word (sym a.means) })
      (λ w t a. elim a.which [ inl e ↦ record { means = e; split = a.split ∙ ap text_of_word e } | inr l ↦ absurd l.0 ]) text r read

  module _ (words : List Word) (x : Word) where
    met_to : table_of x ≡ f → (w : Word) (t : List ℕ) → Either (Met f first words) (OneWord x (text_of_word x)) w t → Met f first (words ++ x ∷ []) w t
    met_to e w t (inl a) = record { which = elim a.which [ inl d ↦ inl d | inr l ↦ inr (listed_front words x w l.0, l.1) ]; split = a.split }
    met_to e w t (inr a) = record { which = inr (listed_last words x w a.means, ap table_of a.means ∙ e); split = a.split ∙ ap text_of_word (sym a.means) }

    met_back : (w : Word) (t : List ℕ) → Met f first (words ++ x ∷ []) w t → Either (Met f first words) (OneWord x (text_of_word x)) w t
    met_back w t a = elim a.which [
      | inl d ↦ inl (record { which = inl d; split = a.split })
      | inr l ↦ elim (listed_cases words x w l.0) [
        | inl listed ↦ inl (record { which = inr (listed, l.1); split = a.split })
        | inr e ↦ inr (record { means = e; split = a.split ∙ ap text_of_word e })
      ]
    ]

    pub met_more : table_of x ≡ f → (text : List ℕ) (r q z : Result (Word × ℕ) ℕ) → z ≡ further_of r q → IsRead (Met f first words) text r
        → IsRead (OneWord x (text_of_word x)) text q → IsRead (Met f first (words ++ x ∷ [])) text z
    met_more e text r q z further a b =
        read_same (Either (Met f first words) (OneWord x (text_of_word x))) (Met f first (words ++ x ∷ [])) (met_to e) met_back text z
        (further_read (Met f first words) (OneWord x (text_of_word x)) text r q z further a b)

    pub met_other : (table_of x ≡ f → ⊥) → (text : List ℕ) (r : Result (Word × ℕ) ℕ) → IsRead (Met f first words) text r → IsRead (Met f first (words ++ x ∷ [])) text r
    met_other other text r a = read_same (Met f first words) (Met f first (words ++ x ∷ []))
        (λ w t m. record { which = elim m.which [ inl d ↦ inl d | inr l ↦ inr (listed_front words x w l.0, l.1) ]; split = m.split })
        (λ w t m. record {
          which = elim m.which [
            | inl d ↦ inl d
            | inr l ↦ elim (listed_cases words x w l.0) [ inl listed ↦ inr (listed, l.1) | inr e ↦ absurd (other (ap table_of (sym e) ∙ l.1)) ]
          ];
          split = m.split;
        }) text r a

pub met_all : (f : Field) → form_of f ≡ form.Choice → (text : List ℕ) (r : Result (Word × ℕ) ℕ) → IsRead (Met f (default_word f) WORDS) text r → IsRead (ChoiceTexts f) text r
met_all f e text r a = read_same (Met f (default_word f) WORDS) (ChoiceTexts f)
    (λ w t m. record { table = elim m.which [ inl d ↦ ap table_of d ∙ default_table f e | inr l ↦ l.1 ]; split = m.split })
    (λ w t m. record { which = inr (all_listed w, m.table); split = m.split }) text r a

-- a step of the walk over all words
pub met_next : (f : Field) (first : Word) (words : List Word) (i : ℕ) (d : Word) → i < length words → (text : List ℕ) (z : Result (Word × ℕ) ℕ)
    → IsRead (Met f first (take i words ++ get_or words i d ∷ [])) text z → IsRead (Met f first (take (i + 1) words)) text z
met_next f first words i d inside text z read = subst (λ l. IsRead (Met f first l) text z) (sym (take_more words i d inside)) read
