-- Rows with words of different tables have different texts.
use Rattle.std.proofs.Common.{◌≡◌, ℕ, List, [], ◌∷◌, ◌++◌, refl, sym, ap, ◌∙◌, subst, arith, IsTrue, Some, None}
use Rattle.line_grammar.specs.Parts.{Opens}
use Rattle.line_grammar.specs.Words.{lacks}
use Rattle.line_grammar.proofs.Cuts.{Cut, cut, further, nearer, same}
use Rattle.line_grammar.proofs.TraceFacts.{not_within}
use Rattle.line_grammar.proofs.WordFacts.{solid_lacks}
use Rattle.tp_lines.specs.declared.parts.Part.{Part}
use Rattle.tp_lines.specs.declared.words.Field.{Field}
use Rattle.tp_lines.specs.declared.words.TheConstants.{WORDS}
use Rattle.tp_lines.specs.declared.words.Word.{Word}
use Rattle.tp_lines.specs.Parts.{parts_text, row_text}
use Rattle.tp_lines.specs.Shapes.{table_of, text_of_word}
use Rattle.tp_lines.proofs.WordRules.{find, found, rank, solid}

-- the words of two texts are one, where a space or nothing follows each
first_word : (a r b s : List ℕ) → IsTrue (lacks 32 a) → IsTrue (lacks 32 b) → Opens 32 r → Opens 32 s → a ++ r ≡ b ++ s → a ≡ b
first_word a r b s la lb opened opened_too e = by_cut (cut a r b s e)
  where
    by_cut : Cut a r b s → a ≡ b
    by_cut (further x m f g) = absurd (not_within 32 x b m a la f (subst (λ l. Opens 32 l) g opened_too))
    by_cut (nearer x m f g) = absurd (not_within 32 x a m b lb f (subst (λ l. Opens 32 l) g opened))
    by_cut (same f g) = f

-- no word of the table has the text of one that isn't found there
not_found : (f : Field) (w v : Word) → table_of w ≡ f → text_of_word w ≡ text_of_word v → find (rank f) (text_of_word v) WORDS ≡ None → ⊥
not_found f w v e g none =
    let same : Some w ≡ None = sym (found w) ∙ ap (λ t. find (rank t) (text_of_word w) WORDS) e ∙ ap (λ t. find (rank f) t WORDS) g ∙ none in
    let no_such : ⊥ = cc in no_such

opens_parts : (parts : List Part) → Opens 32 (parts_text parts)
opens_parts [] = tt
opens_parts (p ∷ parts) = refl

-- so no row of the table has the text of a row with such a word
pub rows_apart : (f : Field) (row : Word × List Part) (w : Word) (parts : List Part) → table_of row.0 ≡ f
    → find (rank f) (text_of_word w) WORDS ≡ None → row_text row ≡ row_text (w, parts) → ⊥
rows_apart f row w parts e none g =
    not_found f row.0 w e (first_word (text_of_word row.0) (parts_text row.1) (text_of_word w) (parts_text parts)
    (solid_lacks 32 (omega arith) (text_of_word row.0) (solid row.0)) (solid_lacks 32 (omega arith) (text_of_word w) (solid w))
    (opens_parts row.1) (opens_parts parts) g) none
