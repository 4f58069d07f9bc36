-- Two outcomes with one text are one outcome.
use Rattle.std.proofs.Common.{◌≡◌, List, [], ◌∷◌, refl, sym, ap, ◌∙◌, Option, Some, None}
use Rattle.tp_base.specs.declared.answers.Answer.{Answer}
use Rattle.tp_base.specs.declared.answers.Look.{Look}
use Rattle.tp_base.specs.declared.answers.Look.TheVariants as look
use Rattle.tp_base.specs.declared.answers.Outcome.{Outcome}
use Rattle.tp_base.specs.declared.answers.Outcome.TheVariants as outcome
use Rattle.tp_lines.specs.declared.parts.Part.{Part}
use Rattle.tp_lines.specs.declared.parts.Part.TheVariants as part
use Rattle.tp_lines.specs.declared.words.Field.TheVariants as field
use Rattle.tp_lines.specs.declared.words.Word.{Word}
use Rattle.tp_lines.specs.declared.words.Word.TheVariants as word
use Rattle.tp_lines.specs.AnswerRows.{answer_at}
use Rattle.tp_lines.specs.Answers.{FitsAnswer, FitsOutcome, row_of_answer, row_of_full, row_of_look, text_of_outcome}
use Rattle.tp_lines.specs.Parts.{AreFit, IsWordPart, parts_of, row_text}
use Rattle.tp_lines.specs.Shapes.{table_of}
use Rattle.tp_lines.specs.Values.{part_at, small_of, large_of, word_of}
use Rattle.tp_lines.proofs.AnswerFacts.{answer_table}
use Rattle.tp_lines.proofs.Apart.{rows_apart}
use Rattle.tp_lines.proofs.RowFacts.{parts_part}
use Rattle.tp_lines.proofs.Tables.{one_row}

-- what was shown, told from its parts
abbrev target_at : Word → List Part → Option Outcome
target_at word.Callback parts = Some (outcome.Look (look.NotYet (large_of (part_at parts 3))))
target_at word.Kernel parts = Some (outcome.Look (look.NotYetKernel (record { 0 = small_of (part_at parts 3) })))
target_at _ parts = None

abbrev state_at : Word → List Part → Option Outcome
state_at word.NotYet parts = target_at (word_of (part_at parts 2)) parts
state_at word.Empty parts = Some (outcome.Look look.Empty)
state_at word.AtMaximum parts = Some (outcome.Look (look.AtMaximum (small_of (part_at parts 2))))
state_at word.NoNeed parts = Some (outcome.Look look.NoNeed)
state_at word.Stay parts = Some (outcome.Look look.Stay)
state_at _ parts = None

abbrev shown_at : Word → List Part → Option Outcome
shown_at word.Look parts = state_at (word_of (part_at parts 1)) parts
shown_at word.Full parts = Some (outcome.Full (large_of (part_at parts 1)) (large_of (part_at parts 2)))
shown_at _ parts = None

abbrev shown : List Part → Option Outcome
shown parts = shown_at (word_of (part_at parts 0)) parts

look_back : (l : Look) → shown (parts_of (row_of_look l)) ≡ Some (outcome.Look l)
look_back look.Empty = refl
look_back _ = refl

first_fits : (w : Word) → IsWordPart field.Answer (part.Word w) → table_of w ≡ field.Answer
first_fits w h = ap (λ p. table_of (word_of p)) h.is ∙ h.table

answer_first : (a : Answer) → FitsAnswer a → table_of (row_of_answer a).0 ≡ field.Answer
answer_first a h = first_fits (row_of_answer a).0 h.0

answers_one : (a b : Answer) → FitsAnswer a → FitsAnswer b → row_text (row_of_answer a) ≡ row_text (row_of_answer b) → a ≡ b
answers_one a b h k e = one_row field.Answer row_of_answer answer_at answer_table a b
    ((parts_part (field.Answer ∷ [])).unique (parts_of (row_of_answer a)) (parts_of (row_of_answer b)) (32 ∷ row_text (row_of_answer a))
    (record { fit = h; split = refl }) (record { fit = k; split = ap (λ t. 32 ∷ t) e }))

shown_one : (row other : Word × List Part) (x y : Outcome) → AreFit (field.Look ∷ []) (parts_of row) → AreFit (field.Look ∷ []) (parts_of other)
    → row_text row ≡ row_text other → shown (parts_of row) ≡ Some x → shown (parts_of other) ≡ Some y → x ≡ y
shown_one row other x y h k e f g =
    let parts = (parts_part (field.Look ∷ [])).unique (parts_of row) (parts_of other) (32 ∷ row_text row) (record { fit = h; split = refl }) (record { fit = k; split = ap (λ t. 32 ∷ t) e }) in
    let both : Some x ≡ Some y = sym f ∙ ap (λ l. shown l) parts ∙ g in
    cc

pub one_outcome : (x y : Outcome) → FitsOutcome x → FitsOutcome y → text_of_outcome x ≡ text_of_outcome y → x ≡ y
one_outcome (outcome.Done a) (outcome.Done b) h k e = ap (λ z. outcome.Done z) (answers_one a b h k e)
one_outcome (outcome.Done a) (outcome.Look l) h k e = absurd (rows_apart field.Answer (row_of_answer a) word.Look (row_of_look l).1 (answer_first a h) refl e)
one_outcome (outcome.Done a) (outcome.Full r c) h k e = absurd (rows_apart field.Answer (row_of_answer a) word.Full (row_of_full r c).1 (answer_first a h) refl e)
one_outcome (outcome.Look l) (outcome.Done b) h k e = absurd (rows_apart field.Answer (row_of_answer b) word.Look (row_of_look l).1 (answer_first b k) refl (sym e))
one_outcome (outcome.Full r c) (outcome.Done b) h k e = absurd (rows_apart field.Answer (row_of_answer b) word.Full (row_of_full r c).1 (answer_first b k) refl (sym e))
one_outcome (outcome.Look l) (outcome.Look m) h k e = shown_one (row_of_look l) (row_of_look m) (outcome.Look l) (outcome.Look m) h k e (look_back l) (look_back m)
one_outcome (outcome.Look l) (outcome.Full r c) h k e = shown_one (row_of_look l) (row_of_full r c) (outcome.Look l) (outcome.Full r c) h k e (look_back l) refl
one_outcome (outcome.Full r c) (outcome.Look l) h k e = shown_one (row_of_full r c) (row_of_look l) (outcome.Full r c) (outcome.Look l) h k e refl (look_back l)
one_outcome (outcome.Full r c) (outcome.Full s d) h k e = shown_one (row_of_full r c) (row_of_full s d) (outcome.Full r c) (outcome.Full s d) h k e refl refl
