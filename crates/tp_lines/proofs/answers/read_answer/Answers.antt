use Rattle.std.proofs.Common.{◌≡◌, [], ◌∷◌, sym, ap, ◌∙◌, subst}
use Rattle.tp_lines.specs.declared.words.Field.TheVariants.{Answer}
use Rattle.tp_lines.specs.AnswerRows.{answer_at}
use Rattle.tp_lines.specs.Answers.{row_of_answer}
use Rattle.tp_lines.specs.Rows.{ArePartsRead}
use Rattle.tp_lines.specs.Values.{part_at, word_of}
use Rattle.tp_lines.proofs.AnswerFacts.{answer_table}
use Rattle.tp_lines.proofs.Tables.{row_read, row_some, row_stuck}
use Rattle.tp_lines.proofs.answers.read_answer.Goals as goal

pub returns-in-Err : goal.returns-in-Err
returns-in-Err c = row_stuck Answer row_of_answer answer_at answer_table c.args.text.now c.in-Err.place c.in-Err.ensures

pub returns-in-Some : goal.returns-in-Some
returns-in-Some c =
    let parts = c.read_parts.new.parts in
    let word : c.word.result ≡ word_of (part_at parts 0) = c.word.ensures ∙ ap word_of c.at.ensures in
    row_read Answer row_of_answer answer_at answer_table c.args.text.now parts c.in-Ok.size (subst (λ l. ArePartsRead (Answer ∷ []) c.args.text.now l parts c.in-Ok.size) c.new-parts.ensures c.in-Ok.ensures)
    c.in-Some.answer (ap (λ w. answer_at w parts) (sym word) ∙ sym c.answer_at.ensures ∙ c.in-Some.is)

pub unreachable-requires : goal.unreachable-requires
unreachable-requires c =
    let parts = c.read_parts.new.parts in
    let word : c.word.result ≡ word_of (part_at parts 0) = c.word.ensures ∙ ap word_of c.at.ensures in
    row_some Answer row_of_answer answer_at answer_table c.args.text.now parts c.in-Ok.size (subst (λ l. ArePartsRead (Answer ∷ []) c.args.text.now l parts c.in-Ok.size) c.new-parts.ensures c.in-Ok.ensures) (ap (λ w. answer_at w parts) (sym word) ∙ sym c.answer_at.ensures ∙ c.in-None.is)
