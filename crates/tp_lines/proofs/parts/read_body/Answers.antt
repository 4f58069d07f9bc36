use Rattle.std.proofs.Common.{sym, subst, ◌∙◌}
use Rattle.line_grammar.specs.Language.{IsReadTo}
use Rattle.line_grammar.specs.Numbers.{Numbers}
use Rattle.line_grammar.specs.Parts.{Led}
use Rattle.tp_lines.specs.declared.parts.Part.TheVariants as part
use Rattle.tp_lines.specs.Choices.{BodyTexts, ChoiceTexts, DueTexts, MillisTexts, NamedTexts}
use Rattle.tp_lines.specs.Parts.{number_part}
use Rattle.tp_lines.proofs.PartFacts.{body_read, body_stuck, plain_spelled, lettered_spelled, due_spelled, millis_spelled, named_spelled, word_spelled}
use Rattle.tp_lines.proofs.parts.read_body.Goals as goal

pub returns-in-Ok : goal.returns-in-Ok
returns-in-Ok c =
    let f = c.args.field in
    subst (λ p. IsReadTo (BodyTexts f) c.args.text.now p c.in-Ok.size) (sym c.number_part.ensures)
    (body_read f (Numbers c.in-Number.least c.in-Number.most) (number_part f) (plain_spelled f c.in-Number.least c.in-Number.most (sym c.form_of.ensures ∙ c.in-Number.is))
    c.args.text.now c.in-Ok.number c.in-Ok.size c.in-Ok.ensures)

pub returns-in-Err : goal.returns-in-Err
returns-in-Err c =
    let f = c.args.field in
    body_stuck f (Numbers c.in-Number.least c.in-Number.most) (number_part f) (plain_spelled f c.in-Number.least c.in-Number.most (sym c.form_of.ensures ∙ c.in-Number.is))
    c.args.text.now c.in-Err.place c.in-Err.ensures

pub returns-in-Ok-read_prefixed : goal.returns-in-Ok-read_prefixed
returns-in-Ok-read_prefixed c =
    let f = c.args.field in let x = c.in-Lettered in
    subst (λ p. IsReadTo (BodyTexts f) c.args.text.now p c.in-Ok-read_prefixed.size) (sym c.number_part-in-Ok-read_prefixed.ensures)
    (body_read f (Led x.letter (Numbers x.least x.most)) (number_part f) (lettered_spelled f x.letter x.least x.most (sym c.form_of.ensures ∙ x.is))
    c.args.text.now c.in-Ok-read_prefixed.number c.in-Ok-read_prefixed.size c.in-Ok-read_prefixed.ensures)

pub returns-in-Err-read_prefixed : goal.returns-in-Err-read_prefixed
returns-in-Err-read_prefixed c =
    let f = c.args.field in let x = c.in-Lettered in
    body_stuck f (Led x.letter (Numbers x.least x.most)) (number_part f) (lettered_spelled f x.letter x.least x.most (sym c.form_of.ensures ∙ x.is))
    c.args.text.now c.in-Err-read_prefixed.place c.in-Err-read_prefixed.ensures

pub returns-in-Ok-read_due : goal.returns-in-Ok-read_due
returns-in-Ok-read_due c =
    let f = c.args.field in
    body_read f DueTexts (λ due. part.Due due) (due_spelled f (sym c.form_of.ensures ∙ c.in-Due.is)) c.args.text.now c.in-Ok-read_due.due c.in-Ok-read_due.size c.in-Ok-read_due.ensures

pub returns-in-Err-read_due : goal.returns-in-Err-read_due
returns-in-Err-read_due c =
    let f = c.args.field in
    body_stuck f DueTexts (λ due. part.Due due) (due_spelled f (sym c.form_of.ensures ∙ c.in-Due.is)) c.args.text.now c.in-Err-read_due.place c.in-Err-read_due.ensures

pub returns-in-Ok-read_named : goal.returns-in-Ok-read_named
returns-in-Ok-read_named c =
    let f = c.args.field in
    body_read f NamedTexts (λ kernel. part.Named kernel) (named_spelled f (sym c.form_of.ensures ∙ c.in-Named.is)) c.args.text.now c.in-Ok-read_named.kernel c.in-Ok-read_named.size c.in-Ok-read_named.ensures

pub returns-in-Err-read_named : goal.returns-in-Err-read_named
returns-in-Err-read_named c =
    let f = c.args.field in
    body_stuck f NamedTexts (λ kernel. part.Named kernel) (named_spelled f (sym c.form_of.ensures ∙ c.in-Named.is)) c.args.text.now c.in-Err-read_named.place c.in-Err-read_named.ensures

pub returns-in-Ok-read_millis : goal.returns-in-Ok-read_millis
returns-in-Ok-read_millis c =
    let f = c.args.field in
    body_read f MillisTexts (λ millis. part.Millis millis) (millis_spelled f (sym c.form_of.ensures ∙ c.in-Millis.is)) c.args.text.now c.in-Ok-read_millis.millis c.in-Ok-read_millis.size c.in-Ok-read_millis.ensures

pub returns-in-Err-read_millis : goal.returns-in-Err-read_millis
returns-in-Err-read_millis c =
    let f = c.args.field in
    body_stuck f MillisTexts (λ millis. part.Millis millis) (millis_spelled f (sym c.form_of.ensures ∙ c.in-Millis.is)) c.args.text.now c.in-Err-read_millis.place c.in-Err-read_millis.ensures

pub returns-in-Err-read_choice : goal.returns-in-Err-read_choice
returns-in-Err-read_choice c =
    let f = c.args.field in
    body_stuck f (ChoiceTexts f) (λ w. part.Word w) (word_spelled f (sym c.form_of.ensures ∙ c.in-Choice.is)) c.args.text.now c.in-Err-read_choice.place c.in-Err-read_choice.ensures
