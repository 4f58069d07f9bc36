use Rattle.std.proofs.Common.{◌≡◌, sym, ◌∙◌}
use Rattle.tp_base.specs.contracts.answers.AnswerPartialEq.TheImpl as answer_eq
use Rattle.tp_report.proofs.Alike.{told_same, told_self}
use Rattle.tp_report.proofs.verdict.is_answer.Goals as goal

pub returns-in-Done : goal.returns-in-Done
returns-in-Done c =
    let told = c.in-Done.told in
    let is : c.eq.result ≡ answer_eq.eq-value.it told c.args.answer.now = c.eq.ensures in
    (λ e. c.in-Done.is ∙ told_same told c.args.answer.now (sym is ∙ e), λ e. is ∙ told_self told c.args.answer.now (sym c.in-Done.is ∙ e))
