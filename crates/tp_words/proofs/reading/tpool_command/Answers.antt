use Rattle.std.proofs.Common.{◌∙◌, ap₂}
use Rattle.std.proofs.lemmas.Result.{IfOk-weaker}
use Rattle.clap.specs.Words.{with_rule}
use Rattle.tp_words.proofs.reading.tpool_command.Goals as goal

-- each step adds the rule of its argument to what the step before it made
pub returns : goal.returns
returns c =
    let one = c.in_ok-command.ensures ∙ ap₂ with_rule c.bare.ensures c.alone.ensures.rule in
    let two = c.in_ok-command-2.ensures ∙ ap₂ with_rule one c.alone-2.ensures.rule in
    let three = c.in_ok-command-3.ensures ∙ ap₂ with_rule two c.valued.ensures.rule in
    let four = c.in_ok-command-4.ensures ∙ ap₂ with_rule three c.valued-2.ensures.rule in
    let five = c.in_ok-command-5.ensures ∙ ap₂ with_rule four c.valued-3.ensures.rule in
    let six = c.in_ok-command-6.ensures ∙ ap₂ with_rule five c.valued-4.ensures.rule in
    let seven = c.in_ok-command-7.ensures ∙ ap₂ with_rule six c.valued-5.ensures.rule in
    let eight = c.in_ok-command-8.ensures ∙ ap₂ with_rule seven c.flag.ensures.rule in
    IfOk-weaker c.with-9.result _ _ (λ command is. is ∙ ap₂ with_rule eight c.flag-2.ensures.rule) c.with-9.ensures
