use Rattle.std.proofs.Common.{sym, ◌∙◌}
use Rattle.tp_lines.proofs.Choices.{choice_read, met_all}
use Rattle.tp_lines.proofs.parts.read_choice.Goals as goal

pub returns-in-Some : goal.returns-in-Some
returns-in-Some c =
    choice_read c.args.field c.in-Some.found c.args.text.now c.word_size-size.result c.word_size-size.ensures.within c.in-Some.ensures.0
    (sym c.split_at.ensures.front ∙ c.in-Some.ensures.1) c.word_size-size.ensures.ended

pub returns-in-None : goal.returns-in-None
returns-in-None c = met_all c.args.field c.requires c.args.text.now c.furthest_among.result c.furthest_among.ensures
