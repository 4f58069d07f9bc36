use Rattle.line_grammar.proofs.Readings.{led_none, led_then, led_then_stuck}
use Rattle.tp_lines.specs.Choices.{BodyTexts}
use Rattle.tp_lines.proofs.PartFacts.{some_text}
use Rattle.tp_lines.proofs.parts.read_part.Goals as goal

pub returns-in_default : goal.returns-in_default
returns-in_default c =
    let some = some_text c.args.field in
    led_none 32 (BodyTexts c.args.field) c.args.text.now some.0 some.1 c.in_default.ensures

pub returns-in-Ok : goal.returns-in-Ok
returns-in-Ok c = led_then 32 (BodyTexts c.args.field) c.args.text.now c.in-Some.rest.now c.in-Some.ensures c.in-Ok.part c.in-Ok.size c.in-Ok.ensures

pub returns-in-Err : goal.returns-in-Err
returns-in-Err c = led_then_stuck 32 (BodyTexts c.args.field) c.args.text.now c.in-Some.rest.now c.in-Some.ensures c.in-Err.place c.in-Err.ensures
