use Rattle.std.proofs.Common.{refl, subst, arith}
use Rattle.std.proofs.lemmas.List.{take_all}
use Rattle.line_grammar.specs.Numbers.{Numbers}
use Rattle.line_grammar.proofs.Readings.{longer_text, stuck_text}
use Rattle.script_lines.proofs.TokenFacts.{no_number, one_number}
use Rattle.script_lines.proofs.judge.read_within.Goals as goal

pub returns-in_default : goal.returns-in_default
returns-in_default c =
    no_number c.args.least c.args.most c.args.word.now (stuck_text (Numbers 0 c.args.most) c.args.word.now c.in_default.field-0 c.in_default.ensures).absent

pub returns-then-size-word : goal.returns-then-size-word
returns-then-size-word c =
    let read = c.in-Ok.ensures in
    no_number c.args.least c.args.most c.args.word.now
    (longer_text (Numbers 0 c.args.most) c.args.word.now c.in-Ok.number c.in-Ok.size read (omega (arith, read.within, c.if-size-word.true))).absent

pub returns-then-number-least : goal.returns-then-number-least
returns-then-number-least c said (n, e, a) =
    let read = c.in-Ok.ensures in
    let whole = take_all c.in-Ok.size c.args.word.now (omega (arith, c.if-size-word.false)) in
    let here = subst (Numbers 0 c.args.most c.in-Ok.number) whole read.text_of in
    let same = one_number c.args.least c.args.most c.in-Ok.number n c.args.word.now (omega arith) here a in
    omega (arith, a.at_least, same, c.if-number-least.true)

pub returns : goal.returns
returns c =
    let read = c.in-Ok.ensures in
    let whole = take_all c.in-Ok.size c.args.word.now (omega (arith, c.if-size-word.false)) in
    let here = subst (Numbers 0 c.args.most c.in-Ok.number) whole read.text_of in
    (c.in-Ok.number, refl, record { at_least = omega (arith, c.if-number-least.false); at_most = here.at_most; split = here.split })
