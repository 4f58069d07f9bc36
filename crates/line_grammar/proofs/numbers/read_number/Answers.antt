use Rattle.std.proofs.Common.{arith, ap, ◌∙◌, ◌+◌, ◌<◌, inl, inr}
use Rattle.line_grammar.proofs.NumberFacts.{so_far_first, so_far_next, number_read, number_short, zero_read, no_number, wrong_digit}
use Rattle.line_grammar.proofs.numbers.read_number.Goals as goal

pub returns-in_default : goal.returns-in_default
returns-in_default c = no_number c.args.least c.args.most (omega arith) c.args.text.now c.requires.least_most c.in_default.ensures

pub returns-then-most-first : goal.returns-then-most-first
returns-then-most-first c =
    wrong_digit c.args.least c.args.most (omega arith) c.args.text.now c.in-Some.first c.requires.least_most c.in-Some.ensures.2 (inl c.if-most-first.true)

pub returns-then-first-min : goal.returns-then-first-min
returns-then-first-min c =
    wrong_digit c.args.least c.args.most (omega arith) c.args.text.now c.in-Some.first c.requires.least_most c.in-Some.ensures.2 (inr (omega arith, omega arith))

pub returns-then-first-eq0 : goal.returns-then-first-eq0
returns-then-first-eq0 c = zero_read c.args.least c.args.most (omega arith) c.args.text.now (omega arith) c.in-Some.ensures.0 (c.in-Some.ensures.2 ∙ ap (λ n. 48 + n) c.if-first-eq0.true)

pub loop-longer-init : goal.loop-longer-init
loop-longer-init c =
    so_far_first c.args.text.now c.args.least c.args.most c.in-Some.first c.in-Some.ensures.1 (omega arith) (omega arith) c.in-Some.ensures.0 c.in-Some.ensures.2

pub loop-longer-preserved : goal.loop-longer-preserved
loop-longer-preserved c =
    so_far_next c.args.text.now c.args.least c.args.most c.loop-longer.value c.loop-longer.size c.in-Some-longer_number.longer (omega arith)
    c.loop-longer.invariant c.in-Some-longer_number.ensures.0 c.in-Some-longer_number.ensures.1

pub returns-then-value-least : goal.returns-then-value-least
returns-then-value-least c =
    let positive : 0 < c.loop-longer.value = c.loop-longer.invariant.positive in
    let low = c.requires.least_low (omega arith) in
    number_short c.args.least c.args.most (omega arith) c.args.text.now c.loop-longer.value c.loop-longer.size c.loop-longer.invariant c.if-value-least.true positive low.0 low.1 c.in_default-longer_number.ensures

pub returns-else-value-least : goal.returns-else-value-least
returns-else-value-least c =
    number_read c.args.least c.args.most (omega arith) c.args.text.now c.loop-longer.value c.loop-longer.size c.loop-longer.invariant c.if-value-least.false c.in_default-longer_number.ensures
