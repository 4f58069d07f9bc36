use Rattle.std.proofs.Common.{◌∙◌, ◌+◌, ◌-◌, ◌≡◌, ℕ, ap, arith, drop, sym}
use Rattle.script_lines.specs.Texts.{lines_of}
use Rattle.order_lines.specs.Words.{first_line}
use Rattle.order_lines.proofs.Behind.{further, none_left}
use Rattle.order_lines.proofs.words.line_in.Goals as goal

pub loop-preserved : goal.loop-preserved
loop-preserved c = record {
  left = further c.loop.counter (lines_of c.args.text.now) _ _ _ c.loop.invariant.left c.in-Some.ensures.lines;
  within = omega (arith, c.in-Some.ensures.within, c.loop.invariant.within);
}

pub returns-in-None-clause-value : goal.returns-in-None-clause-value
returns-in-None-clause-value c =
    let passed : ℕ = c.args.number - 1 in
    let more : c.loop.counter + (passed - c.loop.counter) ≡ passed = omega arith in
    sym (ap first_line (sym (ap (λ n. drop n (lines_of c.args.text.now)) more) ∙ none_left c.loop.counter (passed - c.loop.counter) _ _ c.loop.invariant.left c.in-None.ensures.lines))
