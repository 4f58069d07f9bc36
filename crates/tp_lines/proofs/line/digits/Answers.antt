use Rattle.std.proofs.Common.{◌++◌, take, sym, ap, ◌∙◌, arith}
use Rattle.std.proofs.lemmas.Fmt.{decimal_digit}
use Rattle.tp_lines.proofs.line.digits.Goals as goal

pub returns-then-number-lt10 : goal.returns-then-number-lt10
returns-then-number-lt10 c = record {
  split = c.byte.ensures.text ∙ ap (λ l. take c.args.at c.args.out.now ++ l) (sym (decimal_digit c.args.number (omega arith)));
  least = omega arith;
  most = omega arith;
}
