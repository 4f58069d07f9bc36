use Rattle.std.proofs.Common.{◌/◌, sym, arith}
use Rattle.std.proofs.lemmas.Fmt.{length-decimal-le}
use Rattle.itoa.proofs.Decimal.{length_one, length_two, length_pair, length_four}
use Rattle.tp_lines.proofs.line.+digit_count.Goals as goal

pub overflow_add-result : goal.overflow_add-result
overflow_add-result t c = omega (arith, c.digit_count.ensures.most)

pub returns-then-number-lt10-clause-value : goal.returns-then-number-lt10-clause-value
returns-then-number-lt10-clause-value t c = sym (length_one c.args.number (omega arith))

pub returns-then-number-lt100-clause-value : goal.returns-then-number-lt100-clause-value
returns-then-number-lt100-clause-value t c = sym (length_two c.args.number (omega arith) (omega arith))

pub returns-then-number-lt1000-clause-value : goal.returns-then-number-lt1000-clause-value
returns-then-number-lt1000-clause-value t c =
    omega (arith, length_pair c.args.number (omega arith) (omega arith), length_one (c.args.number / 100) (omega arith))

pub returns-then-number-lt10000-clause-value : goal.returns-then-number-lt10000-clause-value
returns-then-number-lt10000-clause-value t c =
    omega (arith, length_pair c.args.number (omega arith) (omega arith), length_two (c.args.number / 100) (omega arith) (omega arith))

pub returns-else-number-lt10000-clause-value : goal.returns-else-number-lt10000-clause-value
returns-else-number-lt10000-clause-value t c =
    omega (arith, length_four c.args.number (omega arith) (omega arith), c.digit_count.ensures.value)

pub returns-else-number-lt10000-clause-most : goal.returns-else-number-lt10000-clause-most
returns-else-number-lt10000-clause-most t c =
    omega (
      arith,
      length_four c.args.number (omega arith) (omega arith),
      c.digit_count.ensures.value,
      length-decimal-le 20 c.args.number (omega arith) (omega arith) (omega arith),
    )
