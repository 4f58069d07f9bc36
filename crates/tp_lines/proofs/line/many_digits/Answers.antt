use Rattle.std.proofs.Common.{◌/◌, sym, arith}
use Rattle.itoa.proofs.Decimal.{length_one, length_two, length_pair, length_four}
use Rattle.tp_lines.proofs.line.many_digits.Goals as goal

pub sized_digits-requires-clause-size : goal.sized_digits-requires-clause-size
sized_digits-requires-clause-size c = sym (length_two c.args.number (omega arith) (omega arith))

pub sized_digits-requires-then-number-lt1000-clause-size : goal.sized_digits-requires-then-number-lt1000-clause-size
sized_digits-requires-then-number-lt1000-clause-size c =
    omega (arith, length_pair c.args.number (omega arith) (omega arith), length_one (c.args.number / 100) (omega arith))

pub sized_digits-requires-then-number-lt10000-clause-size : goal.sized_digits-requires-then-number-lt10000-clause-size
sized_digits-requires-then-number-lt10000-clause-size c =
    omega (arith, length_pair c.args.number (omega arith) (omega arith), length_two (c.args.number / 100) (omega arith) (omega arith))

pub sized_digits-requires-then-number-lt100000-clause-size : goal.sized_digits-requires-then-number-lt100000-clause-size
sized_digits-requires-then-number-lt100000-clause-size c =
    omega (arith, length_four c.args.number (omega arith) (omega arith), length_one (c.args.number / 10000) (omega arith))

pub sized_digits-requires-then-number-lt1000000-clause-size : goal.sized_digits-requires-then-number-lt1000000-clause-size
sized_digits-requires-then-number-lt1000000-clause-size c =
    omega (arith, length_four c.args.number (omega arith) (omega arith), length_two (c.args.number / 10000) (omega arith) (omega arith))

pub sized_digits-requires-then-number-lt10000000-clause-size : goal.sized_digits-requires-then-number-lt10000000-clause-size
sized_digits-requires-then-number-lt10000000-clause-size c =
    omega (
      arith,
      length_four c.args.number (omega arith) (omega arith),
      length_pair (c.args.number / 10000) (omega arith) (omega arith),
      length_one (c.args.number / 10000 / 100) (omega arith),
    )
