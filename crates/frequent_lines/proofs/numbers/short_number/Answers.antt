use Rattle.std.proofs.Common.{arith}
use Rattle.frequent_lines.proofs.Facts.{two_digits}
use Rattle.frequent_lines.proofs.numbers.short_number.Goals as goal

pub returns-then-number-most : goal.returns-then-number-most
returns-then-number-most c =
    let d = c.in_ok-tens.ensures in
    let e = c.in-Some.ensures in
    (omega (arith, d.0), c.if-number-most.true, two_digits c.args.text.now c.in_ok-tens.start.now c.in-Some.rest.now c.in_ok-tens.tens c.in-Some.ones d.0 d.1 e.0 d.2 e.1)
