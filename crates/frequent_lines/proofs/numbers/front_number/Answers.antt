use Rattle.std.proofs.Common.{arith}
use Rattle.frequent_lines.proofs.Facts.{number_front}
use Rattle.frequent_lines.proofs.numbers.front_number.Goals as goal

pub returns : goal.returns
returns c =
    (omega arith, number_front c.args.text.now c.front_digits-number.result.0 c.front_digits-number.result.1 (c.front_digits-number.ensures.number (omega arith)) c.split_at.result.1.now c.split_at.ensures.back)
