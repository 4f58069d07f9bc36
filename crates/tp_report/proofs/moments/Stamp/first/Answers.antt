use Rattle.std.proofs.Common.{refl, arith}
use Rattle.std.specs.Fmt.{digits}
use Rattle.tp_report.proofs.moments.Stamp.first.Goals as goal

pub returns : goal.returns
unfolding digits
returns c = record { in_range = omega arith; text_is = refl }
