use Rattle.std.proofs.Common.{w64}
use Rattle.std.proofs.lemmas.Int.{to_z-of_z}
use Rattle.frequent_lines.proofs.Facts.{signed_front}
use Rattle.frequent_lines.proofs.numbers.front_signed.Goals as goal

pub returns : goal.returns
returns c =
    signed_front c.args.text.now c.in-Ok.number c.in-Ok.size c.in-Ok.ensures _ (to_z-of_z w64 c.in-Ok.number c.in-Ok.ensures.text_of.fits) c.split_at.result.1.now c.split_at.ensures.back
