use Rattle.std.proofs.Common.{arith}
use Rattle.layers.proofs.Played.{read_some}
use Rattle.layers.proofs.playing.guess_clients.Goals as goal

pub loop-made-smaller : goal.loop-made-smaller
loop-made-smaller g c = omega (arith, read_some g.L.Layer.lines _ _ _ c.in-Ok.ensures, c.split_at.ensures.back_len, c.in-Ok.ensures.within)
