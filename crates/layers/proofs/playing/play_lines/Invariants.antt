use Rattle.std.proofs.Common.{length}
use Rattle.layers.specs.Playing.{IsPlayedTo}
use Rattle.layers.proofs.playing.play_lines.Given as goal

abbrev pub invariant-loop-rest : goal.invariant-loop-rest
invariant-loop-rest g l = IsPlayedTo g.L.Layer.lines g.L.Layer.who_of (g.L.Layer.told l.fn.layer) (g.L.Layer.told l.layer) l.bytes l.rest l.text l.greatest l.lines

abbrev pub decreases-loop-rest : goal.decreases-loop-rest
decreases-loop-rest g l = length l.rest
