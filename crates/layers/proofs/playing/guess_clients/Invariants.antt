use Rattle.std.proofs.Common.{◌≤◌, length}
use Rattle.layers.proofs.playing.guess_clients.Given as goal

abbrev pub invariant-loop-made : goal.invariant-loop-made
invariant-loop-made g l = l.greatest ≤ 16

abbrev pub decreases-loop-made : goal.decreases-loop-made
decreases-loop-made g l = length l.rest
