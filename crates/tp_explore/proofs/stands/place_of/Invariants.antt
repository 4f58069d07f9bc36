use Rattle.std.proofs.Common.{◌≡◌, drop}
use Rattle.tp_explore.specs.Stands.{place_of}
use Rattle.tp_explore.proofs.stands.place_of.Given as goal

abbrev pub invariant-loop-stand : goal.invariant-loop-stand
invariant-loop-stand l = place_of (drop l.stand-index l.stands) l.who ≡ place_of l.stands l.who
