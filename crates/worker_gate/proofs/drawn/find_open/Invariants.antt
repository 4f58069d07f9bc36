use Rattle.std.proofs.Common.{◌≡◌, ◌++◌, drop}
use Rattle.worker_gate.specs.Drawn.{open_from, open_places}
use Rattle.worker_gate.proofs.drawn.find_open.Given as goal

abbrev pub invariant-loop-place : goal.invariant-loop-place
invariant-loop-place l = l.places.items ++ open_from l.place (drop l.place l.roles) ≡ open_places l.roles
