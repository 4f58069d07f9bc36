use Rattle.std.proofs.Common.{◌≡◌, ◌++◌, drop}
use Rattle.tp_script.specs.Nexts.{places_behind}
use Rattle.tp_script.proofs.script.add_places.Given as goal

-- the places so far and those of the lines that are left are all
abbrev pub invariant-loop-index : goal.invariant-loop-index
invariant-loop-index l = l.places.items ++ places_behind l.opening l.index (drop l.index l.lines) ≡ l.initial.places.items ++ places_behind l.opening 0 l.lines
