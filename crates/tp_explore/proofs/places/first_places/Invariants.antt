use Rattle.std.proofs.Common.{◌≡◌, ◌++◌, map}
use Rattle.std.specs.List.{range_with_len}
use Rattle.tp_base.specs.declared.ids.Who.TheVariants.{Client, Worker}
use Rattle.part_places.specs.Places.{opening}
use Rattle.tp_explore.proofs.places.first_places.Given as goal

abbrev pub invariant-loop-number : goal.invariant-loop-number
invariant-loop-number l = l.places.items ≡ map opening (map Client (range_with_len 1 l.number))

abbrev pub invariant-loop-number-2 : goal.invariant-loop-number-2
invariant-loop-number-2 l = l.places.items ≡ map opening (map Client (range_with_len 1 l.limits.clients) ++ map Worker (range_with_len 1 l.number))
