use Rattle.std.proofs.Common.{◌≡◌, ◌++◌, drop}
use Rattle.std.specs.List.{flat_map}
use Rattle.tp_explore.specs.Stands.{place_of}
use Rattle.tp_explore.specs.Story.{begun_by}
use Rattle.tp_explore.proofs.walk.add_waiting.Given as goal

abbrev pub invariant-loop-who : goal.invariant-loop-who
invariant-loop-who g l =
    l.waiting.items ++ flat_map (begun_by (g.W.Watches.watched l.watches) (record { world = g.V.Reads.world_of l.world; places = place_of l.stands })) (drop l.who-index l.actors)
    ≡ l.initial.waiting.items ++ flat_map (begun_by (g.W.Watches.watched l.watches) (record { world = g.V.Reads.world_of l.world; places = place_of l.stands })) l.actors
