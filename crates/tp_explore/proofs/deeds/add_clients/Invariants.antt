use Rattle.std.proofs.Common.{◌≡◌, ◌+◌, ◌-◌, ◌++◌}
use Rattle.std.specs.List.{flat_map, range_with_len}
use Rattle.tp_explore.specs.Faults.{client_deeds}
use Rattle.tp_explore.proofs.deeds.add_clients.Given as goal

abbrev pub invariant-loop-index : goal.invariant-loop-index
invariant-loop-index g l =
    l.deeds.items ++ flat_map (client_deeds (g.W.Watches.watched l.watches)) (range_with_len (l.index + 1) (l.clients - l.index))
    ≡ l.initial.deeds.items ++ flat_map (client_deeds (g.W.Watches.watched l.watches)) (range_with_len 2 (l.clients - 1))
