use Rattle.std.proofs.Common.{◌∙◌}
use Rattle.tp_explore.specs.Faults.{client_deeds}
use Rattle.tp_explore.proofs.Collected.{next_number}
use Rattle.tp_explore.proofs.deeds.add_clients.Goals as goal

pub loop-index-preserved : goal.loop-index-preserved
loop-index-preserved g c =
    rw c.in_ok-add_client.ensures (next_number (client_deeds (g.W.Watches.watched c.args.watches.now)) c.loop-index.deeds.items c.args.clients c.loop-index.index c.loop-index-test.true ∙ c.loop-index.invariant)
