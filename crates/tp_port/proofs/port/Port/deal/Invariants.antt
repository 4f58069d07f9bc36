use Rattle.tp_port.proofs.Dealing.{Dealing}
use Rattle.tp_port.proofs.port.Port.deal.Given as goal

abbrev pub invariant-loop : goal.invariant-loop
invariant-loop l = Dealing l.self l.quotas l.index l.number l.raw l.posts.items
