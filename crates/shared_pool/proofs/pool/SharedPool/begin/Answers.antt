use Rattle.std.proofs.Common.{sym, ◌∙◌}
use Rattle.shared_pool.proofs.Calling.{begun, unbegun}
use Rattle.shared_pool.proofs.pool.SharedPool.begin.Goals as goal

pub returns-then-accepted-clause-begun : goal.returns-then-accepted-clause-begun
returns-then-accepted-clause-begun g c =
    begun c.args.call c.call-told.result c.args.seat.now c.call-told.new.seat c.requires.begins c.legal_bounds_closes.ensures.actors c.call-told.ensures.ended (sym c.accepted.ensures ∙ c.if-accepted.true)

pub returns-else-accepted-clause-unbegun : goal.returns-else-accepted-clause-unbegun
returns-else-accepted-clause-unbegun g c =
    unbegun c.args.call c.call-told.result c.args.seat.now c.call-told.new.seat c.requires.begins c.call-told.ensures.ended (sym c.accepted.ensures ∙ c.if-accepted.false)
