use Rattle.shared_pool.proofs.Waiting.{has_acquired}
use Rattle.shared_pool.proofs.pool.SharedPool.acquire.Goals as goal

pub returns-in-Ok-clause-waited : goal.returns-in-Ok-clause-waited
returns-in-Ok-clause-waited g c =
    has_acquired c.legal_keeps_laws.ensures.laws c.legal_bounds_closes.ensures.in_wait c.args.kernel c.end.result c.args.seat.now c.begin.new.seat c.end.new.seat c.begin.ensures.player.numbered c.in-Ok.ensures.begun c.end.ensures.ended c.end.ensures.of_wait
