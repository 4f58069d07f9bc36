use Rattle.shared_pool.proofs.Waiting.{has_waited}
use Rattle.shared_pool.proofs.pool.SharedPool.wait_callbacks.Goals as goal

pub returns-in-Ok-clause-waited : goal.returns-in-Ok-clause-waited
returns-in-Ok-clause-waited g c =
    has_waited c.legal_keeps_laws.ensures.laws c.args.kind c.args.object c.args.cancel c.end.result c.args.seat.now c.begin.new.seat c.end.new.seat c.begin.ensures.player.numbered c.in-Ok.ensures.begun c.end.ensures.ended c.end.ensures.of_wait
