use Rattle.tp_base.specs.declared.calls.Call.TheVariants.{BeginClose}
use Rattle.shared_pool.specs.Calls.{HasMetMore}
use Rattle.shared_pool.specs.Pools.{IsPlayer}
use Rattle.shared_pool.specs.Waits.{IsTelling}
use Rattle.shared_pool.proofs.pool.SharedPool.close_members.Given as goal

abbrev pub invariant-loop : goal.invariant-loop
invariant-loop g l =
    (goal.iterator-loop g).can_next l.iterator' × (goal.iterator-loop g).is_finite l.iterator'
    × IsPlayer l.fn.self l.seat
    × IsTelling (BeginClose l.fn.group l.fn.cancel l.fn.context) (g.N.Notices.told l.fn.notices) (g.N.Notices.told l.notices) (g.N.Notices.room l.fn.notices) (g.N.Notices.room l.notices) l.fn.seat l.seat
    × HasMetMore l.fn.seat l.seat
