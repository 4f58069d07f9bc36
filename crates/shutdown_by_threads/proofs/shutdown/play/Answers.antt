use Rattle.std.proofs.Common.{sym, subst}
use Rattle.shared_pool.specs.Pools.{HaveAll}
use Rattle.shutdown_by_threads.proofs.Dealt.{have_all}
use Rattle.shutdown_by_threads.specs.Seats.{seats_in}
use Rattle.shutdown_by_threads.proofs.shutdown.play.Goals as goal

pub close-requires-clause-all : goal.close-requires-clause-all
close-requires-clause-all g c =
    let pool = c.in-Ok.pool in
    let dealt : HaveAll pool (seats_in c.in-Some.actors) = subst (HaveAll pool) c.in-Some.ensures.parts c.in-Ok.ensures.all in
    subst (HaveAll pool) (sym c.in_ok-seats.ensures) (have_all pool c.in-Some.actors c.run_all-actors.result.0 c.run_all-actors.ensures.stay dealt)
