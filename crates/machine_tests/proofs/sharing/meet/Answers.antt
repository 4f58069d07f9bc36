use Rattle.std.specs.Prelude.{IfOk}
use Rattle.std.proofs.Common.{subst}
use Rattle.shared_pool.specs.Pools.{HaveAll}
use Rattle.machine_tests.proofs.ComesBack.{have_all}
use Rattle.machine_tests.proofs.sharing.meet.Goals as goal

pub close-entries-requires-clause-all : goal.close-entries-requires-clause-all
close-entries-requires-clause-all g c =
    let pool = c.expect_ok-pool.result.0 in
    let dealt : HaveAll pool c.expect_ok-pool.result.1.items = subst (λ r. IfOk r (λ made. HaveAll made.0 made.1.items)) c.expect_ok-pool.ensures c.open-opened.ensures.all in
    let parts = subst (HaveAll pool) c.take_two-first.ensures.parts dealt in
    have_all _ _ _ _ _ c.make_in_two-one.ensures.first.1 c.make_in_two-one.ensures.second.1 pool parts
