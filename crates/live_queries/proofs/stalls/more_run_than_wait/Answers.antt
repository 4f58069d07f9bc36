use Rattle.std.proofs.Common.{arith, length, ltb-true}
use Rattle.std.specs.List.{range_with_len}
use Rattle.live_queries.proofs.Stuck.{some_free}
use Rattle.live_queries.proofs.stalls.more_run_than_wait.Goals as goal

pub returns : goal.returns
returns g c =
    let w = g.W.Reads.world_of c.args.world.now in
    λ more. some_free w (range_with_len 1 (length w.workers)) (omega (arith, ltb-true _ _ more, c.waiting_workers.ensures, c.busy_workers.ensures))
