use Rattle.std.proofs.Common.{◌≡◌, arith, length, vec_items}
use Rattle.part_places.specs.Places.{given}
use Rattle.worker_gate.proofs.Crews.{crew_ready, crews_back, crews_ready, if_both}
use Rattle.worker_gate.proofs.crew.play_crews.Goals as goal

pub map_vec-requires-after_bounds : goal.map_vec-requires-after_bounds
map_vec-requires-after_bounds g c κs within i crew below at = crew_ready (given g.R.Routines.next_of g.R.Routines.after_of c.args.routines.now) c.args.pool.now vec_items c.args.crews.items i crew below at c.requires.ready

pub returns-clause-ready : goal.returns-clause-ready
returns-clause-ready g c =
    if_both c.map_vec.result _ _ _ c.map_vec.ensures.len c.map_vec.ensures.each (λ later count each.
    let same : length later.items ≡ length c.args.crews.items = omega (arith, count, later.ok.0, c.args.crews.ok.0) in
    crews_ready (given g.R.Routines.next_of g.R.Routines.after_of c.args.routines.now) c.args.pool.now vec_items c.args.crews.items later.items same (λ i d below. (each i d below).1.call.met.0))

pub returns-clause-back : goal.returns-clause-back
returns-clause-back g c =
    if_both c.map_vec.result _ _ _ c.map_vec.ensures.len c.map_vec.ensures.each (λ later count each.
    let same : length later.items ≡ length c.args.crews.items = omega (arith, count, later.ok.0, c.args.crews.ok.0) in
    crews_back (given g.R.Routines.next_of g.R.Routines.after_of c.args.routines.now) c.args.pool.now vec_items c.args.crews.items later.items same (λ i d e below. let job = (each i e below).1 in (job.job, job.job_is d, job.call.met.1)))
