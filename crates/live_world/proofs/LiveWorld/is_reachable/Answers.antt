use Rattle.std.proofs.Common.{◌≡◌, ap, ◌∙◌, subst, arith}
use Rattle.tp_model.specs.Support.Remembered.{forget}
use Rattle.live_world.specs.View.{shown}
use Rattle.std.proofs.lemmas.List.{length-map}
use Rattle.std.proofs.lemmas.List.Sums.{length-filter, count_by-le-length}
use Rattle.pool_rows.specs.Workers.{runs_in}
use Rattle.live_world.specs.Bounds.{IsBounded}
use Rattle.live_world.specs.Live.{Live}
use Rattle.live_world.specs.Parts.{shown_worker}
use Rattle.live_world.proofs.LiveWorld.is_reachable.Goals as goal

pub returns-clause-living : goal.returns-clause-living
returns-clause-living c =
    subst (λ (l : Live). forget l.world ≡ l.world) c.self.view_is (ap (λ cs. record (shown c.self.inside).world { callbacks = cs }) c.self.invariant.alive.live)

pub returns-clause-bounded : goal.returns-clause-bounded
returns-clause-bounded c =
    let i = c.self.inside in
    let k = c.self.invariant in
    subst (λ (l : Live). IsBounded l.world) c.self.view_is (record {
      limits = k.sized.in_range;
      client_count = k.sized.client_count;
      worker_count = length-map i.pools.workers shown_worker ∙ k.sized.worker_count;
      pools_least = k.sized.pools_least;
      pools_most = k.sized.pools_within;
      slots_most = k.slotted.slots;
      -- no more than there are workers
      running_most = λ pool. omega (arith, k.tallied.run pool, length-filter (runs_in pool) i.pools.workers, count_by-le-length (runs_in pool) i.pools.workers, k.sized.worker_count, k.sized.in_range.workers_most);
    })
