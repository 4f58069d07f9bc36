use Rattle.std.proofs.Common.{◌∙◌, ap, filter, length, sym}
use Rattle.std.proofs.lemmas.List.{length-map}
use Rattle.std.specs.List.{range_with_len}
use Rattle.tp_base.specs.declared.ids.Who.TheVariants.{Worker}
use Rattle.tp_base.specs.declared.limits.Limits.{Limits}
use Rattle.tp_model.specs.Conditions.{is_in_wait}
use Rattle.live_world.specs.Parts.{shown_worker}
use Rattle.live_world.specs.View.{shown}
use Rattle.live_world.proofs.LiveWorld.waiting_workers.Goals as goal

pub returns : goal.returns
returns c =
    let i = c.self.inside in
    let k = c.self.invariant in
    rw (← c.self.view_is)
    (c.waiting_workers.ensures
    ∙ ap (λ count. length (filter (λ n. is_in_wait (shown i).world (Worker n)) (range_with_len 1 count)))
    (ap (λ (l : Limits). l.workers) k.covered.wait_limits ∙ sym k.sized.worker_count ∙ sym (length-map i.pools.workers shown_worker)))
