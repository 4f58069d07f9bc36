use Rattle.std.proofs.Common.{◌≡◌, Bool, List, true, false, ◌||◌, not, slice_get, refl, sym, ap, ◌∙◌}
use Rattle.std.specs.List.{list_any}
use Rattle.tp_base.specs.declared.rows.CallbackRow.{CallbackRow}
use Rattle.live_callbacks.specs.Callbacks.{is_waiting_persistent, queue_among}
use Rattle.tp_model.specs.Counts.{has_persistent}
use Rattle.tp_model.specs.World.{World}
use Rattle.live_world.specs.Live.{Live}
use Rattle.live_world.proofs.Takeable.{queue_shown}
use Rattle.live_world.proofs.LiveWorld.next.Goals as goal

pub returns-then-is_none_persistent-clause-value : goal.returns-then-is_none_persistent-clause-value
returns-then-is_none_persistent-clause-value c =
    let w : World = c.args.self.now.world in
    let rows = c.self.inside.callbacks.rows in
    let others : (all : Bool) → queue_among rows c.args.pool.0 false ≡ queue_among rows c.args.pool.0 all = λ all.
    elim all as (λ b. queue_among rows c.args.pool.0 false ≡ queue_among rows c.args.pool.0 b) [
      | true ↦ sym (c.is_none_persistent.ensures.alike c.args.pool.0 c.if-is_none_persistent.true)
      | false ↦ refl
    ]
    in
    c.next.ensures.value
    ∙ ap (λ (ds : List CallbackRow). slice_get ds 0) (others (c.args.persistent || not (has_persistent w c.args.pool.0)))
    ∙ ap (λ (ds : List CallbackRow). slice_get ds 0) (queue_shown w c.args.pool.0 c.args.persistent (not (has_persistent w c.args.pool.0)) refl rows (ap (λ (l : Live). l.world.callbacks) c.self.view_is))

pub returns-clause-value : goal.returns-clause-value
returns-clause-value c =
    let w : World = c.args.self.now.world in
    c.next-2.ensures.value
    ∙ ap (λ b. slice_get (queue_among c.self.inside.callbacks.rows c.args.pool.0 b) 0) c.takes_all.ensures
    ∙ ap (λ (ds : List CallbackRow). slice_get ds 0) (queue_shown w c.args.pool.0 c.args.persistent (not (has_persistent w c.args.pool.0)) refl c.self.inside.callbacks.rows (ap (λ (l : Live). l.world.callbacks) c.self.view_is))

pub returns-clause-fewer : goal.returns-clause-fewer
returns-clause-fewer c none =
    c.next-2.ensures.fewer (ap (list_any is_waiting_persistent) (ap (λ (l : Live). l.world.callbacks) c.self.view_is) ∙ none)
