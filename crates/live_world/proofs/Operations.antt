-- What the parts show as an operation goes on, and that they keep their invariant.
use Rattle.std.proofs.Common.{◌≡◌, ◌+◌, ◌∙◌, true, [], ◌∷◌, ◌++◌, refl, sym, ap, arith}
use Rattle.tp_base.specs.declared.plans.Change.TheVariants as change
use Rattle.tp_base.specs.declared.plans.IoStep.{IoStep}
use Rattle.tp_base.specs.declared.plans.IoStep.TheVariants.{Issue, GiveUp, Complete}
use Rattle.tp_base.specs.declared.rows.CallbackRow.{CallbackRow}
use Rattle.tp_base.specs.declared.rows.WaitTarget.TheVariants as target
use Rattle.live_callbacks.specs.Callbacks.{Callbacks}
use Rattle.tp_model.specs.Counts.{is_live, is_running}
use Rattle.tp_model.specs.Changes.{operated, replaced, status_after, status_before}
use Rattle.tp_model.specs.Waits.{is_held_for}
use Rattle.tp_model.specs.Support.Allowed.{IsAllowed}
use Rattle.tp_model.proofs.Callbacks.{after_idle, before_idle, before_lives}
use Rattle.live_world.specs.Live.{Live, moved}
use Rattle.live_world.specs.View.{shown, IsLiveWorld}
use Rattle.live_world.specs.declared.LiveWorld.TheInside.{Inside}
use Rattle.live_world.proofs.Covered.{covered_replaced, outstanding_before}
use Rattle.live_world.proofs.Moving.{Becomes, comes, goes_along, goes_idle, moved_by, without}

-- a callback is made that expects an operation
pub expected_by : (i : Inside) (l : Live) (c : CallbackRow) (callbacks : Callbacks) → shown i ≡ l → IsLiveWorld i → IsAllowed (l.made + 1) l.world (change.ExpectCallback c)
    → callbacks ≡ record i.callbacks { rows = i.callbacks.rows ++ c ∷ [] } → Becomes (record i { callbacks = callbacks; made = i.made + 1 }) (moved l (change.ExpectCallback c))
expected_by i l c callbacks is k allowed rows_now =
    moved_by i (record i { callbacks = callbacks; made = i.made + 1 }) l (change.ExpectCallback c) is k allowed refl
    (λ a. comes i c callbacks k a.number (ap is_live a.expected) (ap is_running a.expected) a.room rows_now)

-- an operation is issued, or completes
pub operated_by : (i : Inside) (l : Live) (c : CallbackRow) (how : IoStep) (callbacks : Callbacks) → shown i ≡ l → IsLiveWorld i → IsAllowed (l.made + 1) l.world (change.Operate c how) → is_live (status_after how) ≡ true
    → callbacks ≡ record i.callbacks { rows = replaced (operated how c) i.callbacks.rows } → Becomes (record i { callbacks = callbacks }) (moved l (change.Operate c how))
operated_by i l c how callbacks is k allowed live rows_now =
    moved_by i (record i { callbacks = callbacks }) l (change.Operate c how) is k allowed (omega arith) (λ a.
    goes_along i (operated how c) c callbacks k live refl refl (after_idle how ∙ sym (before_idle how c.status a.status)) a.found rows_now
    (covered_replaced (operated how c) c (outstanding_before (operated how c) c refl refl (λ _. ap (is_held_for (target.Object c.object)) a.status ∙ tied_before how) (before_lives how c.status a.status)) a.found k.covered))
  where
    tied_before : (how : IoStep) → is_held_for (target.Object c.object) (status_before how) ≡ true
    tied_before Issue = refl
    tied_before GiveUp = refl
    tied_before (Complete error bytes) = refl

-- or isn't issued
pub given_up_by : (i : Inside) (l : Live) (c : CallbackRow) (callbacks : Callbacks) → shown i ≡ l → IsLiveWorld i → IsAllowed (l.made + 1) l.world (change.Operate c GiveUp)
    → callbacks ≡ without i.callbacks c.number
    → Becomes (record i { callbacks = callbacks }) (moved l (change.Operate c GiveUp))
given_up_by i l c callbacks is k allowed rows_now =
    moved_by i (record i { callbacks = callbacks }) l (change.Operate c GiveUp) is k allowed (omega arith)
    (λ a. goes_idle i (operated GiveUp c) c callbacks k refl refl refl refl (ap is_running a.status) refl a.found rows_now)
