-- No change loses a callback, and each makes as many as it says.
use Rattle.std.proofs.Common.{◌≡◌, ℕ, ◌+◌, List, [], ◌∷◌, length, slice_get, Option, Some, None, arith, length-append}
use Rattle.tp_base.specs.declared.plans.Change.{Change}
use Rattle.tp_base.specs.declared.plans.Change.TheVariants as change
use Rattle.tp_base.specs.declared.plans.PoolChange.{PoolChange}
use Rattle.tp_base.specs.declared.rows.PoolRow.{PoolRow}
use Rattle.tp_base.specs.declared.rows.ObjectRow.{ObjectRow}
use Rattle.tp_base.specs.declared.ids.ObjectId.{ObjectId}
use Rattle.tp_base.specs.declared.rows.WaitTarget.TheVariants.{Group}
use Rattle.tp_model.specs.World.{World}
use Rattle.tp_model.specs.Sources.{Job, firing, sources_of, rows_of}
use Rattle.tp_model.specs.Changes.{change_pool, replaced, taken, marked, operated, returned, changed, release_object}
use Rattle.tp_model.specs.Actions.{slots_of, returning}
use Rattle.tp_model.specs.Counts.{numbered}
use Rattle.tp_model.specs.Waits.{target_of, is_cancelled_by}
use Rattle.tp_model.specs.Support.Allowed.{IsAllowed, news}
use Rattle.tp_model.proofs.Firing.{length_rows}
use Rattle.tp_model.proofs.Cancelling.{length_cancelled}
use Rattle.tp_model.proofs.Callbacks.{length_replaced}

same_callbacks : (w : World) (pool : ℕ) (how : PoolChange) (row : Option PoolRow) → length (change_pool w pool how row).callbacks ≡ length w.callbacks + 0
same_callbacks w pool how None = omega arith
same_callbacks w pool how (Some row) = omega arith

released : (w : World) (object : ObjectId) (row : Option ObjectRow) → length (release_object w object row).callbacks ≡ length w.callbacks + 0
released w object None = omega arith
released w object (Some row) = omega arith

pub grows : (next_number : ℕ) (w : World) (ch : Change) → IsAllowed next_number w ch → length (changed w ch).callbacks ≡ length w.callbacks + news ch
grows next_number w change.Keep a = omega arith
grows next_number w change.CreatePool a = omega arith
grows next_number w (change.ChangePool pool how) a = same_callbacks w pool.0 how (slice_get w.pools pool.0)
grows next_number w (change.CreateObject row) a = omega arith
grows next_number w (change.ReleaseObject object) a = released w object (numbered w.objects object.0)
grows next_number w (change.QueueCallback c) a = length-append w.callbacks (c ∷ [])
grows next_number w (change.ExpectCallback c) a = length-append w.callbacks (c ∷ [])
grows next_number w (change.Operate c how) a = omega (arith, length_replaced (operated how c) w.callbacks)
grows next_number w (change.Fire trigger first count) a =
    let jobs : List Job = (firing trigger (sources_of w)).jobs in
    omega (arith, length-append w.callbacks (rows_of w.objects first jobs), length_rows w.objects first jobs, a.counted)
grows next_number w (change.CreateKernel state) a = omega arith
grows next_number w (change.ChangeKernel kernel how) a = omega arith
grows next_number w (change.Attach worker pool) a = omega arith
grows next_number w (change.Detach by) a = omega arith
grows next_number w (change.Take by c) a = omega (arith, length_replaced (taken c by.worker) w.callbacks)
grows next_number w (change.Mark by mark) a = omega (arith, length_replaced (marked mark by.callback) w.callbacks)
grows next_number w (change.Return by words first count) a =
    let jobs : List Job = (returning w words (slots_of by.callback.status)).jobs in
    omega (arith, length-append (replaced (returned by.callback) w.callbacks) (rows_of w.objects first jobs), length_rows w.objects first jobs, length_replaced (returned by.callback) w.callbacks, a.counted)
grows next_number w (change.BeginWait who awaited cancel) a = omega (arith, length_cancelled (is_cancelled_by (target_of awaited) cancel) w.callbacks)
grows next_number w change.CreateGroup a = omega arith
grows next_number w (change.CloseGroup group) a = omega arith
grows next_number w (change.BeginClose who group cancel context notices) a = omega (arith, length_cancelled (is_cancelled_by (Group group) cancel) w.callbacks)
grows next_number w (change.GiveNotice who) a = omega arith
grows next_number w (change.EndWait who how) a = omega arith
grows next_number w (change.Finish client) a = omega arith
