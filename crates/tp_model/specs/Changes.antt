-- The world after a change.
use Rattle.std.specs.Prelude.{ℕ, ◌+◌, ◌-◌, Bool, true, false, not, ◌||◌, min, max, List, [], ◌∷◌, ◌++◌, length, map, drop, slice_get, slice_set, if◌then◌else◌, Option, None, Some}
use Rattle.std.specs.List.{filter}
use Rattle.tp_base.specs.declared.plans.Change.{Change}
use Rattle.tp_base.specs.declared.plans.Change.TheVariants as change
use Rattle.tp_base.specs.declared.plans.Mark.{Mark}
use Rattle.tp_base.specs.declared.plans.Mark.TheVariants.{Long, Loose, Asks}
use Rattle.tp_base.specs.declared.plans.PoolChange.{PoolChange}
use Rattle.tp_base.specs.declared.plans.PoolChange.TheVariants.{Close, Maximum, Minimum}
use Rattle.tp_base.specs.declared.plans.Busy.{Busy}
use Rattle.tp_base.specs.declared.plans.ActionWords.{ActionWords}
use Rattle.tp_base.specs.declared.rows.Status.{Status}
use Rattle.tp_base.specs.declared.rows.Status.TheVariants.{Expected, Issued, Pending, Running, Returned, Cancelled}
use Rattle.tp_base.specs.declared.plans.IoStep.{IoStep}
use Rattle.tp_base.specs.declared.plans.IoStep.TheVariants.{Issue, GiveUp, Complete}
use Rattle.tp_base.specs.declared.answers.TakeResult.{TakeResult}
use Rattle.tp_base.specs.declared.answers.TakeResult.TheVariants.{Io}
use Rattle.tp_base.specs.declared.plans.WaitEnd.{WaitEnd}
use Rattle.tp_base.specs.declared.plans.WaitEnd.TheVariants.{Free, Exhausted, Stalled}
use Rattle.tp_base.specs.declared.rows.KernelRow.{KernelRow}
use Rattle.tp_base.specs.declared.rows.PoolRow.{PoolRow}
use Rattle.tp_base.specs.declared.rows.ObjectRow.{ObjectRow}
use Rattle.tp_base.specs.declared.rows.CallbackRow.{CallbackRow}
use Rattle.tp_base.specs.declared.rows.WorkerRow.{WorkerRow}
use Rattle.tp_base.specs.declared.rows.ClientRow.{ClientRow}
use Rattle.tp_base.specs.declared.rows.WaitTarget.{WaitTarget}
use Rattle.tp_base.specs.declared.rows.WaitTarget.TheVariants.{Object, Group, Kernel}
use Rattle.tp_base.specs.declared.ids.Who.{Who}
use Rattle.tp_base.specs.declared.ids.GroupId.{GroupId}
use Rattle.tp_base.specs.declared.ids.ObjectId.{ObjectId}
use Rattle.tp_base.specs.Armings.{without_arming}
use Rattle.tp_base.specs.Timers.{without_setting}
use Rattle.tp_model.specs.World.{World, BegunWait, new_pool, unattached}
use Rattle.tp_model.specs.Counts.{numbered, has_number}
use Rattle.tp_base.specs.Actors.{is_same_actor}
use Rattle.tp_base.specs.Kernels.{taken_by, state_after}
use Rattle.tp_model.specs.Actions.{no_actions, slots_of, asking, returning}
use Rattle.tp_model.specs.Groups.{new_group, close_row, notices_of, without_members}
use Rattle.tp_model.specs.Kernels.{new_kernel, kernel_changed}
use Rattle.tp_model.specs.Sources.{sources_of, firing, fired}
use Rattle.tp_model.specs.Waits.{target_of, is_cancelled_by, cancel_where, covered_of, wait_of}

-- ---- one list of a world

abbrev pub with_object : World → ObjectRow → World
with_object w object = record w { objects = w.objects ++ object ∷ [] }

abbrev pub with_new_callback : World → CallbackRow → World
with_new_callback w callback = record w { callbacks = w.callbacks ++ callback ∷ [] }

-- a row in place of the one of its number
abbrev pub replaced : CallbackRow → List CallbackRow → List CallbackRow
replaced callback callbacks = map (λ c. if has_number callback.number c then callback else c) callbacks

abbrev pub with_callback : World → CallbackRow → World
with_callback w callback = record w { callbacks = replaced callback w.callbacks }

-- workers and clients are numbered from 1
abbrev pub with_worker : World → ℕ → WorkerRow → World
with_worker w number worker = record w { workers = slice_set w.workers (number - 1) worker }

abbrev pub with_client : World → ℕ → ClientRow → World
with_client w number client = record w { clients = slice_set w.clients (number - 1) client }

abbrev pub with_new_pool : World → World
with_new_pool w = record w { pools = w.pools ++ new_pool w.limits ∷ [] }

-- pools are numbered from 0
abbrev pub with_pool : World → ℕ → PoolRow → World
with_pool w number pool = record w { pools = slice_set w.pools number pool }

-- ---- one row

-- a maximum of 0 counts as 1, and a minimum above a new maximum is lowered to it; a maximum below a new minimum is
-- raised to it
abbrev pub pool_after : PoolChange → PoolRow → PoolRow
pool_after Close row = record row { closed = true }
pool_after (Maximum value) row = record row { minimum = min row.minimum (max value 1); maximum = max value 1 }
pool_after (Minimum value) row = record row { minimum = value; maximum = max row.maximum value }

abbrev pub change_pool : World → ℕ → PoolChange → Option PoolRow → World
change_pool w pool how None = w
change_pool w pool how (Some row) = with_pool w pool (pool_after how row)

-- a timer that is released is unset, and a wait disarmed
abbrev pub release_object : World → ObjectId → Option ObjectRow → World
release_object w object None = w
release_object w object (Some row) = record w {
  objects = slice_set w.objects (object.0 - 1) (record row { released = true });
  settings = without_setting object w.settings;
  armings = without_arming object.0 w.armings;
}

abbrev pub taken : CallbackRow → ℕ → CallbackRow
taken c worker = record c { status = Running worker true no_actions }

abbrev pub loosened : Status → Status
loosened (Running worker associated slots) = Running worker false slots
loosened status = status

abbrev pub marked : Mark → CallbackRow → CallbackRow
marked Long c = record c { long = true }
marked Loose c = record c { status = loosened c.status }
marked (Asks kind action) c = record c { status = asking kind action c.status }

-- the operation of a callback is issued from where it is expected, and completes from where it is issued
abbrev pub status_before : IoStep → Status
status_before Issue = Expected
status_before GiveUp = Expected
status_before (Complete error bytes) = Issued

abbrev pub status_after : IoStep → Status
status_after Issue = Issued
status_after GiveUp = Cancelled
status_after (Complete error bytes) = Pending

abbrev pub result_after : IoStep → TakeResult → TakeResult
result_after Issue result = result
result_after GiveUp result = result
result_after (Complete error bytes) result = Io error bytes

abbrev pub operated : IoStep → CallbackRow → CallbackRow
operated how c = record c { status = status_after how; result = result_after how c.result }

abbrev pub returned : CallbackRow → CallbackRow
returned c = record c { status = Returned }

abbrev pub finished : ClientRow
finished = record { finished = true }

-- the callback that a worker runs returned; the worker stays attached, and the persistent one if it was
abbrev pub without_run : World → Busy → World
without_run w by = with_worker (with_callback w (returned by.callback)) by.worker (record { pool = Some by.pool; callback = None; persistent = by.persistent })

-- with the number that the next callback gets
abbrev pub return_callback : World → Busy → ActionWords → ℕ → World
return_callback w by words first = fired (without_run w by) first (returning w words (slots_of by.callback.status))

-- ---- waits

-- a wait covers what is outstanding after the cancellation, and nothing that is made later
abbrev pub new_wait : Who → WaitTarget → Bool → List CallbackRow → BegunWait
new_wait who target cancel kept = record { actor = who; target = target; covered = covered_of target cancel kept; notices = []; cleanup = 0 }

abbrev pub begin_wait : World → Who → WaitTarget → Bool → List CallbackRow → World
begin_wait w who target cancel kept = record w { callbacks = kept; waits = w.waits ++ new_wait who target cancel kept ∷ [] }

-- a close of a group has notices to give besides
abbrev pub new_close : Who → GroupId → Bool → ℕ → List ObjectId → List CallbackRow → BegunWait
new_close who group cancel context notices kept = record (new_wait who (Group group) cancel kept) { notices = notices; cleanup = context }

abbrev pub begin_close : World → Who → GroupId → Bool → ℕ → List ObjectId → List CallbackRow → World
begin_close w who group cancel context notices kept =
    record (without_members w group.0) { callbacks = kept; waits = w.waits ++ new_close who group cancel context notices kept ∷ [] }

abbrev pub notified : BegunWait → BegunWait
notified b = record b { notices = drop 1 b.notices }

abbrev pub give_notice : Who → List BegunWait → List BegunWait
give_notice who waits = map (λ (b : BegunWait). if is_same_actor b.actor who then notified b else b) waits

abbrev pub without_wait : World → Who → World
without_wait w who = record w { waits = filter (λ (b : BegunWait). not (is_same_actor b.actor who)) w.waits }

-- an actor that waits for a kernel object takes it as its wait ends
abbrev pub kernels_taken : World → Who → WaitTarget → List KernelRow
kernels_taken w who (Object object) = w.kernels
kernels_taken w who (Group group) = w.kernels
kernels_taken w who (Kernel kernel) = kernel_changed (taken_by who) w.kernels kernel.0

abbrev pub kernels_left : World → Who → WaitEnd → Option BegunWait → List KernelRow
kernels_left w who Exhausted wait = w.kernels
kernels_left w who Stalled wait = w.kernels
kernels_left w who Free None = w.kernels
kernels_left w who Free (Some b) = kernels_taken w who b.target

-- a wait that ends because the machine is stalled never gives the notices that it still has
abbrev pub given_up_after : ℕ → WaitEnd → Option BegunWait → ℕ
given_up_after before Free wait = before
given_up_after before Exhausted wait = before
given_up_after before Stalled None = before
given_up_after before Stalled (Some b) = before + length b.notices

abbrev pub end_wait : World → Who → WaitEnd → World
end_wait w who how = record (without_wait w who) {
  kernels = kernels_left w who how (wait_of w who);
  given_up = given_up_after w.given_up how (wait_of w who);
}

-- ---- each change

abbrev pub changed : World → Change → World
changed w change.Keep = w
changed w change.CreatePool = with_new_pool w
changed w (change.ChangePool pool how) = change_pool w pool.0 how (slice_get w.pools pool.0)
changed w change.CreateGroup = record w { groups = w.groups ++ new_group ∷ [] }
changed w (change.CloseGroup group) = record w { groups = close_row w.groups group.0 (numbered w.groups group.0) }
changed w (change.CreateObject row) = with_object w row
changed w (change.ReleaseObject object) = release_object w object (numbered w.objects object.0)
changed w (change.QueueCallback callback) = with_new_callback w callback
changed w (change.ExpectCallback callback) = with_new_callback w callback
changed w (change.Operate callback how) = with_callback w (operated how callback)
changed w (change.Fire trigger first count) = fired w first (firing trigger (sources_of w))
changed w (change.CreateKernel state) = record w { kernels = w.kernels ++ new_kernel state ∷ [] }
changed w (change.ChangeKernel kernel how) = record w { kernels = kernel_changed (state_after how) w.kernels kernel.0 }
changed w (change.Attach worker pool) = with_worker w worker (record { pool = Some pool; callback = None; persistent = false })
changed w (change.Detach by) = with_worker w by.worker unattached
changed w (change.Take by callback) =
    with_worker (with_callback w (taken callback by.worker)) by.worker (record { pool = Some by.pool; callback = Some callback.number; persistent = by.persistent || callback.persistent })
changed w (change.Mark by mark) = with_callback w (marked mark by.callback)
changed w (change.Return by words first count) = return_callback w by words first
changed w (change.BeginWait who awaited cancel) =
    begin_wait w who (target_of awaited) cancel (cancel_where (is_cancelled_by (target_of awaited) cancel) w.callbacks)
changed w (change.BeginClose who group cancel context notices) =
    begin_close w who group cancel context (notices_of w group.0 cancel) (cancel_where (is_cancelled_by (Group group) cancel) w.callbacks)
changed w (change.GiveNotice who) = record w { waits = give_notice who w.waits }
changed w (change.EndWait who how) = end_wait w who how
changed w (change.Finish client) = with_client w client finished
