-- Which changes a world allows, what each costs, and how many callbacks it makes.
use Rattle.std.specs.Prelude.{◌≡◌, ◌≢◌, ℕ, ◌+◌, ◌<◌, ◌≤◌, Bool, true, false, List, [], ◌∷◌, length, Option, None, Some}
use Rattle.tp_base.specs.declared.ids.Who.{Who}
use Rattle.tp_base.specs.declared.ids.Who.TheVariants.{Client, Worker}
use Rattle.tp_base.specs.declared.ids.GroupId.{GroupId}
use Rattle.tp_base.specs.declared.ids.ObjectId.{ObjectId}
use Rattle.tp_base.specs.declared.ids.PoolId.{PoolId}
use Rattle.tp_base.specs.declared.plans.Awaited.{Awaited}
use Rattle.tp_base.specs.declared.plans.Awaited.TheVariants as awaited
use Rattle.tp_base.specs.declared.plans.WaitEnd.{WaitEnd}
use Rattle.tp_base.specs.declared.rows.WaitTarget.{WaitTarget}
use Rattle.tp_base.specs.declared.rows.WaitTarget.TheVariants.{Kernel}
use Rattle.tp_base.specs.declared.rows.KernelState.{KernelState}
use Rattle.tp_base.specs.declared.rows.KernelState.TheVariants as state
use Rattle.tp_base.specs.declared.rows.KernelRow.{KernelRow}
use Rattle.tp_base.specs.declared.plans.KernelChange.{KernelChange}
use Rattle.tp_base.specs.declared.plans.KernelChange.TheVariants as kernel
use Rattle.tp_base.specs.declared.ids.KernelId.{KernelId}
use Rattle.tp_base.specs.declared.plans.WaitEnd.TheVariants.{Free, Stalled}
use Rattle.tp_base.specs.declared.plans.Idle.{Idle}
use Rattle.tp_base.specs.declared.plans.ActionWords.{ActionWords}
use Rattle.tp_base.specs.declared.plans.Mark.{Mark}
use Rattle.tp_base.specs.declared.plans.Mark.TheVariants.{Asks}
use Rattle.tp_base.specs.Actions.{slot}
use Rattle.tp_model.specs.Actions.{slots_of, words_of, returning}
use Rattle.tp_base.specs.declared.plans.Busy.{Busy}
use Rattle.tp_base.specs.declared.calls.Kind.{Kind}
use Rattle.tp_base.specs.declared.calls.Kind.TheVariants.{Timer, Wait}
use Rattle.tp_base.specs.declared.plans.Trigger.{Trigger}
use Rattle.tp_base.specs.declared.plans.Trigger.TheVariants as trigger
use Rattle.tp_base.specs.declared.plans.IoStep.{IoStep}
use Rattle.tp_base.specs.declared.plans.Change.{Change}
use Rattle.tp_base.specs.declared.plans.Change.TheVariants as change
use Rattle.tp_base.specs.declared.rows.Slots.{Slots}
use Rattle.tp_base.specs.declared.rows.Status.TheVariants.{Expected, Running}
use Rattle.tp_base.specs.declared.rows.ObjectRow.{ObjectRow}
use Rattle.tp_base.specs.declared.rows.CallbackRow.{CallbackRow}
use Rattle.tp_base.specs.declared.rows.WorkerRow.{WorkerRow}
use Rattle.tp_base.specs.Timers.{clock_end}
use Rattle.tp_model.specs.Changes.{status_before}
use Rattle.tp_base.specs.Kernels.{is_waitable, may_take, is_event, is_semaphore, passes_by, takings_of}
use Rattle.tp_model.specs.Kernels.{is_kernel, is_kernel_that}
use Rattle.tp_model.specs.Sources.{count_fired, slots_after}
use Rattle.tp_model.specs.World.{World, BegunWait, unfinished}
use Rattle.tp_model.specs.Counts.{numbered, callback_of, is_open_to, is_pending, maximum, running, slots}
use Rattle.tp_model.specs.Calls.Workers.{is_let_go}
use Rattle.tp_model.specs.Conditions.{is_actor, is_in_wait, is_object, lacks_slots_for, has_operations}
use Rattle.tp_model.specs.Groups.{is_group, first_operating, notices_of}
use Rattle.tp_model.specs.Waits.{wait_of, held}
use Rattle.tp_model.specs.Laws.Entries.{is_completion}
use Rattle.tp_model.specs.Support.Sound.{IsCallbackSound, is_wait_at, is_standing}

-- an object that has its place, in a pool that was made
pub record IsNewObject (w : World) (row : ObjectRow) : Type 0 where
  pub unreleased : row.released ≡ false
  pub home : row.env.pool.0 < length w.pools
  pub room : length w.objects < w.limits.objects

-- a pending callback of the next number that has its place, in a pool that was made, and of an object of that pool that
-- isn't released, if it isn't simple
pub record IsNewCallback (next_number : ℕ) (w : World) (callback : CallbackRow) : Type 0 where
  pub number : callback.number ≡ next_number
  pub pending : is_pending callback.status ≡ true
  pub object : IsCallbackSound w.objects callback
  pub home : callback.pool.0 < length w.pools
  pub room : lacks_slots_for w 1 ≡ false
  pub stands : callback.object.0 ≢ 0 → is_standing w.objects callback.object.0 ≡ true

-- and one that expects an operation, of an object
pub record IsNewOperation (next_number : ℕ) (w : World) (callback : CallbackRow) : Type 0 where
  pub number : callback.number ≡ next_number
  pub expected : callback.status ≡ Expected
  pub object : IsCallbackSound w.objects callback
  pub home : callback.pool.0 < length w.pools
  pub room : lacks_slots_for w 1 ≡ false
  pub stands : is_standing w.objects callback.object.0 ≡ true

-- an operation that comes from where the step begins
pub record MayOperate (w : World) (callback : CallbackRow) (how : IoStep) : Type 0 where
  pub found : callback_of w callback.number ≡ Some callback
  pub status : callback.status ≡ status_before how

-- the kernel object is of the change's kind; a semaphore's count stays within its maximum
abbrev pub Suits : KernelChange → KernelState → Type 0
Suits kernel.Set state = is_event state ≡ true
Suits kernel.Reset state = is_event state ≡ true
Suits (kernel.Raise more) state = (is_semaphore state ≡ true) × (passes_by more state ≡ false)
Suits kernel.Leave (state.Mutex owner takings) = Unit {0}
Suits kernel.Leave (state.Section owner takings) = Unit {0}
Suits kernel.Leave _ = ⊥
Suits (kernel.Take who) state = may_take who state ≡ true

pub record MayChange (w : World) (object : KernelId) (how : KernelChange) : Type 0 where
  pub row : KernelRow
  pub stands : numbered w.kernels object.0 ≡ Some row
  pub suits : Suits how row.state

-- an object of a kind that is not released; a moment to which the clock may come; a kernel object that a wait can be armed
-- on, if one is named
pub record IsObjectOf (of : Kind) (w : World) (object : ObjectId) : Type 0 where
  pub row : ObjectRow
  pub stands : numbered w.objects object.0 ≡ Some row
  pub kind : row.kind ≡ of
  pub unreleased : row.released ≡ false

abbrev pub IsTimer : World → ObjectId → Type 0
IsTimer w object = IsObjectOf Timer w object

pub record MayAdvance (w : World) (now : ℕ) : Type 0 where
  pub onwards : w.now ≤ now
  pub within : now ≤ clock_end

abbrev pub IsWaitable : World → Option KernelId → Type 0
IsWaitable w None = Unit {0}
IsWaitable w (Some object) = is_kernel_that is_waitable w object.0 ≡ true

pub record MayArm (w : World) (object : ObjectId) (named : Option KernelId) : Type 0 where
  pub wait : IsObjectOf Wait w object
  pub waitable : IsWaitable w named

abbrev pub IsReady : World → Trigger → Type 0
IsReady w (trigger.SetTimer object due period window) = IsTimer w object
IsReady w (trigger.Advance now) = MayAdvance w now
IsReady w (trigger.SetWait object named timeout) = MayArm w object named
IsReady w (trigger.SetEvent object) = MayChange w object kernel.Set
IsReady w (trigger.ReleaseSemaphore object count) = MayChange w object (kernel.Raise count)

-- so many callbacks as the trigger makes, numbered from the next number on, and no more slots are taken than there are
pub record MayFire (next_number : ℕ) (w : World) (trigger : Trigger) (first count : ℕ) : Type 0 where
  pub ready : IsReady w trigger
  pub number : first ≡ next_number
  pub counted : count ≡ count_fired w trigger
  pub room : slots w ≤ w.limits.slots → slots_after w trigger ≤ w.limits.slots

-- an unattached worker, and a pool that was made
pub record MayAttach (w : World) (worker : ℕ) (pool : PoolId) : Type 0 where
  pub row : WorkerRow
  pub stands : numbered w.workers worker ≡ Some row
  pub away : row.pool ≡ None
  pub idle : row.callback ≡ None
  pub home : pool.0 < length w.pools

-- a worker that is attached to this pool and runs nothing
abbrev pub Idles : World → Idle → Type 0
Idles w by = numbered w.workers by.worker ≡ Some (record { pool = Some by.pool; callback = None; persistent = by.persistent })

-- that isn't kept as the pool's persistent worker
pub record MayDetach (w : World) (by : Idle) : Type 0 where
  pub idles : Idles w by
  pub let_go : is_let_go w by ≡ true

-- a pending callback of the worker's pool that the worker may take, and fewer run there than the maximum
pub record MayTake (w : World) (by : Idle) (callback : CallbackRow) : Type 0 where
  pub idles : Idles w by
  pub found : callback_of w callback.number ≡ Some callback
  pub pending : is_pending callback.status ≡ true
  pub home : callback.pool ≡ by.pool
  pub open_to : is_open_to w by.pool.0 by.persistent callback ≡ true
  pub below : running w by.pool.0 < maximum w by.pool.0

-- a worker that is attached to this pool and runs this callback
pub record Runs (w : World) (by : Busy) : Type 0 where
  pub stands : numbered w.workers by.worker ≡ Some (record { pool = Some by.pool; callback = Some by.callback.number; persistent = by.persistent })
  pub found : callback_of w by.callback.number ≡ Some by.callback
  pub associated : Bool
  pub slots : Slots
  pub running : by.callback.status ≡ Running by.worker associated slots
  pub home : by.callback.pool ≡ by.pool

-- an action of a kind is asked for once
abbrev pub IsUnasked : Mark → Slots → Type 0
IsUnasked (Asks kind action) slots = slot kind slots ≡ None
IsUnasked _ slots = Unit {0}

pub record MayMark (w : World) (by : Busy) (mark : Mark) : Type 0 where
  pub runs : Runs w by
  pub unasked : IsUnasked mark runs.slots

-- what becomes of the actions is by what their kernel objects are at
pub record MayReturn (next_number : ℕ) (w : World) (by : Busy) (words : ActionWords) (first count : ℕ) : Type 0 where
  pub runs : Runs w by
  pub told : words ≡ words_of w (Worker by.worker) runs.slots
  pub number : first ≡ next_number
  pub counted : count ≡ length (returning w words (slots_of by.callback.status)).jobs

-- an object that is not released and has no operation under way
pub record IsUnreleased (w : World) (object : ObjectId) : Type 0 where
  pub row : ObjectRow
  pub stands : numbered w.objects object.0 ≡ Some row
  pub unreleased : row.released ≡ false
  pub idle : has_operations w object.0 ≡ false

-- a kernel object that has its place; a lock is taken by who makes it, or by nobody
pub record IsNewKernel (w : World) (state : KernelState) : Type 0 where
  pub room : length w.kernels < w.limits.kernels
  pub takings : takings_of state ≤ 1

-- what is awaited was made
abbrev pub IsTargetMade : World → Awaited → Type 0
IsTargetMade w (awaited.Object object) = is_object w object.0 ≡ true
IsTargetMade w (awaited.Kernel kernel) = is_kernel w kernel.0 ≡ true

-- what a wait is for may be taken by the actor, if it is a kernel object
abbrev pub IsTakeable : World → Who → WaitTarget → Type 0
IsTakeable w who (Kernel kernel) = is_kernel_that (may_take who) w kernel.0 ≡ true
IsTakeable w who _ = Unit {0}

-- an actor that has no wait begun, and something to wait for
pub record MayBegin (w : World) (who : Who) (awaited : Awaited) : Type 0 where
  pub actor : is_actor w who ≡ true
  pub none : is_in_wait w who ≡ false
  pub made : IsTargetMade w awaited

-- an actor that has no wait begun, and a group no member of which has an operation under way; so many notices
pub record MayClose (w : World) (who : Who) (group : GroupId) (cancel : Bool) (notices : ℕ) : Type 0 where
  pub actor : is_actor w who ≡ true
  pub none : is_in_wait w who ≡ false
  pub made : is_group w group.0 ≡ true
  pub idle : first_operating w group.0 ≡ None
  pub counted : notices ≡ length (notices_of w group.0 cancel)

-- the wait that the actor has begun has a notice left, and nothing that it covers is outstanding any more
pub record MayNotify (w : World) (who : Who) : Type 0 where
  pub wait : BegunWait
  pub begun : wait_of w who ≡ Some wait
  pub object : ObjectId
  pub rest : List ObjectId
  pub left : wait.notices ≡ object ∷ rest
  pub free : held w wait ≡ []

-- the wait that the actor has begun. Notices are left only where the machine is stalled; it ends freely where nothing that it
-- covers is outstanding any more, and the actor may take the kernel object that it is for
pub record MayEnd (w : World) (who : Who) (how : WaitEnd) : Type 0 where
  pub wait : BegunWait
  pub begun : wait_of w who ≡ Some wait
  pub unnoticed : how ≢ Stalled → wait.notices ≡ []
  pub free : how ≡ Free → held w wait ≡ []
  pub takes : how ≡ Free → IsTakeable w who wait.target

-- with the number that the next callback gets
abbrev pub IsAllowed : ℕ → World → Change → Type 0
IsAllowed next_number w change.Keep = Unit {0}
IsAllowed next_number w change.CreatePool = length w.pools < w.limits.pools
IsAllowed next_number w (change.ChangePool pool how) = pool.0 < length w.pools
IsAllowed next_number w change.CreateGroup = length w.groups < w.limits.groups
IsAllowed next_number w (change.CloseGroup group) = is_group w group.0 ≡ true
IsAllowed next_number w (change.CreateObject row) = IsNewObject w row
IsAllowed next_number w (change.ReleaseObject object) = IsUnreleased w object
IsAllowed next_number w (change.QueueCallback callback) = IsNewCallback next_number w callback
IsAllowed next_number w (change.ExpectCallback callback) = IsNewOperation next_number w callback
IsAllowed next_number w (change.Operate callback how) = MayOperate w callback how
IsAllowed next_number w (change.Fire trigger first count) = MayFire next_number w trigger first count
IsAllowed next_number w (change.CreateKernel state) = IsNewKernel w state
IsAllowed next_number w (change.ChangeKernel object how) = MayChange w object how
IsAllowed next_number w (change.Attach worker pool) = MayAttach w worker pool
IsAllowed next_number w (change.Detach by) = MayDetach w by
IsAllowed next_number w (change.Take by callback) = MayTake w by callback
IsAllowed next_number w (change.Mark by mark) = MayMark w by mark
IsAllowed next_number w (change.Return by words first count) = MayReturn next_number w by words first count
IsAllowed next_number w (change.BeginWait who awaited cancel) = MayBegin w who awaited
IsAllowed next_number w (change.BeginClose who group cancel context notices) = MayClose w who group cancel notices
IsAllowed next_number w (change.GiveNotice who) = MayNotify w who
IsAllowed next_number w (change.EndWait who how) = MayEnd w who how
IsAllowed next_number w (change.Finish client) = numbered w.clients client ≡ Some unfinished

-- the entries that a change costs: its own, and those that are owed more than before
abbrev pub price : Change → ℕ
price (change.Attach worker pool) = 2
price (change.Take by callback) = 2
price (change.BeginWait who awaited cancel) = 2
price (change.BeginClose who group cancel context notices) = 2 + notices
price (change.GiveNotice who) = 0
price (change.EndWait who how) = 0
price (change.Detach by) = 0
price (change.Return by words first count) = 0
price (change.Finish client) = 0
price _ = 1

-- how many callbacks it makes
abbrev pub news : Change → ℕ
news (change.QueueCallback callback) = 1
news (change.ExpectCallback callback) = 1
news (change.Fire trigger first count) = count
news (change.Return by words first count) = count
news _ = 0

-- by whom a change can be made; and a callback that no trigger makes is of no wait object, and has no operation's result
abbrev pub IsMadeBy : World → Who → Change → Type 0
IsMadeBy w who (change.QueueCallback callback) = (is_wait_at w.objects callback.object.0 ≡ false) × (is_completion callback.result ≡ false)
IsMadeBy w who (change.ExpectCallback callback) = is_wait_at w.objects callback.object.0 ≡ false
IsMadeBy w who (change.Attach worker pool) = who ≡ Worker worker
IsMadeBy w who (change.Detach by) = who ≡ Worker by.worker
IsMadeBy w who (change.Take by callback) = who ≡ Worker by.worker
IsMadeBy w who (change.Mark by mark) = who ≡ Worker by.worker
IsMadeBy w who (change.Return by words first count) = who ≡ Worker by.worker
IsMadeBy w who (change.BeginWait actor awaited cancel) = who ≡ actor
IsMadeBy w who (change.BeginClose actor group cancel context notices) = who ≡ actor
IsMadeBy w who (change.GiveNotice actor) = who ≡ actor
IsMadeBy w who (change.EndWait actor how) = who ≡ actor
IsMadeBy w who (change.Finish client) = who ≡ Client client
IsMadeBy w who _ = Unit {0}
