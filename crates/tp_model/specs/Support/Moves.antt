-- How an accepted call moves callbacks and workers: one thing becomes of those that there are, and some are made.
use Rattle.std.specs.Prelude.{◌≡◌, ◌≢◌, ◌⊎◌, ℕ, ◌+◌, ◌-◌, ◌<◌, Bool, true, false, List, [], ◌∷◌, ◌++◌, map, slice_get, slice_set, ◌&&◌, is_none, option_map, Option, None, Some, not, length, ◌≤◌, ◌==◌, ◌||◌, if◌then◌else◌}
use Rattle.std.specs.List.{AllByRecursion, filter, find}
use Rattle.std.specs.Option.{option_map_or}
use Rattle.tp_base.specs.declared.ids.Who.{Who}
use Rattle.tp_base.specs.declared.ids.Who.TheVariants.{Worker}
use Rattle.tp_base.specs.declared.ids.PoolId.{PoolId}
use Rattle.tp_base.specs.declared.answers.ActionKind.{ActionKind}
use Rattle.tp_base.specs.declared.plans.ActionWords.{ActionWords}
use Rattle.tp_base.specs.declared.rows.Action.{Action}
use Rattle.tp_base.specs.Actions.{slot, filled, word, is_unasked}
use Rattle.tp_base.specs.declared.answers.Entry.{Entry}
use Rattle.tp_base.specs.declared.rows.Status.{Status}
use Rattle.tp_base.specs.declared.rows.Slots.{Slots}
use Rattle.tp_base.specs.declared.rows.Status.TheVariants.{Expected, Pending, Running}
use Rattle.tp_base.specs.declared.plans.IoStep.{IoStep}
use Rattle.tp_base.specs.declared.rows.WaitTarget.TheVariants.{Group}
use Rattle.tp_base.specs.declared.rows.WaitTarget.{WaitTarget}
use Rattle.tp_base.specs.declared.ids.GroupId.{GroupId}
use Rattle.tp_base.specs.declared.ids.ObjectId.{ObjectId}
use Rattle.tp_base.specs.declared.rows.ObjectRow.{ObjectRow}
use Rattle.tp_base.specs.declared.rows.PoolRow.{PoolRow}
use Rattle.tp_base.specs.declared.rows.CallbackRow.{CallbackRow}
use Rattle.tp_base.specs.declared.rows.WorkerRow.{WorkerRow}
use Rattle.tp_model.specs.World.{World, BegunWait, unattached}
use Rattle.tp_model.specs.Counts.{numbered, has_number, is_operating, is_expected, is_open_to, is_pending, running, maximum}
use Rattle.tp_base.specs.Actors.{is_same_actor}
use Rattle.tp_model.specs.Conditions.{is_closed_pool, is_in_wait}
use Rattle.tp_model.specs.Waits.{is_group_target, cancel_where, is_covered_by, is_of, held, wait_of}
use Rattle.tp_model.specs.Groups.{gets_notice}
use Rattle.tp_model.specs.Laws.Notices.{is_due, is_close_of, notice_for}
use Rattle.tp_model.specs.Changes.{give_notice, replaced, taken, returned, status_before, operated}
use Rattle.tp_model.specs.Laws.Entries.{Run, Begins, Creation, Notice, created_by, closed_by, Simple, simple_by, closes_pool, notice_by, is_for_group, begins_by, is_among, is_ending, is_freeing, made_by, queued_new, started_by, event, Runs as Taking, is_completion, maximum_after, set_by, makes_wait}
use Rattle.tp_model.specs.Support.Sound.{is_wait_at, is_standing, count_armed}
use Rattle.tp_model.specs.Support.Told.{deed_by, deed_of, nothing, creation_of, notice_at}

-- ---- callbacks and workers that there are; `kept` and `staff` are what becomes of them

-- no callback and no worker changes
pub record Stays (w : World) (entry : Entry) (kept : List CallbackRow) (staff : List WorkerRow) : Type 0 where
  pub tells : deed_by entry ≡ nothing
  pub callbacks : kept ≡ w.callbacks
  pub workers : staff ≡ w.workers

-- a callback changes, and its status, its object, its group, its pool, its result and whether it is persistent stay the same
pub record Marks (w : World) (entry : Entry) (kept : List CallbackRow) (staff : List WorkerRow) : Type 0 where
  pub old : CallbackRow
  pub new : CallbackRow
  pub tells : deed_by entry ≡ nothing
  pub found : find (has_number new.number) w.callbacks ≡ Some old
  pub status : new.status ≡ old.status
  pub object : new.object ≡ old.object
  pub group : new.group ≡ old.group
  pub pool : new.pool ≡ old.pool
  pub result : new.result ≡ old.result
  pub persistent : new.persistent ≡ old.persistent
  pub callbacks : kept ≡ replaced new w.callbacks
  pub workers : staff ≡ w.workers

-- the actor is a worker that runs nothing
pub record IsFree (w : World) (entry : Entry) (worker : ℕ) : Type 0 where
  pub row : WorkerRow
  pub by : entry.who ≡ Worker worker
  pub stands : numbered w.workers worker ≡ Some row
  pub free : row.callback ≡ None

abbrev pub put : World → ℕ → WorkerRow → List WorkerRow
put w worker row = slice_set w.workers (worker - 1) row

-- a worker joins a pool
pub record Attaches (w : World) (entry : Entry) (kept : List CallbackRow) (staff : List WorkerRow) : Type 0 where
  pub worker : ℕ
  pub pool : PoolId
  pub actor : IsFree w entry worker
  pub away : actor.row.pool ≡ None
  pub tells : deed_by entry ≡ record nothing { attached = Some pool.0 }
  pub callbacks : kept ≡ w.callbacks
  pub workers : staff ≡ put w worker (record { pool = Some pool; callback = None; persistent = false })

-- a worker leaves its pool, which doesn't keep it
pub record Detaches (w : World) (entry : Entry) (kept : List CallbackRow) (staff : List WorkerRow) : Type 0 where
  pub worker : ℕ
  pub pool : PoolId
  pub actor : IsFree w entry worker
  pub home : actor.row.pool ≡ Some pool
  pub let_go : (not actor.row.persistent || is_closed_pool w pool.0) ≡ true
  pub tells : deed_by entry ≡ record nothing { left = true }
  pub callbacks : kept ≡ w.callbacks
  pub workers : staff ≡ put w worker unattached

abbrev pub run_of : CallbackRow → Run
run_of c = record { number = c.number; object = c.object }

-- a worker begins a pending callback of its pool that it may take
pub record Takes (w : World) (entry : Entry) (kept : List CallbackRow) (staff : List WorkerRow) : Type 0 where
  pub worker : ℕ
  pub pool : PoolId
  pub callback : CallbackRow
  pub actor : IsFree w entry worker
  pub home : actor.row.pool ≡ Some pool
  pub tells : deed_by entry ≡ record nothing { taken = Some callback.number; run = Some (run_of callback); event = event callback.number (Taking callback.result) }
  pub found : find (has_number callback.number) w.callbacks ≡ Some callback
  pub waits : is_pending callback.status ≡ true
  pub pool_same : callback.pool ≡ pool
  pub open_to : is_open_to w pool.0 actor.row.persistent callback ≡ true
  pub below : running w pool.0 < maximum w pool.0
  pub callbacks : kept ≡ replaced (taken callback worker) w.callbacks
  pub workers : staff ≡ put w worker (record { pool = Some pool; callback = Some callback.number; persistent = actor.row.persistent || callback.persistent })

-- a worker's callback returns
pub record Returns (w : World) (entry : Entry) (kept : List CallbackRow) (staff : List WorkerRow) : Type 0 where
  pub worker : ℕ
  pub row : WorkerRow
  pub pool : PoolId
  pub callback : CallbackRow
  pub by : entry.who ≡ Worker worker
  pub stands : numbered w.workers worker ≡ Some row
  pub busy : row.callback ≡ Some callback.number
  pub home : row.pool ≡ Some pool
  pub words : ActionWords
  pub tells : deed_by entry ≡ record nothing { returned = true; words = Some words }
  pub found : find (has_number callback.number) w.callbacks ≡ Some callback
  pub associated : Bool
  pub slots : Slots
  pub running : callback.status ≡ Running worker associated slots
  pub pool_same : callback.pool ≡ pool
  pub unasked : (kind : ActionKind) → is_unasked (word kind words) ≡ is_none (slot kind slots)
  pub callbacks : kept ≡ replaced (returned callback) w.callbacks
  pub workers : staff ≡ put w worker (record row { callback = None })

-- an action on return that is asked for
pub record Asking : Type 0 where
  pub kind : ActionKind
  pub action : Action

abbrev pub asked_slots : Option Asking → Slots → Slots
asked_slots None slots = slots
asked_slots (Some asking) slots = filled asking.kind asking.action slots

abbrev pub IsFreeFor : Option Asking → Slots → Type 0
IsFreeFor None slots = Unit {0}
IsFreeFor (Some asking) slots = slot asking.kind slots ≡ None

-- a running callback is no longer waited for, or asks for an action on return
pub record Amends (w : World) (entry : Entry) (kept : List CallbackRow) (staff : List WorkerRow) : Type 0 where
  pub worker : ℕ
  pub row : WorkerRow
  pub callback : CallbackRow
  pub associated : Bool
  pub slots : Slots
  pub loose : Bool
  pub asks : Option Asking
  pub by : entry.who ≡ Worker worker
  pub stands : numbered w.workers worker ≡ Some row
  pub busy : row.callback ≡ Some callback.number
  pub tells : deed_by entry ≡ record nothing { loosened = loose; asked = option_map (λ (a : Asking). a.kind) asks }
  pub found : find (has_number callback.number) w.callbacks ≡ Some callback
  pub running : callback.status ≡ Running worker associated slots
  pub free : IsFreeFor asks slots
  pub callbacks : kept ≡ replaced (record callback { status = Running worker (associated && not loose) (asked_slots asks slots) }) w.callbacks
  pub workers : staff ≡ w.workers

-- an operation goes a step
pub record Operates (w : World) (entry : Entry) (kept : List CallbackRow) (staff : List WorkerRow) : Type 0 where
  pub callback : CallbackRow
  pub how : IoStep
  pub tells : deed_by entry ≡ deed_of callback.number how
  pub found : find (has_number callback.number) w.callbacks ≡ Some callback
  pub status : callback.status ≡ status_before how
  pub callbacks : kept ≡ replaced (operated how callback) w.callbacks
  pub workers : staff ≡ w.workers

-- the pending callbacks that pass a test are cancelled
pub record Cancels (w : World) (entry : Entry) (kept : List CallbackRow) (staff : List WorkerRow) : Type 0 where
  pub test : CallbackRow → Bool
  pub tells : deed_by entry ≡ record nothing { count = length (filter test w.callbacks) }
  pub waits : (c : CallbackRow) → test c ≡ true → is_pending c.status ≡ true
  pub callbacks : kept ≡ cancel_where test w.callbacks
  pub workers : staff ≡ w.workers

pub data Move (w : World) (entry : Entry) (kept : List CallbackRow) (staff : List WorkerRow) : Type 0 where
  Stay : Stays w entry kept staff → Move w entry kept staff
  Mark : Marks w entry kept staff → Move w entry kept staff
  Attach : Attaches w entry kept staff → Move w entry kept staff
  Detach : Detaches w entry kept staff → Move w entry kept staff
  Take : Takes w entry kept staff → Move w entry kept staff
  Return : Returns w entry kept staff → Move w entry kept staff
  Amend : Amends w entry kept staff → Move w entry kept staff
  Operate : Operates w entry kept staff → Move w entry kept staff
  Cancel : Cancels w entry kept staff → Move w entry kept staff

-- ---- callbacks that are made

abbrev pub is_new : Status → Bool
is_new Expected = true
is_new Pending = true
is_new _ = false

-- numbered on from a number, none of them has begun, and what is pending has no operation's result
pub record IsNew (number : ℕ) (c : CallbackRow) : Type 0 where
  pub numbered : c.number ≡ number
  pub unbegun : is_new c.status ≡ true
  pub plain : is_pending c.status ≡ true → is_completion c.result ≡ false

abbrev pub AreNew : ℕ → List CallbackRow → Type 0
AreNew number [] = Unit {0}
AreNew number (c ∷ cs) = IsNew number c × AreNew (number + 1) cs

abbrev pub numbers_of : List CallbackRow → List ℕ
numbers_of cs = map (λ c. c.number) cs

abbrev pub waiting_of : List CallbackRow → List ℕ
waiting_of cs = numbers_of (filter (λ c. is_pending c.status) cs)

abbrev pub expecting_of : List CallbackRow → List ℕ
expecting_of cs = numbers_of (filter (λ c. is_expected c.status) cs)

-- ---- wait objects

abbrev pub count_rows : ℕ → List CallbackRow → ℕ
count_rows object cs = length (filter (λ c. c.object.0 == object) cs)

-- how many callbacks a wait object may get by an entry that says this of it, and still be armed
abbrev pub count_allowed : Option Bool → ℕ → ℕ
count_allowed None armed = armed
count_allowed (Some named) armed = if named then 1 else 0

-- each callback of a wait object takes the place of its arming
abbrev pub ArmsMove : World → Entry → World → List CallbackRow → Type 0
ArmsMove w entry after new =
    (object : ℕ) → is_wait_at after.objects object ≡ true → count_rows object new + count_armed object after.armings ≤ count_allowed (set_by object entry) (count_armed object w.armings)

-- an object stays with what it was made with, and released where it was
pub record IsObjectStill (objects : List ObjectRow) (n : ℕ) (row : ObjectRow) : Type 0 where
  pub new : ObjectRow
  pub stands : numbered objects n ≡ Some new
  pub env : new.env ≡ row.env
  pub context : new.context ≡ row.context
  pub released : row.released ≡ true → new.released ≡ true

-- the object of a creation stands, with its environment
pub record IsCreated (objects : List ObjectRow) (c : Creation) : Type 0 where
  pub row : ObjectRow
  pub stands : numbered objects c.object ≡ Some row
  pub env : row.env ≡ c.env

-- the objects of a group that have a cancel routine and aren't released, as they were made, from a number on
abbrev pub due_from : ℕ → ℕ → List ObjectRow → List Creation
due_from group n [] = []
due_from group n (o ∷ os) = if gets_notice group o then creation_of n o ∷ due_from group (n + 1) os else due_from group (n + 1) os

-- an object that is made is numbered on
abbrev pub HasCreated : Option Creation → ℕ → ℕ → Type 0
HasCreated None before now = now ≡ before
HasCreated (Some c) before now = (c.object ≡ before + 1) × (now ≡ before + 1)

-- what becomes by an entry of the objects of a group that are due a notice
abbrev pub with_created : ℕ → Option Creation → List Creation → List Creation
with_created group None due = due
with_created group (Some c) due = if is_due group c then due ++ c ∷ [] else due

abbrev pub without_closed : Option ObjectId → List Creation → List Creation
without_closed None due = due
without_closed (Some object) due = filter (λ (c : Creation). not (c.object == object.0)) due

abbrev pub without_released : ℕ → Option Begins → List Creation → List Creation
without_released group None due = due
without_released group (Some b) due = if is_close_of group b.target then [] else due

abbrev pub due_after : ℕ → List Creation → Entry → List Creation
due_after group due entry = with_created group (created_by entry) (without_closed (closed_by entry) (without_released group (begins_by entry) due))

-- of objects: those that were stay; what is created stands, and what is closed was made; a close of a group releases all of its objects; and those that a
-- close gives a notice of become what the entry tells
pub record GroupsMove (w : World) (entry : Entry) (after : World) : Type 0 where
  pub keeps : (n : ℕ) (row : ObjectRow) → numbered w.objects n ≡ Some row → IsObjectStill after.objects n row
  pub creates : (c : Creation) → created_by entry ≡ Some c → IsCreated after.objects c
  pub closes : (object : ObjectId) → closed_by entry ≡ Some object → object.0 ≤ length w.objects
  pub counts : HasCreated (created_by entry) (length w.objects) (length after.objects)
  pub clears : (b : Begins) (group : GroupId) → begins_by entry ≡ Some b → b.target ≡ Group group → (n : ℕ) (row : ObjectRow) → numbered after.objects n ≡ Some row → row.env.group.0 ≡ group.0 → row.released ≡ true
  pub dues : (group : ℕ) → due_from group 1 after.objects ≡ due_after group (due_from group 1 w.objects) entry

-- the wait objects are those that were, and the one that is made
pub record ObjectsMove (w : World) (entry : Entry) (after : World) : Type 0 where
  pub waits : (object : ℕ) → is_wait_at after.objects object ≡ (is_wait_at w.objects object || makes_wait object entry)
  pub new : (object : ℕ) → makes_wait object entry ≡ true → numbered w.objects object ≡ None

pub record Moves (next_number : ℕ) (w : World) (entry : Entry) (after : World) : Type 0 where
  pub kept : List CallbackRow
  pub new : List CallbackRow
  pub move : Move w entry kept after.workers
  pub rows : AreNew next_number new
  pub made : made_by entry ≡ numbers_of new
  pub queued : queued_new entry ≡ waiting_of new
  pub started : started_by entry.answer ≡ expecting_of new
  pub callbacks : after.callbacks ≡ kept ++ new
  pub arms : ArmsMove w entry after new
  -- what is made is of no object that is released
  pub homes : AllByRecursion (λ (c : CallbackRow). c.object.0 ≢ 0 → is_standing w.objects c.object.0 ≡ true) new
  -- and what a SubmitSimple makes, of no object and of its group, in its pool and as persistent as it says
  pub simples : (group : ℕ) → is_for_group group (simple_by entry) ≡ true → AllByRecursion (λ (c : CallbackRow). (c.object.0 ≡ 0) × (c.group.0 ≡ group)) new
  pub placed : (s : Simple) → simple_by entry ≡ Some s → AllByRecursion (λ (c : CallbackRow). (c.pool ≡ s.pool) × (c.persistent ≡ s.persistent)) new

-- ---- waits

-- no wait for callbacks begins, gives a notice or ends
pub record KeepsWaits (w : World) (entry : Entry) (after : World) : Type 0 where
  pub begins : begins_by entry ≡ None
  pub ends : is_ending entry ≡ false
  pub quiet : notice_by entry.answer ≡ None
  pub stay : (who : Who) (wait : BegunWait) → wait_of w who ≡ Some wait → wait_of after who ≡ Some wait
  -- and only one for a kernel object, which has no notices, is new
  pub was : (who : Who) (wait : BegunWait) → wait_of after who ≡ Some wait → (wait_of w who ≡ Some wait) ⊎ (wait.notices ≡ [])

-- the notices that a wait has left, as they are given
abbrev pub left_notices : List ObjectRow → BegunWait → List Notice
left_notices objects b = map (notice_at objects b.cleanup) b.notices

-- those of a new one
abbrev pub new_for : WaitTarget → ℕ → List ObjectRow → List Notice
new_for (Group group) cleanup objects = map (notice_for cleanup) (due_from group.0 1 objects)
new_for _ cleanup objects = []

abbrev pub new_notices : List ObjectRow → Begins → List Notice
new_notices objects b = if b.cancel then new_for b.target b.cleanup objects else []

-- the actor begins a wait for what is then outstanding for an object or a group, of which with cancel nothing is pending, and
-- for a group nothing has an operation under way
pub record BeginsWait (w : World) (entry : Entry) (after : World) : Type 0 where
  pub wait : BegunWait
  pub begun : Begins
  pub begins : begins_by entry ≡ Some begun
  pub ends : is_ending entry ≡ false
  pub actor : wait.actor ≡ entry.who
  pub quiet : notice_by entry.answer ≡ None
  pub target : wait.target ≡ begun.target
  pub notices : left_notices after.objects wait ≡ new_notices w.objects begun
  pub none : is_in_wait w entry.who ≡ false
  pub waits : after.waits ≡ w.waits ++ wait ∷ []
  pub covers : (n : ℕ) (c : CallbackRow) → find (has_number n) after.callbacks ≡ Some c → is_covered_by begun.target begun.cancel c ≡ true → is_among n wait.covered ≡ true
  pub cuts : begun.cancel ≡ true → (n : ℕ) (c : CallbackRow) → find (has_number n) after.callbacks ≡ Some c → is_of begun.target c ≡ true → is_pending c.status ≡ false
  pub idle : is_group_target begun.target ≡ true → (n : ℕ) (c : CallbackRow) → find (has_number n) after.callbacks ≡ Some c → is_of begun.target c ≡ true → is_operating c.status ≡ false

-- the actor's wait ends, and if it does so freely, it has no notice left and nothing that it covers is outstanding
pub record EndsWait (w : World) (entry : Entry) (after : World) : Type 0 where
  pub wait : BegunWait
  pub begins : begins_by entry ≡ None
  pub ends : is_ending entry ≡ true
  pub found : wait_of w entry.who ≡ Some wait
  pub quiet : notice_by entry.answer ≡ None
  pub unnoticed : is_freeing entry ≡ true → wait.notices ≡ []
  pub free : is_freeing entry ≡ true → held w wait ≡ []
  pub waits : after.waits ≡ filter (λ (b : BegunWait). not (is_same_actor b.actor entry.who)) w.waits

-- the actor's wait gives its first notice, where nothing that it covers is outstanding
pub record GivesNotice (w : World) (entry : Entry) (after : World) : Type 0 where
  pub wait : BegunWait
  pub begins : begins_by entry ≡ None
  pub ends : is_ending entry ≡ false
  pub found : wait_of w entry.who ≡ Some wait
  pub object : ObjectId
  pub rest : List ObjectId
  pub left : wait.notices ≡ object ∷ rest
  pub tells : notice_by entry.answer ≡ Some (notice_at w.objects wait.cleanup object)
  pub free : held w wait ≡ []
  pub waits : after.waits ≡ give_notice entry.who w.waits

pub data WaitsMove (w : World) (entry : Entry) (after : World) : Type 0 where
  Keep : KeepsWaits w entry after → WaitsMove w entry after
  Begin : BeginsWait w entry after → WaitsMove w entry after
  Notify : GivesNotice w entry after → WaitsMove w entry after
  End : EndsWait w entry after → WaitsMove w entry after

-- the maximum of a pool, and of one that is not made yet the one that it will begin with
abbrev pub maximum_at : World → ℕ → ℕ
maximum_at w pool = option_map_or (λ (p : PoolRow). p.maximum) (slice_get w.pools pool) w.limits.workers

-- an entry leads from a world to another
pub record Leads (next_number : ℕ) (w : World) (entry : Entry) (after : World) : Type 0 where
  pub moves : Moves next_number w entry after
  pub waits : WaitsMove w entry after
  pub limits : after.limits ≡ w.limits
  pub objects : ObjectsMove w entry after
  pub groups : GroupsMove w entry after
  pub maxima : (pool : ℕ) → maximum_at after pool ≡ maximum_after pool (maximum_at w pool) entry
  pub closings : (pool : ℕ) → is_closed_pool after pool ≡ (is_closed_pool w pool || closes_pool pool entry)
