-- What is true of every world that can be reached.
use Rattle.std.specs.Prelude.{◌≡◌, ◌≢◌, ℕ, ◌+◌, ◌<◌, ◌≤◌, Bool, true, false, not, ◌&&◌, ◌==◌, List, [], ◌∷◌, length, if◌then◌else◌, None, Some, Option}
use Rattle.std.specs.List.{find, filter, list_any, AllByRecursion}
use Rattle.std.specs.Option.{option_map_or}
use Rattle.tp_base.specs.declared.ids.PoolId.{PoolId}
use Rattle.tp_base.specs.declared.ids.ObjectId.{ObjectId}
use Rattle.tp_base.specs.declared.rows.Slots.{Slots}
use Rattle.tp_base.specs.declared.rows.Status.TheVariants.{Running}
use Rattle.tp_base.specs.declared.rows.ObjectRow.{ObjectRow}
use Rattle.tp_base.specs.declared.rows.CallbackRow.{CallbackRow}
use Rattle.tp_base.specs.declared.rows.TimerSetting.{TimerSetting}
use Rattle.tp_base.specs.declared.rows.Arming.{Arming}
use Rattle.tp_base.specs.declared.rows.WorkerRow.{WorkerRow}
use Rattle.tp_base.specs.declared.calls.Kind.TheVariants.{Wait}
use Rattle.tp_base.specs.Armings.{is_armed}
use Rattle.tp_base.specs.Timers.{clock_end}
use Rattle.tp_base.specs.declared.rows.WaitTarget.{WaitTarget}
use Rattle.tp_base.specs.declared.rows.WaitTarget.TheVariants.{Object}
use Rattle.tp_model.specs.World.{World, BegunWait}
use Rattle.tp_model.specs.Counts.{numbered, has_number, is_operating}
use Rattle.tp_model.specs.Groups.{is_object_that, has_cancel}
use Rattle.tp_base.specs.Actors.{is_same_actor}
use Rattle.tp_model.specs.Conditions.{is_same_kind}
use Rattle.tp_model.specs.Waits.{is_of, is_group_target}
use Rattle.tp_model.specs.Laws.Entries.{is_among}
use Rattle.tp_model.specs.Laws.Once.{is_left}

-- the numbers rise, from low on, and stay below next_number
abbrev pub IsRising : ℕ → ℕ → List CallbackRow → Type 0
IsRising low next_number [] = low ≤ next_number
IsRising low next_number (c ∷ cs) = (low ≤ c.number) × IsRising (c.number + 1) next_number cs

-- the callback of this number runs on this worker, in this pool
pub record RunsOn (callbacks : List CallbackRow) (worker : ℕ) (pool : PoolId) (number : ℕ) : Type 0 where
  pub callback : CallbackRow
  pub associated : Bool
  pub slots : Slots
  pub found : find (has_number number) callbacks ≡ Some callback
  pub runs : callback.status ≡ Running worker associated slots
  pub at_home : callback.pool ≡ pool

-- a worker that runs a callback is attached to the callback's pool
abbrev pub IsWorkerSound : List CallbackRow → ℕ → Option PoolId → Option ℕ → Type 0
IsWorkerSound callbacks worker pool None = Unit {0}
IsWorkerSound callbacks worker None (Some number) = ⊥
IsWorkerSound callbacks worker (Some pool) (Some number) = RunsOn callbacks worker pool number

-- of the workers from this number on
abbrev pub AreWorkersSound : List CallbackRow → ℕ → List WorkerRow → Type 0
AreWorkersSound callbacks worker [] = Unit {0}
AreWorkersSound callbacks worker (r ∷ rs) = IsWorkerSound callbacks worker r.pool r.callback × AreWorkersSound callbacks (worker + 1) rs

-- the callback's object was made, and is of the callback's pool and group, and as persistent as the callback is
pub record HasObject (objects : List ObjectRow) (c : CallbackRow) : Type 0 where
  pub row : ObjectRow
  pub stands : numbered objects c.object.0 ≡ Some row
  pub home : c.pool ≡ row.env.pool
  pub group : c.group ≡ row.env.group
  pub persistent : c.persistent ≡ row.env.persistent

-- simple callbacks have none
abbrev pub IsCallbackSound : List ObjectRow → CallbackRow → Type 0
IsCallbackSound objects c = c.object.0 ≢ 0 → HasObject objects c

-- a callback of the target that may still be run
abbrev pub is_left_of : WaitTarget → CallbackRow → Bool
is_left_of target c = is_of target c && is_left c.status

-- the callback of this number is one
abbrev pub is_left_among : List CallbackRow → WaitTarget → ℕ → Bool
is_left_among callbacks target number = option_map_or (is_left_of target) (find (has_number number) callbacks) false

-- no wait is for object 0
abbrev pub IsNamed : WaitTarget → Type 0
IsNamed (Object object) = object.0 ≢ 0
IsNamed _ = Unit {0}

-- a wait covers callbacks that were made, and of those that may still be run none without the ones before it
pub record IsWaitSound (next_number : ℕ) (callbacks : List CallbackRow) (b : BegunWait) : Type 0 where
  pub named : IsNamed b.target
  pub made : AllByRecursion (λ n. n < next_number) b.covered
  pub closed : (m n : ℕ) → m < n → is_left_among callbacks b.target m ≡ true → is_left_among callbacks b.target n ≡ true → is_among n b.covered ≡ true → is_among m b.covered ≡ true
  -- where it covers one of those, or is for no group, it has no notices to give
  pub settled : (n : ℕ) → is_left_among callbacks b.target n ≡ true → is_among n b.covered ≡ true → b.notices ≡ []
  pub quiet : is_group_target b.target ≡ false → b.notices ≡ []

-- no actor has two waits begun
abbrev pub AreApart : List BegunWait → Type 0
AreApart [] = Unit {0}
AreApart (b ∷ bs) = (list_any (λ (c : BegunWait). is_same_actor c.actor b.actor) bs ≡ false) × AreApart bs

-- a number of one of so many things
abbrev pub IsMade : ℕ → ℕ → Type 0
IsMade count number = (1 ≤ number) × (number ≤ count)

-- ---- wait objects

abbrev pub is_wait_at : List ObjectRow → ℕ → Bool
is_wait_at objects object = option_map_or (λ (o : ObjectRow). is_same_kind o.kind Wait) (numbered objects object) false

-- a wait object that isn't released
abbrev pub may_be_armed : List ObjectRow → ℕ → Bool
may_be_armed objects object = option_map_or (λ (o : ObjectRow). is_same_kind o.kind Wait && not o.released) (numbered objects object) false

-- how often an object is armed, and how often it is set
abbrev pub count_armed : ℕ → List Arming → ℕ
count_armed object armings = if is_armed object armings then 1 else 0

abbrev pub count_set : ℕ → List TimerSetting → ℕ
count_set object settings = length (filter (λ (s : TimerSetting). s.object.0 == object) settings)

-- a wait has one timeout at most, only while it is armed, and it expires once
pub record IsTimedOut (object : ℕ) (settings : List TimerSetting) (armings : List Arming) : Type 0 where
  pub few : count_set object settings ≤ count_armed object armings
  pub once : AllByRecursion (λ (s : TimerSetting). s.object.0 ≡ object → s.period ≡ 0) settings

-- ---- objects that aren't released

abbrev pub is_standing : List ObjectRow → ℕ → Bool
is_standing objects object = is_object_that (λ (o : ObjectRow). not o.released) objects object

-- an object of which a wait may have a notice left: it was closed, and has a cancel routine
abbrev pub is_told : ObjectRow → Bool
is_told o = o.released && has_cancel o

-- with the number that the next callback gets
pub record IsSound (next_number : ℕ) (w : World) : Type 0 where
  pub numbers : IsRising 1 next_number w.callbacks
  pub workers : AreWorkersSound w.callbacks 1 w.workers
  pub object_pools : AllByRecursion (λ (o : ObjectRow). o.env.pool.0 < length w.pools) w.objects
  pub apart : AreApart w.waits
  -- an object that is set isn't released
  pub timers : AllByRecursion (λ (s : TimerSetting). is_standing w.objects s.object.0 ≡ true) w.settings
  -- an object that is armed is a wait object and isn't released
  pub armings : AllByRecursion (λ (a : Arming). may_be_armed w.objects a.object.0 ≡ true) w.armings
  pub timeouts : (object : ℕ) → is_wait_at w.objects object ≡ true → IsTimedOut object w.settings w.armings
  pub clock : w.now ≤ clock_end
  pub waits : AllByRecursion (IsWaitSound next_number w.callbacks) w.waits
  pub callback_pools : AllByRecursion (λ (c : CallbackRow). c.pool.0 < length w.pools) w.callbacks
  pub callback_objects : AllByRecursion (IsCallbackSound w.objects) w.callbacks
  -- nor one that has an operation
  pub operations : AllByRecursion (λ (c : CallbackRow). is_operating c.status ≡ true → is_standing w.objects c.object.0 ≡ true) w.callbacks
  -- and an object that a wait has a notice of is released, and has a cancel routine
  pub notices : AllByRecursion (λ (b : BegunWait). AllByRecursion (λ (o : ObjectId). is_object_that is_told w.objects o.0 ≡ true) b.notices) w.waits
