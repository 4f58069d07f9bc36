-- What makes callbacks by itself: the clock and the timers that are set, and kernel objects with the waits that are armed
-- on them. What becomes of them where a timer or a wait is set, time passes, or a kernel object is signalled, and which
-- callbacks that makes.
use Rattle.std.specs.Prelude.{ℕ, zero, suc, ◌+◌, ℤ, false, List, [], ◌∷◌, ◌++◌, map, length, if◌then◌else◌, Option, None, Some}
use Rattle.std.specs.List.{filter, find}
use Rattle.std.specs.Option.{unwrap_or}
use Rattle.tp_base.specs.declared.ids.KernelId.{KernelId}
use Rattle.tp_base.specs.declared.ids.ObjectId.{ObjectId}
use Rattle.tp_base.specs.declared.ids.RoutineId.{RoutineId}
use Rattle.tp_base.specs.declared.calls.Kind.{Kind}
use Rattle.tp_base.specs.declared.calls.Kind.TheVariants.{Work}
use Rattle.tp_base.specs.declared.calls.Environ.{Environ}
use Rattle.tp_base.specs.declared.calls.Priority.TheVariants.{Normal}
use Rattle.tp_base.specs.declared.answers.TakeResult.{TakeResult}
use Rattle.tp_base.specs.declared.answers.TakeResult.TheVariants.{Plain, WaitObject0, WaitTimeout}
use Rattle.tp_base.specs.declared.plans.KernelChange.{KernelChange}
use Rattle.tp_base.specs.declared.plans.KernelChange.TheVariants.{Set, Raise}
use Rattle.tp_base.specs.declared.plans.Trigger.{Trigger}
use Rattle.tp_base.specs.declared.plans.Trigger.TheVariants.{SetTimer, Advance, SetWait, SetEvent, ReleaseSemaphore}
use Rattle.tp_base.specs.declared.rows.Status.TheVariants.{Pending}
use Rattle.tp_base.specs.declared.rows.ObjectRow.{ObjectRow}
use Rattle.tp_base.specs.declared.rows.CallbackRow.{CallbackRow}
use Rattle.tp_base.specs.declared.rows.KernelRow.{KernelRow}
use Rattle.tp_base.specs.declared.rows.KernelState.{KernelState}
use Rattle.tp_base.specs.declared.rows.TimerSetting.{TimerSetting}
use Rattle.tp_base.specs.declared.rows.Arming.{Arming}
use Rattle.tp_base.specs.Armings.{is_armed, is_arming_on, without_arming, armed_behind}
use Rattle.tp_base.specs.Kernels.{is_signalled, taken, state_after}
use Rattle.tp_base.specs.Timers.{set_timer, without_setting, expires_at_once, expired, after_expiry}
use Rattle.tp_model.specs.World.{World}
use Rattle.tp_model.specs.Counts.{numbered, is_live}
use Rattle.tp_model.specs.Kernels.{is_one_that, kernel_changed}

-- the timers that are set and the timeouts of armed waits, in the order in which they expire; the armed waits, in order of
-- arming; the kernel objects; and the clock
pub record Sources : Type 0 where
  pub settings : List TimerSetting
  pub armings : List Arming
  pub kernels : List KernelRow
  pub now : ℕ

abbrev pub sources_of : World → Sources
sources_of w = record { settings = w.settings; armings = w.armings; kernels = w.kernels; now = w.now }

-- a callback to be made, of an object
pub record Job : Type 0 where
  pub object : ObjectId
  pub result : TakeResult

-- what a trigger comes to: the sources after it, and the callbacks that it makes, in order
pub record Firing : Type 0 where
  pub sources : Sources
  pub jobs : List Job

abbrev pub job : ObjectId → TakeResult → Job
job object result = record { object = object; result = result }

abbrev pub jobless : Sources → Firing
jobless s = record { sources = s; jobs = [] }

-- another state of one of the kernel objects
abbrev pub with_state : (KernelState → KernelState) → ℕ → Sources → Sources
with_state f kernel s = record s { kernels = kernel_changed f s.kernels kernel }

-- ---- a kernel object is signalled

-- a wait is disarmed, and its timeout ends
abbrev pub disarmed : ObjectId → Sources → Sources
disarmed object s = record s { settings = without_setting object s.settings; armings = without_arming object.0 s.armings }

-- an armed wait takes the kernel object, and makes a callback
abbrev pub release_to : ℕ → Firing → Option Arming → Firing
release_to kernel f None = f
release_to kernel f (Some a) = record { sources = with_state taken kernel (disarmed a.object f.sources); jobs = f.jobs ++ job a.object WaitObject0 ∷ [] }

-- the earliest wait that is armed on a kernel object is released, if the object is signalled
abbrev pub release_first : ℕ → Firing → Firing
release_first kernel f = if is_one_that is_signalled f.sources.kernels kernel then release_to kernel f (find (is_arming_on kernel) f.sources.armings) else f

abbrev pub release_times : ℕ → ℕ → Firing → Firing
release_times zero kernel f = f
release_times (suc n) kernel f = release_times n kernel (release_first kernel f)

-- as long as the object is signalled and a wait is armed on it, the earliest is released: no more than are armed
abbrev pub release : ℕ → Firing → Firing
release kernel f = release_times (length f.sources.armings) kernel f

-- a change of a kernel object that may signal it
abbrev pub signal : KernelChange → ℕ → Firing → Firing
signal how kernel f = release kernel (record f { sources = with_state (state_after how) kernel f.sources })

-- ---- a wait is armed

-- a wait that is armed on no kernel object, on this one: it takes an object that is signalled, and else it times out at
-- once or is armed
abbrev pub arm : ObjectId → KernelId → Option ℤ → Sources → Firing
arm object kernel timeout s =
    if is_one_that is_signalled s.kernels kernel.0
    then record { sources = with_state taken kernel.0 s; jobs = job object WaitObject0 ∷ [] }
    else if expires_at_once s.now timeout
    then record { sources = s; jobs = job object WaitTimeout ∷ [] }
    else jobless (record s { settings = set_timer s.now object timeout 0 0 s.settings; armings = s.armings ++ record { object = object; kernel = kernel } ∷ [] })

-- SetThreadpoolWait: the old arming ends, and without a kernel object there is no new one
abbrev pub set_wait : ObjectId → Option KernelId → Option ℤ → Sources → Firing
set_wait object None timeout s = jobless (disarmed object s)
set_wait object (Some kernel) timeout s = arm object kernel timeout (disarmed object s)

-- ---- time passes

-- a setting of an armed wait is its timeout, and any other one is a timer's
abbrev pub expiry_job : List Arming → TimerSetting → Job
expiry_job armings setting = job setting.object (if is_armed setting.object.0 armings then WaitTimeout else Plain)

-- ---- triggers

abbrev pub firing : Trigger → Sources → Firing
firing (SetTimer object due period window) s = record {
  sources = record s { settings = set_timer s.now object due period window s.settings };
  jobs = if expires_at_once s.now due then job object Plain ∷ [] else [];
}
firing (Advance now) s = record {
  sources = record s { settings = after_expiry now s.settings; armings = armed_behind (expired now s.settings) s.armings; now = now };
  jobs = map (expiry_job s.armings) (expired now s.settings);
}
firing (SetWait object kernel timeout) s = set_wait object kernel timeout s
firing (SetEvent kernel) s = signal Set kernel.0 (jobless s)
firing (ReleaseSemaphore kernel count) s = signal (Raise count) kernel.0 (jobless s)

-- how many callbacks a trigger makes
abbrev pub count_fired : World → Trigger → ℕ
count_fired w trigger = length (firing trigger (sources_of w)).jobs

-- the slots that are taken after it: a callback takes that of the armed wait that it is of
abbrev pub slots_after : World → Trigger → ℕ
slots_after w trigger = length (filter (λ c. is_live c.status) w.callbacks) + length (firing trigger (sources_of w)).jobs + length (firing trigger (sources_of w)).sources.armings

-- ---- the callbacks that are made

-- an object as it is made
abbrev pub new_object : Kind → RoutineId → ℕ → Environ → ObjectRow
new_object kind routine context env = record { kind = kind; routine = routine; context = context; env = env; released = false }

-- a callback of an object, as the object's environment was when the object was made
abbrev pub new_callback : ℕ → ObjectId → ObjectRow → TakeResult → CallbackRow
new_callback number object row result = record {
  number = number;
  object = object;
  routine = row.routine;
  context = row.context;
  pool = row.env.pool;
  group = row.env.group;
  priority = row.env.priority;
  long = row.env.long;
  persistent = row.env.persistent;
  result = result;
  status = Pending;
}

-- in place of the row of an object that was never made: each job is of one that was
abbrev pub no_object : ObjectRow
no_object = new_object Work (record { 0 = 0 }) 0 (record { pool = record { 0 = 0 }; group = record { 0 = 0 }; cancel = record { 0 = 0 }; priority = Normal; long = false; persistent = false })

abbrev pub object_row : List ObjectRow → ObjectId → ObjectRow
object_row objects object = unwrap_or (numbered objects object.0) no_object

-- numbered on from a number
abbrev pub rows_of : List ObjectRow → ℕ → List Job → List CallbackRow
rows_of objects next_number [] = []
rows_of objects next_number (job ∷ jobs) = new_callback next_number job.object (object_row objects job.object) job.result ∷ rows_of objects (next_number + 1) jobs

-- the world after what a trigger came to
abbrev pub fired : World → ℕ → Firing → World
fired w next_number f = record w {
  settings = f.sources.settings;
  armings = f.sources.armings;
  kernels = f.sources.kernels;
  now = f.sources.now;
  callbacks = w.callbacks ++ rows_of w.objects next_number f.jobs;
}
