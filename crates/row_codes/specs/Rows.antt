-- The codes of the rows of a world.
use Rattle.std.specs.Prelude.{ℕ, List, ◌++◌}
use Rattle.short_codes.specs.Codes.{flag, number, optional}
use Rattle.tp_base.specs.declared.answers.TakeResult.{TakeResult}
use Rattle.tp_base.specs.declared.answers.TakeResult.TheVariants.{Plain, WaitObject0, WaitTimeout, Io as IoEnd}
use Rattle.tp_base.specs.declared.calls.Environ.{Environ}
use Rattle.tp_base.specs.declared.calls.Kind.{Kind}
use Rattle.tp_base.specs.declared.calls.Kind.TheVariants.{Work, Timer, Wait, Io}
use Rattle.tp_base.specs.declared.calls.Priority.{Priority}
use Rattle.tp_base.specs.declared.calls.Priority.TheVariants.{High, Normal, Low}
use Rattle.tp_base.specs.declared.ids.Who.{Who}
use Rattle.tp_base.specs.declared.ids.Who.TheVariants.{Client, Worker}
use Rattle.tp_base.specs.declared.ids.GroupId.{GroupId}
use Rattle.tp_base.specs.declared.ids.KernelId.{KernelId}
use Rattle.tp_base.specs.declared.ids.ObjectId.{ObjectId}
use Rattle.tp_base.specs.declared.ids.PoolId.{PoolId}
use Rattle.tp_base.specs.declared.ids.RoutineId.{RoutineId}
use Rattle.tp_base.specs.declared.limits.Limits.{Limits}
use Rattle.tp_base.specs.declared.rows.Action.{Action}
use Rattle.tp_base.specs.declared.rows.Arming.{Arming}
use Rattle.tp_base.specs.declared.rows.CallbackRow.{CallbackRow}
use Rattle.tp_base.specs.declared.rows.ClientRow.{ClientRow}
use Rattle.tp_base.specs.declared.rows.GroupRow.{GroupRow}
use Rattle.tp_base.specs.declared.rows.KernelRow.{KernelRow}
use Rattle.tp_base.specs.declared.rows.KernelState.{KernelState}
use Rattle.tp_base.specs.declared.rows.KernelState.TheVariants.{Event, Semaphore, Mutex, Section}
use Rattle.tp_base.specs.declared.rows.ObjectRow.{ObjectRow}
use Rattle.tp_base.specs.declared.rows.PoolRow.{PoolRow}
use Rattle.tp_base.specs.declared.rows.Slots.{Slots}
use Rattle.tp_base.specs.declared.rows.Status.{Status}
use Rattle.tp_base.specs.declared.rows.Status.TheVariants.{Expected, Issued, Pending, Running, Returned, Cancelled}
use Rattle.tp_base.specs.declared.rows.TimerSetting.{TimerSetting}
use Rattle.tp_base.specs.declared.rows.WaitTarget.{WaitTarget}
use Rattle.tp_base.specs.declared.rows.WaitTarget.TheVariants.{Object, Group, Kernel}
use Rattle.tp_base.specs.declared.rows.WorkerRow.{WorkerRow}

-- Of ids their numbers.

abbrev pub pool_id_code : PoolId → List ℕ
pool_id_code id = number id.0

abbrev pub group_id_code : GroupId → List ℕ
group_id_code id = number id.0

abbrev pub object_id_code : ObjectId → List ℕ
object_id_code id = number id.0

abbrev pub kernel_id_code : KernelId → List ℕ
kernel_id_code id = number id.0

abbrev pub routine_id_code : RoutineId → List ℕ
routine_id_code id = number id.0

-- Of enums the number of the variant, and then what it has.

abbrev pub kind_code : Kind → List ℕ
kind_code Work = number 0
kind_code Timer = number 1
kind_code Wait = number 2
kind_code Io = number 3

abbrev pub priority_code : Priority → List ℕ
priority_code High = number 0
priority_code Normal = number 1
priority_code Low = number 2

abbrev pub who_code : Who → List ℕ
who_code (Client n) = number 0 ++ number n
who_code (Worker n) = number 1 ++ number n

abbrev pub result_code : TakeResult → List ℕ
result_code Plain = number 0
result_code WaitObject0 = number 1
result_code WaitTimeout = number 2
result_code (IoEnd error bytes) = number 3 ++ number error ++ number bytes

abbrev pub target_code : WaitTarget → List ℕ
target_code (Object id) = number 0 ++ object_id_code id
target_code (Group id) = number 1 ++ group_id_code id
target_code (Kernel id) = number 2 ++ kernel_id_code id

abbrev pub action_code : Action → List ℕ
action_code a = kernel_id_code a.kernel ++ number a.count

abbrev pub slots_code : Slots → List ℕ
slots_code s = optional action_code s.section ++ optional action_code s.mutex ++ optional action_code s.semaphore ++ optional action_code s.event

abbrev pub status_code : Status → List ℕ
status_code Expected = number 0
status_code Issued = number 1
status_code Pending = number 2
status_code (Running worker associated slots) = number 3 ++ number worker ++ flag associated ++ slots_code slots
status_code Returned = number 4
status_code Cancelled = number 5

abbrev pub state_code : KernelState → List ℕ
state_code (Event manual signalled) = number 0 ++ flag manual ++ flag signalled
state_code (Semaphore count maximum) = number 1 ++ number count ++ number maximum
state_code (Mutex owner takings) = number 2 ++ optional who_code owner ++ number takings
state_code (Section owner takings) = number 3 ++ optional who_code owner ++ number takings

abbrev pub environ_code : Environ → List ℕ
environ_code e = pool_id_code e.pool ++ group_id_code e.group ++ routine_id_code e.cancel ++ priority_code e.priority ++ flag e.long ++ flag e.persistent

-- Of rows their fields.

abbrev pub limits_code : Limits → List ℕ
limits_code l = number l.clients ++ number l.workers ++ number l.pools ++ number l.groups ++ number l.objects ++ number l.kernels ++ number l.slots

abbrev pub pool_code : PoolRow → List ℕ
pool_code p = number p.minimum ++ number p.maximum ++ flag p.closed

abbrev pub group_code : GroupRow → List ℕ
group_code g = flag g.closed

abbrev pub object_code : ObjectRow → List ℕ
object_code o = kind_code o.kind ++ flag o.released ++ routine_id_code o.routine ++ number o.context ++ environ_code o.env

abbrev pub callback_code : CallbackRow → List ℕ
callback_code c =
    number c.number ++ number c.context ++ object_id_code c.object ++ routine_id_code c.routine ++ pool_id_code c.pool ++ group_id_code c.group
    ++ result_code c.result ++ status_code c.status ++ priority_code c.priority ++ flag c.long ++ flag c.persistent

abbrev pub kernel_code : KernelRow → List ℕ
kernel_code k = state_code k.state

abbrev pub setting_code : TimerSetting → List ℕ
setting_code s = object_id_code s.object ++ number s.due ++ number s.period ++ number s.window

abbrev pub arming_code : Arming → List ℕ
arming_code a = object_id_code a.object ++ kernel_id_code a.kernel

abbrev pub worker_code : WorkerRow → List ℕ
worker_code w = optional pool_id_code w.pool ++ optional number w.callback ++ flag w.persistent

abbrev pub client_code : ClientRow → List ℕ
client_code c = flag c.finished
