-- The calls that the lines of a script make.
use Rattle.std.specs.Prelude.{ℕ, ◌+◌, ◌-◌, Bool, true, false, List, Option, Some, None, nat_eq, nat_le, nat_lt, not, slice_index, ◌&&◌, if◌then◌else◌}
use Rattle.tp_base.specs.Ranges.{count_most}
use Rattle.tp_base.specs.Timers.{clock_end}
use Rattle.tp_base.specs.declared.answers.ActionKind.{ActionKind}
use Rattle.tp_base.specs.declared.answers.ActionKind.TheVariants as action
use Rattle.tp_base.specs.declared.answers.Answer.{Answer}
use Rattle.tp_base.specs.declared.answers.Answer.TheVariants as answer
use Rattle.tp_base.specs.declared.calls.Call.{Call}
use Rattle.tp_base.specs.declared.calls.Call.TheVariants as call
use Rattle.tp_base.specs.declared.calls.Environ.{Environ}
use Rattle.tp_base.specs.declared.calls.Kind.{Kind}
use Rattle.tp_base.specs.declared.calls.Kind.TheVariants as kind
use Rattle.tp_base.specs.declared.calls.Lock.{Lock}
use Rattle.tp_base.specs.declared.calls.Lock.TheVariants as lock
use Rattle.tp_base.specs.declared.ids.KernelId.{KernelId}
use Rattle.tp_base.specs.declared.ids.ObjectId.{ObjectId}
use Rattle.tp_base.specs.declared.ids.RoutineId.{RoutineId}
use Rattle.script_lines.specs.declared.line.Condition.{Condition}
use Rattle.script_lines.specs.declared.line.Condition.TheVariants.{Always, If, Unless}
use Rattle.script_lines.specs.declared.line.Line.{Line}
use Rattle.script_lines.specs.declared.line.Meaning.{Meaning}
use Rattle.script_lines.specs.declared.words.Sort.{Sort}
use Rattle.script_lines.specs.declared.words.Sort.TheVariants as sort
use Rattle.script_lines.specs.declared.words.Word.{Word}
use Rattle.script_lines.specs.declared.words.Word.TheVariants as word
use Rattle.tp_script.specs.declared.routines.Progress.{Progress}

-- a number of 32 bits, the number of an object, a routine's, the count of a semaphore, by how much it is raised, and a time: what a
-- script can say is in these ranges, and stays as it is
abbrev pub small_of : ℕ → ℕ
small_of number = if nat_le number 4294967295 then number else 0

abbrev pub id_of : ℕ → ℕ
id_of number = if nat_le number 65535 then number else 0

abbrev pub routine_number : ℕ → ℕ
routine_number number = if nat_lt number 1 then 1 else number

abbrev pub level_of : ℕ → ℕ
level_of number = if nat_le number count_most then number else 0

abbrev pub units_of : ℕ → ℕ
units_of number = if nat_le 1 number && nat_le number count_most then number else 1

abbrev pub ticks_of : ℕ → ℕ
ticks_of number = if nat_le number clock_end then number else 0

-- the number that a local name stands for, of those of its section
abbrev pub local_number : ℕ → List ℕ → ℕ
local_number number names = if nat_le 1 number && nat_le number 32 then slice_index names (number - 1) else 0

-- the number that a name stands for, where the local names of its sort stand for these
abbrev pub number_at : Meaning → List ℕ → ℕ
number_at meaning names = if meaning.local then local_number meaning.number names else meaning.number

abbrev pub object_at : Line → Progress → ObjectId
object_at line at = record { 0 = id_of (number_at line.object at.locals) }

-- the callback of the operation that a line names. Each name of an operation is local
abbrev pub operation_at : Line → Progress → ℕ
operation_at line at = local_number line.object.number at.operations

abbrev pub kernel_of : Line → KernelId
kernel_of line = record { 0 = line.kernel.number }

-- a kernel object, or none
abbrev pub armed_by : Line → Option KernelId
armed_by line = if nat_eq line.kernel.number 0 then None else Some (kernel_of line)

abbrev pub routine_by : Line → RoutineId
routine_by line = record { 0 = routine_number line.routine }

-- the cancel routine is the group's
abbrev pub environ_by : Line → Environ
environ_by line = record {
  pool = record { 0 = line.pool };
  group = record { 0 = line.group };
  cancel = record { 0 = if nat_eq line.group 0 then 0 else line.cancel };
  priority = line.priority;
  long = line.long;
  persistent = line.persistent;
}

abbrev pub kind_of_sort : Sort → Kind
kind_of_sort sort.Timer = kind.Timer
kind_of_sort sort.Wait = kind.Wait
kind_of_sort sort.Io = kind.Io
kind_of_sort _ = kind.Work

abbrev pub lock_of_sort : Sort → Lock
lock_of_sort sort.Section = lock.Section
lock_of_sort _ = lock.Mutex

abbrev pub action_of_sort : Sort → ActionKind
action_of_sort sort.Mutex = action.Mutex
action_of_sort sort.Semaphore = action.Semaphore
action_of_sort sort.Event = action.Event
action_of_sort _ = action.Section

-- the maximum of a pool is given before its minimum
abbrev pub maximum_of : Line → ℕ
maximum_of line = if line.minimum then small_of line.before else small_of line.number

-- the calls of a pool's declaration, of which `done` were made
abbrev pub pool_call : Line → ℕ → Call
pool_call line done =
    if nat_eq done 0
    then call.CreatePool
    else (if nat_eq done 1 && line.maximum then call.SetMaximum (record { 0 = line.made }) (maximum_of line) else call.SetMinimum (record { 0 = line.made }) (small_of line.number))

-- the next call of a line, in a part that has come so far
abbrev pub call_by : Line → Progress → Word → Option Call
call_by line at word.Pool = Some (pool_call line at.done)
call_by line at word.Group = Some call.CreateGroup
call_by line at word.Event = Some (call.CreateEvent line.manual line.signalled)
call_by line at word.Semaphore = Some (call.CreateSemaphore (level_of line.before) (level_of line.number))
call_by line at word.Mutex = Some (call.CreateLock lock.Mutex false)
call_by line at word.Section = Some (call.CreateLock lock.Section false)
call_by line at (word.Object kind) = Some (call.Create kind (routine_by line) line.number (environ_by line))
call_by line at word.Submit = Some (call.SubmitWork (object_at line at))
call_by line at word.Simple = Some (call.SubmitSimple (routine_by line) line.number (environ_by line))
call_by line at word.SetTimer = Some (call.SetTimer (object_at line at) line.due (small_of line.before) (small_of line.number))
call_by line at word.SetTimerEx = Some (call.SetTimerEx (object_at line at) line.due (small_of line.before) (small_of line.number))
call_by line at word.IsTimerSet = Some (call.IsTimerSet (object_at line at))
call_by line at word.SetWait = Some (call.SetWait (object_at line at) (armed_by line) line.due)
call_by line at word.StartIo = Some (call.StartIo (object_at line at))
call_by line at word.CancelIo = Some (call.CancelIo (object_at line at))
call_by line at word.IssueIo = Some (call.IssueIo (object_at line at))
call_by line at word.CompleteIo = Some (call.CompleteIo (operation_at line at) (small_of line.before) line.number)
call_by line at word.CompleteNext = Some (call.CompleteNext (object_at line at) (small_of line.before) line.number)
call_by line at word.Let = Some (call.Create line.kind (routine_by line) line.number (environ_by line))
call_by line at word.Close = Some (call.CloseObject (kind_of_sort line.object.sort) (object_at line at))
call_by line at word.BeginWait = Some (call.BeginWait (kind_of_sort line.object.sort) (object_at line at) line.cancels)
call_by line at word.CloseMembers = Some (call.BeginClose (record { 0 = line.group }) line.cancels line.number)
call_by line at word.CloseGroup = Some (call.CloseGroup (record { 0 = line.group }))
call_by line at word.ClosePool = Some (call.ClosePool (record { 0 = line.pool }))
call_by line at word.SetMaximum = Some (call.SetMaximum (record { 0 = line.pool }) (small_of line.number))
call_by line at word.SetMinimum = Some (call.SetMinimum (record { 0 = line.pool }) (small_of line.number))
call_by line at word.SetEvent = Some (call.SetEvent (kernel_of line))
call_by line at word.ResetEvent = Some (call.ResetEvent (kernel_of line))
call_by line at word.ReleaseSemaphore = Some (call.ReleaseSemaphore (kernel_of line) (units_of line.number))
call_by line at word.Release = Some (call.ReleaseLock (lock_of_sort line.kernel.sort) (kernel_of line))
call_by line at word.Acquire = Some (call.BeginAcquire (kernel_of line))
call_by line at word.TryAcquire = Some (call.TryAcquire (kernel_of line))
call_by line at word.Advance = Some (call.Advance (ticks_of line.number))
call_by line at word.MayRunLong = Some call.MayRunLong
call_by line at word.Disassociate = Some call.Disassociate
call_by line at word.OnReturn = Some (call.OnReturn (action_of_sort line.kernel.sort) (kernel_of line) (units_of line.number))
call_by line at _ = None

abbrev pub call_of : Line → Progress → Option Call
call_of line at = call_by line at line.head

-- whether a kernel object is asked before the line's operation
abbrev pub is_asked : Condition → Bool
is_asked Always = false
is_asked (If kernel) = true
is_asked (Unless kernel) = true

-- the poll that asks it
abbrev pub poll_by : Condition → Option Call
poll_by Always = None
poll_by (If kernel) = Some (call.TryAcquire (record { 0 = kernel }))
poll_by (Unless kernel) = Some (call.TryAcquire (record { 0 = kernel }))

-- whether the operation is made behind this answer to the poll
abbrev pub is_met : Condition → Answer → Bool
is_met (If kernel) (answer.Flag taken) = taken
is_met (Unless kernel) (answer.Flag taken) = not taken
is_met _ _ = false

abbrev pub counted : Bool → ℕ
counted true = 1
counted false = 0

-- how many calls the line makes, a wait and its end as one, and a poll and what it is asked for as one
abbrev pub calls_by : Line → Word → ℕ
calls_by line word.Pool = 1 + counted line.maximum + counted line.minimum
calls_by line _ = line.times

abbrev pub calls_in : Line → ℕ
calls_in line = calls_by line line.head

-- whether the line's call begins a wait, which `End` ends
abbrev pub begins_wait : Word → Bool
begins_wait word.BeginWait = true
begins_wait word.CloseMembers = true
begins_wait word.Acquire = true
begins_wait _ = false

-- whether the call begins a wait
abbrev pub begins_wait_call : Call → Bool
begins_wait_call (call.BeginWait kind object cancel) = true
begins_wait_call (call.BeginAcquire kernel) = true
begins_wait_call (call.BeginClose group cancel context) = true
begins_wait_call _ = false

-- whether a part goes on with the line: one that begins a routine or a client or ends it makes no call
abbrev pub acts : Word → Bool
acts word.Routine = false
acts word.Client = false
acts word.Done = false
acts _ = true

-- a part returns and finishes by having no further call
abbrev pub IsOfPart : Call → Type 0
IsOfPart call.Finish = ⊥
IsOfPart call.Return = ⊥
IsOfPart _ = Unit {0}
