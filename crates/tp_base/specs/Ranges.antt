-- Which limits, calls, answers and looks are in range.
use Rattle.std.specs.Prelude.{◌≡◌, ℕ, ℤ, ◌<◌, ◌≤◌, ◌^◌, Option, None, Some, FitsSigned}
use Rattle.std.specs.Int.{w64}
use Rattle.tp_base.specs.declared.limits.Limits.{Limits}
use Rattle.tp_base.specs.declared.ids.KernelId.{KernelId}
use Rattle.tp_base.specs.declared.calls.Call.{Call}
use Rattle.tp_base.specs.declared.calls.Call.TheVariants.{ClosePool, SetMaximum, SetMinimum, CloseGroup, BeginClose, Create, CloseObject, SubmitSimple, SubmitWork}
use Rattle.tp_base.specs.declared.calls.Call.TheVariants.{SetTimer, SetTimerEx, IsTimerSet, Advance, SetWait, StartIo, IssueIo, CancelIo, CompleteIo, CompleteNext}
use Rattle.tp_base.specs.declared.calls.Call.TheVariants.{BeginWait, BeginAcquire, TryAcquire, CreateSemaphore, SetEvent, ResetEvent, ReleaseSemaphore, ReleaseLock, OnReturn}
use Rattle.tp_base.specs.declared.calls.Environ.{Environ}
use Rattle.tp_base.specs.declared.answers.Answer.{Answer}
use Rattle.tp_base.specs.declared.answers.Answer.TheVariants as answer
use Rattle.tp_base.specs.declared.answers.Look.{Look}
use Rattle.tp_base.specs.declared.answers.Look.TheVariants as look
use Rattle.tp_base.specs.declared.answers.Outcome.{Outcome}
use Rattle.tp_base.specs.declared.answers.Outcome.TheVariants as outcome
use Rattle.tp_base.specs.declared.answers.Refusal.{Refusal}
use Rattle.tp_base.specs.declared.answers.Refusal.TheVariants as refusal
use Rattle.tp_base.specs.declared.answers.TakeResult.{TakeResult}
use Rattle.tp_base.specs.declared.answers.TakeResult.TheVariants.{Io}
use Rattle.tp_base.specs.Timers.{clock_end}

-- a machine has at least a worker, the default pool and a slot, and at most 65,535 of anything
pub record AreLimitsInRange (limits : Limits) : Type 0 where
  pub clients_most : limits.clients ≤ 65535
  pub workers_least : 1 ≤ limits.workers
  pub workers_most : limits.workers ≤ 65535
  pub pools_least : 1 ≤ limits.pools
  pub pools_most : limits.pools ≤ 65535
  pub groups_most : limits.groups ≤ 65535
  pub objects_most : limits.objects ≤ 65535
  pub kernels_most : limits.kernels ≤ 65535
  pub slots_least : 1 ≤ limits.slots
  pub slots_most : limits.slots ≤ 65535

-- an environment without a group has no cancel routine
pub record IsEnvironInRange (env : Environ) : Type 0 where
  pub pool_most : env.pool.0 ≤ 65535
  pub group_most : env.group.0 ≤ 65535
  pub cancel_most : env.cancel.0 ≤ 65535
  pub cancel_with_group : env.group.0 ≡ 0 → env.cancel.0 ≡ 0

pub record IsRoutineInRange (routine : ℕ) : Type 0 where
  pub least : 1 ≤ routine
  pub most : routine ≤ 65535

-- a due time is of 64 bits with its sign
abbrev pub IsDueInRange : Option ℤ → Type 0
IsDueInRange None = Unit {0}
IsDueInRange (Some due) = FitsSigned w64 due

-- and a period and a window are of 32 bits
abbrev pub IsSettingInRange : Option ℤ → ℕ → ℕ → Type 0
IsSettingInRange due period window = IsDueInRange due × (period < 2 ^ 32) × (window < 2 ^ 32)

-- a number of a kernel object, if there is one
abbrev pub IsNamedInRange : Option KernelId → Type 0
IsNamedInRange None = Unit {0}
IsNamedInRange (Some kernel) = kernel.0 ≤ 65535

-- the greatest count of a semaphore
abbrev pub count_most : ℕ
count_most = 2147483647

-- the numbers of a call are those that a line can have
abbrev pub IsCallInRange : Call → Type 0
IsCallInRange (Create kind routine context env) = IsRoutineInRange routine.0 × IsEnvironInRange env × (context < 2 ^ 64)
IsCallInRange (CloseObject kind object) = object.0 ≤ 65535
IsCallInRange (SubmitSimple routine context env) = IsRoutineInRange routine.0 × IsEnvironInRange env × (context < 2 ^ 64)
IsCallInRange (SubmitWork object) = object.0 ≤ 65535
IsCallInRange (SetTimer object due period window) = (object.0 ≤ 65535) × IsSettingInRange due period window
IsCallInRange (SetTimerEx object due period window) = (object.0 ≤ 65535) × IsSettingInRange due period window
IsCallInRange (IsTimerSet object) = object.0 ≤ 65535
IsCallInRange (Advance ticks) = ticks ≤ clock_end
IsCallInRange (SetWait object kernel timeout) = (object.0 ≤ 65535) × IsNamedInRange kernel × IsDueInRange timeout
IsCallInRange (StartIo object) = object.0 ≤ 65535
IsCallInRange (IssueIo object) = object.0 ≤ 65535
IsCallInRange (CancelIo object) = object.0 ≤ 65535
IsCallInRange (CompleteIo callback error bytes) = (callback < 2 ^ 64) × (error < 2 ^ 32) × (bytes < 2 ^ 64)
IsCallInRange (CompleteNext object error bytes) = (object.0 ≤ 65535) × (error < 2 ^ 32) × (bytes < 2 ^ 64)
IsCallInRange (BeginWait kind object cancel) = object.0 ≤ 65535
IsCallInRange (BeginAcquire kernel) = kernel.0 ≤ 65535
IsCallInRange (TryAcquire kernel) = kernel.0 ≤ 65535
IsCallInRange (CreateSemaphore initial maximum) = (initial ≤ count_most) × (maximum ≤ count_most)
IsCallInRange (SetEvent kernel) = kernel.0 ≤ 65535
IsCallInRange (ResetEvent kernel) = kernel.0 ≤ 65535
IsCallInRange (ReleaseSemaphore kernel count) = (kernel.0 ≤ 65535) × (1 ≤ count) × (count ≤ count_most)
IsCallInRange (OnReturn kind kernel count) = (kernel.0 ≤ 65535) × (1 ≤ count) × (count ≤ count_most)
IsCallInRange (ReleaseLock lock kernel) = kernel.0 ≤ 65535
IsCallInRange (CloseGroup group) = group.0 ≤ 65535
IsCallInRange (BeginClose group cancel context) = (group.0 ≤ 65535) × (context < 2 ^ 64)
IsCallInRange (ClosePool pool) = pool.0 ≤ 65535
IsCallInRange (SetMaximum pool value) = (pool.0 ≤ 65535) × (value < 2 ^ 32)
IsCallInRange (SetMinimum pool value) = (pool.0 ≤ 65535) × (value < 2 ^ 32)
IsCallInRange _ = Unit {0}

abbrev pub IsResultInRange : TakeResult → Type 0
IsResultInRange (Io error bytes) = (error < 2 ^ 32) × (bytes < 2 ^ 64)
IsResultInRange _ = Unit {0}

abbrev pub IsRefusalInRange : Refusal → Type 0
IsRefusalInRange (refusal.HasMembers object) = object.0 ≤ 65535
IsRefusalInRange (refusal.OperationsOutstanding io) = io.0 ≤ 65535
IsRefusalInRange (refusal.OverMaximum count) = count ≤ count_most
IsRefusalInRange _ = Unit {0}

-- the numbers of an answer are those that a line can have
abbrev pub IsAnswerInRange : Answer → Type 0
IsAnswerInRange (answer.Made number) = (1 ≤ number) × (number ≤ 65535)
IsAnswerInRange (answer.Queued first count) = (first < 2 ^ 64) × (count ≤ 65535)
IsAnswerInRange (answer.WasSet was first count) = (first < 2 ^ 64) × (count ≤ 65535)
IsAnswerInRange (answer.Closing covered cancelled notices) = (covered ≤ 65535) × (cancelled ≤ 65535) × (notices ≤ 65535)
IsAnswerInRange (answer.Begun covered cancelled) = (covered ≤ 65535) × (cancelled ≤ 65535)
IsAnswerInRange (answer.Notice object routine context cleanup) = (object.0 ≤ 65535) × IsRoutineInRange routine.0 × (context < 2 ^ 64) × (cleanup < 2 ^ 64)
IsAnswerInRange (answer.Started callback) = callback < 2 ^ 64
IsAnswerInRange (answer.Operation callback) = callback < 2 ^ 64
IsAnswerInRange (answer.Cancelled callback) = callback < 2 ^ 64
IsAnswerInRange (answer.Count previous first count) = (previous ≤ count_most) × (first < 2 ^ 64) × (count ≤ 65535)
IsAnswerInRange (answer.Advanced now first count) = (now ≤ clock_end) × (first < 2 ^ 64) × (count ≤ 65535)
IsAnswerInRange (answer.Attached pool) = pool.0 ≤ 65535
IsAnswerInRange (answer.Taken callback object routine context result) =
    (callback < 2 ^ 64) × (object.0 ≤ 65535) × IsRoutineInRange routine.0 × (context < 2 ^ 64) × IsResultInRange result
IsAnswerInRange (answer.Returned section mutex semaphore event first count) = (first < 2 ^ 64) × (count ≤ 65535)
IsAnswerInRange (answer.Refused refusal) = IsRefusalInRange refusal
IsAnswerInRange _ = Unit {0}

abbrev pub IsLookInRange : Look → Type 0
IsLookInRange (look.NotYet callback) = callback < 2 ^ 64
IsLookInRange (look.NotYetKernel kernel) = kernel.0 ≤ 65535
IsLookInRange (look.AtMaximum running) = running ≤ 65535
IsLookInRange _ = Unit {0}

abbrev pub IsOutcomeInRange : Outcome → Type 0
IsOutcomeInRange (outcome.Done answer) = IsAnswerInRange answer
IsOutcomeInRange (outcome.Look look) = IsLookInRange look
IsOutcomeInRange (outcome.Full room cost) = (room < 2 ^ 64) × (cost < 2 ^ 64)
