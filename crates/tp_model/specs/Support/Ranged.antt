-- The numbers of a world are in the ranges of lines, and so are those of every answer and look.
use Rattle.std.specs.Prelude.{ℕ, ◌<◌, ◌≤◌, ◌+◌, ◌^◌, length}
use Rattle.std.specs.List.{AllByRecursion}
use Rattle.tp_base.specs.declared.rows.KernelState.{KernelState}
use Rattle.tp_base.specs.declared.rows.KernelState.TheVariants.{Semaphore}
use Rattle.tp_base.specs.declared.rows.KernelRow.{KernelRow}
use Rattle.tp_base.specs.declared.rows.WaitTarget.{WaitTarget}
use Rattle.tp_base.specs.declared.rows.WaitTarget.TheVariants.{Kernel}
use Rattle.tp_base.specs.Ranges.{count_most, AreLimitsInRange, IsRoutineInRange, IsResultInRange, IsRefusalInRange, IsAnswerInRange, IsLookInRange}
use Rattle.tp_base.specs.declared.plans.Trigger.{Trigger}
use Rattle.tp_base.specs.declared.plans.Trigger.TheVariants.{SetTimer, SetWait}
use Rattle.tp_base.specs.declared.answers.TakeResult.TheVariants.{Io}
use Rattle.tp_base.specs.declared.plans.IoStep.{IoStep}
use Rattle.tp_base.specs.declared.plans.IoStep.TheVariants.{Complete}
use Rattle.tp_base.specs.declared.plans.Change.{Change}
use Rattle.tp_base.specs.declared.plans.Change.TheVariants as change
use Rattle.tp_base.specs.declared.plans.Plan.{Plan}
use Rattle.tp_base.specs.declared.plans.Plan.TheVariants.{Refused, Looked, Does}
use Rattle.tp_base.specs.declared.rows.ObjectRow.{ObjectRow}
use Rattle.tp_base.specs.declared.rows.CallbackRow.{CallbackRow}
use Rattle.tp_base.specs.declared.rows.TimerSetting.{TimerSetting}
use Rattle.tp_base.specs.declared.rows.Arming.{Arming}
use Rattle.tp_base.specs.Kernels.{takings_of}
use Rattle.tp_model.specs.World.{World, BegunWait}
use Rattle.tp_model.specs.Counts.{running, slots}
use Rattle.tp_model.specs.Waits.{target_of}

pub record IsObjectInRange (o : ObjectRow) : Type 0 where
  pub routine : IsRoutineInRange o.routine.0
  pub context : o.context < 2 ^ 64
  pub cancel : o.env.cancel.0 ≤ 65535

pub record IsCallbackInRange (c : CallbackRow) : Type 0 where
  pub number : c.number < 2 ^ 64
  pub object : c.object.0 ≤ 65535
  pub routine : IsRoutineInRange c.routine.0
  pub context : c.context < 2 ^ 64
  pub result : IsResultInRange c.result

-- a semaphore's count is within its maximum, and that in range
abbrev pub IsStateInRange : KernelState → Type 0
IsStateInRange (Semaphore count maximum) = (count ≤ maximum) × (maximum ≤ count_most)
IsStateInRange _ = Unit {0}

-- what a wait is for
abbrev pub IsTargetInRange : WaitTarget → Type 0
IsTargetInRange (Kernel kernel) = kernel.0 ≤ 65535
IsTargetInRange _ = Unit {0}

pub record IsWaitInRange (b : BegunWait) : Type 0 where
  pub target : IsTargetInRange b.target
  pub cleanup : b.cleanup < 2 ^ 64

-- no lock is taken more often than this
abbrev pub AreTakenAtMost : ℕ → World → Type 0
AreTakenAtMost most w = AllByRecursion (λ (k : KernelRow). takings_of k.state ≤ most) w.kernels

-- the rows of a world, which each change keeps in range that brings none that isn't
pub record AreRowsInRange (w : World) : Type 0 where
  pub objects : AllByRecursion IsObjectInRange w.objects
  pub callbacks : AllByRecursion IsCallbackInRange w.callbacks
  pub kernels : AllByRecursion (λ (k : KernelRow). IsStateInRange k.state) w.kernels
  pub timers : AllByRecursion (λ (s : TimerSetting). s.object.0 ≤ 65535) w.settings
  pub armings : AllByRecursion (λ (a : Arming). a.object.0 ≤ 65535) w.armings
  pub waits : AllByRecursion IsWaitInRange w.waits
  pub few : length w.objects ≤ w.limits.objects

abbrev pub IsTriggerInRange : Trigger → Type 0
IsTriggerInRange (SetTimer object due period window) = object.0 ≤ 65535
IsTriggerInRange (SetWait object named timeout) = object.0 ≤ 65535
IsTriggerInRange _ = Unit {0}

abbrev pub IsStepInRange : IoStep → Type 0
IsStepInRange (Complete error bytes) = IsResultInRange (Io error bytes)
IsStepInRange _ = Unit {0}

abbrev pub IsChangeInRange : Change → Type 0
IsChangeInRange (change.CreateObject row) = IsObjectInRange row
IsChangeInRange (change.QueueCallback callback) = IsCallbackInRange callback
IsChangeInRange (change.ExpectCallback callback) = IsCallbackInRange callback
IsChangeInRange (change.Operate callback how) = IsStepInRange how
IsChangeInRange (change.Fire trigger first count) = IsTriggerInRange trigger × (first + count ≤ 2 ^ 64)
IsChangeInRange (change.Return by words first count) = first + count ≤ 2 ^ 64
IsChangeInRange (change.CreateKernel state) = IsStateInRange state
IsChangeInRange (change.BeginWait who awaited cancel) = IsTargetInRange (target_of awaited)
IsChangeInRange (change.BeginClose who group cancel context notices) = context < 2 ^ 64
IsChangeInRange _ = Unit {0}

-- all of a world that the numbers of answers and looks come from
pub record IsRanged (w : World) : Type 0 where
  pub limits : AreLimitsInRange w.limits
  pub pools_least : 1 ≤ length w.pools
  pub pools_most : length w.pools ≤ w.limits.pools
  pub slots_most : slots w ≤ w.limits.slots
  pub running_most : (pool : ℕ) → running w pool ≤ 65535
  pub rows : AreRowsInRange w

abbrev pub IsPlanInRange : Plan → Type 0
IsPlanInRange (Refused refusal) = IsRefusalInRange refusal
IsPlanInRange (Looked look) = IsLookInRange look
IsPlanInRange (Does answer ch) = IsAnswerInRange answer × IsChangeInRange ch
