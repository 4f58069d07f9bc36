-- When a trigger may do what it does, and an action on return what it asks for, as far as the sources go.
use Rattle.std.specs.Prelude.{◌≡◌, ◌≤◌, true, Option, None, Some, IsSome, IfSome}
use Rattle.tp_base.specs.declared.answers.ActionKind.{ActionKind}
use Rattle.tp_base.specs.declared.answers.ActionKind.TheVariants.{Section, Mutex, Semaphore, Event}
use Rattle.tp_base.specs.declared.answers.SlotWord.{SlotWord}
use Rattle.tp_base.specs.declared.ids.KernelId.{KernelId}
use Rattle.tp_base.specs.declared.plans.ActionWords.{ActionWords}
use Rattle.tp_base.specs.declared.plans.KernelChange.{KernelChange}
use Rattle.tp_base.specs.declared.plans.KernelChange.TheVariants.{Set, Raise}
use Rattle.tp_base.specs.declared.plans.Trigger.{Trigger}
use Rattle.tp_base.specs.declared.plans.Trigger.TheVariants.{SetTimer, Advance, SetWait, SetEvent, ReleaseSemaphore}
use Rattle.tp_base.specs.declared.rows.Action.{Action}
use Rattle.tp_base.specs.declared.rows.KernelRow.{KernelRow}
use Rattle.tp_base.specs.declared.rows.Slots.{Slots}
use Rattle.tp_base.specs.Actions.{change_asked, is_performed}
use Rattle.tp_base.specs.Timers.{clock_end}
use Rattle.sources.specs.Rows.{SourceRows, Suits, is_there}
use Rattle.tp_model.specs.Counts.{numbered}
use Rattle.tp_model.specs.Actions.{performed}
use Rattle.tp_model.specs.Sources.{Sources, jobless}

-- the kernel object was made, and may change so
pub record MayAlter (s : Sources) (kernel : KernelId) (how : KernelChange) : Type 0 where
  pub made : IsSome (numbered s.kernels kernel.0)
  pub suits : IfSome (numbered s.kernels kernel.0) (λ (row : KernelRow). Suits how row.state)

abbrev pub MayTrigger : SourceRows → Trigger → Type 0
MayTrigger s (SetTimer object due period window) = is_there s object.0 ≡ true
MayTrigger s (Advance now) = (s.sources.now ≤ now) × (now ≤ clock_end)
MayTrigger s (SetWait object kernel timeout) = (is_there s object.0 ≡ true) × IfSome kernel (λ (on : KernelId). IsSome (numbered s.sources.kernels on.0))
MayTrigger s (SetEvent kernel) = MayAlter s.sources kernel Set
MayTrigger s (ReleaseSemaphore kernel count) = MayAlter s.sources kernel (Raise count)

abbrev pub MayPerform : Sources → ActionKind → SlotWord → Option Action → Type 0
MayPerform s kind word None = Unit {0}
MayPerform s kind word (Some action) = is_performed word ≡ true → MayAlter s action.kernel (change_asked kind action.count)

-- the first of a return's actions, the first two, and the first three
abbrev pub section_only : Slots → Slots
section_only slots = record slots { mutex = None; semaphore = None; event = None }

abbrev pub locks_only : Slots → Slots
locks_only slots = record slots { semaphore = None; event = None }

abbrev pub eventless : Slots → Slots
eventless slots = record slots { event = None }

-- each in its turn
pub record MayPerformAll (s : Sources) (words : ActionWords) (slots : Slots) : Type 0 where
  pub section : MayPerform s Section words.section slots.section
  pub mutex : MayPerform (performed words (section_only slots) (jobless s)).sources Mutex words.mutex slots.mutex
  pub semaphore : MayPerform (performed words (locks_only slots) (jobless s)).sources Semaphore words.semaphore slots.semaphore
  pub event : MayPerform (performed words (eventless slots) (jobless s)).sources Event words.event slots.event
