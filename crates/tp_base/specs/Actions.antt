-- Actions on return: what a callback may leave to its return, at most one of each kind.
use Rattle.std.specs.Prelude.{ℕ, ◌+◌, Bool, true, false, nat_le, Option, Some}
use Rattle.tp_base.specs.declared.ids.Who.{Who}
use Rattle.tp_base.specs.declared.answers.ActionKind.{ActionKind}
use Rattle.tp_base.specs.declared.answers.ActionKind.TheVariants.{Section, Mutex, Semaphore, Event}
use Rattle.tp_base.specs.declared.answers.SlotWord.{SlotWord}
use Rattle.tp_base.specs.declared.answers.SlotWord.TheVariants.{Unasked, Performed, NotOwner, OverMaximum}
use Rattle.tp_base.specs.declared.plans.KernelChange.{KernelChange}
use Rattle.tp_base.specs.declared.plans.KernelChange.TheVariants.{Set, Raise, Leave}
use Rattle.tp_base.specs.declared.plans.ActionWords.{ActionWords}
use Rattle.tp_base.specs.declared.rows.Action.{Action}
use Rattle.tp_base.specs.declared.rows.Slots.{Slots}
use Rattle.tp_base.specs.declared.rows.KernelState.{KernelState}
use Rattle.tp_base.specs.declared.rows.KernelState.TheVariants as state
use Rattle.tp_base.specs.Kernels.{is_event, is_semaphore, is_lock, owns}
use Rattle.tp_base.specs.declared.calls.Lock.TheVariants as lock

-- ---- what is asked for

abbrev pub is_same_action : ActionKind → ActionKind → Bool
is_same_action Section Section = true
is_same_action Mutex Mutex = true
is_same_action Semaphore Semaphore = true
is_same_action Event Event = true
is_same_action _ _ = false

abbrev pub slot : ActionKind → Slots → Option Action
slot Section slots = slots.section
slot Mutex slots = slots.mutex
slot Semaphore slots = slots.semaphore
slot Event slots = slots.event

abbrev pub filled : ActionKind → Action → Slots → Slots
filled Section action slots = record slots { section = Some action }
filled Mutex action slots = record slots { mutex = Some action }
filled Semaphore action slots = record slots { semaphore = Some action }
filled Event action slots = record slots { event = Some action }

-- the kind of kernel object that an action is for
abbrev pub is_for : ActionKind → KernelState → Bool
is_for Section s = is_lock lock.Section s
is_for Mutex s = is_lock lock.Mutex s
is_for Semaphore s = is_semaphore s
is_for Event s = is_event s

-- ---- what becomes of it

-- a semaphore whose count would stay within its maximum
abbrev pub may_raise : ℕ → KernelState → Bool
may_raise more (state.Semaphore count maximum) = nat_le (count + more) maximum
may_raise more _ = false

-- the worker gives back a lock only if it owns it
abbrev pub may_perform : Who → ActionKind → ℕ → KernelState → Bool
may_perform who Section more s = owns who s
may_perform who Mutex more s = owns who s
may_perform who Semaphore more s = may_raise more s
may_perform who Event more s = is_event s

-- the word for one that may not be performed; an event may always be set
abbrev pub left_out : ActionKind → SlotWord
left_out Semaphore = OverMaximum
left_out _ = NotOwner

abbrev pub change_asked : ActionKind → ℕ → KernelChange
change_asked Section more = Leave
change_asked Mutex more = Leave
change_asked Semaphore more = Raise more
change_asked Event more = Set

abbrev pub word : ActionKind → ActionWords → SlotWord
word Section words = words.section
word Mutex words = words.mutex
word Semaphore words = words.semaphore
word Event words = words.event

abbrev pub is_unasked : SlotWord → Bool
is_unasked Unasked = true
is_unasked _ = false

abbrev pub is_performed : SlotWord → Bool
is_performed Performed = true
is_performed _ = false
