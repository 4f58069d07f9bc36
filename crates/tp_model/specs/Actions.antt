-- Actions on return, as a callback's worker returns from it.
use Rattle.std.specs.Prelude.{if◌then◌else◌, Option, None, Some}
use Rattle.tp_base.specs.declared.ids.Who.{Who}
use Rattle.tp_base.specs.declared.answers.ActionKind.{ActionKind}
use Rattle.tp_base.specs.declared.answers.ActionKind.TheVariants.{Section, Mutex, Semaphore, Event}
use Rattle.tp_base.specs.declared.answers.SlotWord.{SlotWord}
use Rattle.tp_base.specs.declared.answers.SlotWord.TheVariants.{Unasked, Performed}
use Rattle.tp_base.specs.declared.plans.ActionWords.{ActionWords}
use Rattle.tp_base.specs.declared.rows.Action.{Action}
use Rattle.tp_base.specs.declared.rows.Slots.{Slots}
use Rattle.tp_base.specs.declared.rows.Status.{Status}
use Rattle.tp_base.specs.declared.rows.Status.TheVariants.{Running}
use Rattle.tp_base.specs.declared.plans.KernelChange.TheVariants.{Set, Raise, Leave}
use Rattle.tp_base.specs.Kernels.{state_after}
use Rattle.tp_base.specs.Actions.{filled, may_perform, left_out, word, is_performed}
use Rattle.tp_model.specs.World.{World}
use Rattle.tp_model.specs.Kernels.{is_kernel_that}
use Rattle.tp_model.specs.Sources.{Firing, jobless, sources_of, with_state, signal}

-- no action is asked for
abbrev pub no_actions : Slots
no_actions = record { section = None; mutex = None; semaphore = None; event = None }

abbrev pub slots_of : Status → Slots
slots_of (Running worker associated slots) = slots
slots_of _ = no_actions

abbrev pub asking : ActionKind → Action → Status → Status
asking kind action (Running worker associated slots) = Running worker associated (filled kind action slots)
asking kind action status = status

-- what becomes of one of the actions. They are of different kinds, so that none changes what another one finds
abbrev pub word_of : World → Who → ActionKind → Option Action → SlotWord
word_of w who kind None = Unasked
word_of w who kind (Some action) = if is_kernel_that (may_perform who kind action.count) w action.kernel.0 then Performed else left_out kind

abbrev pub words_of : World → Who → Slots → ActionWords
words_of w who slots = record {
  section = word_of w who Section slots.section;
  mutex = word_of w who Mutex slots.mutex;
  semaphore = word_of w who Semaphore slots.semaphore;
  event = word_of w who Event slots.event;
}

-- ---- what they come to, in this order: section, mutex, semaphore, event

-- a lock is given back; a semaphore is raised and an event set, and each releases the waits that are armed on it
abbrev pub act : ActionKind → Action → Firing → Firing
act Section action f = record f { sources = with_state (state_after Leave) action.kernel.0 f.sources }
act Mutex action f = record f { sources = with_state (state_after Leave) action.kernel.0 f.sources }
act Semaphore action f = signal (Raise action.count) action.kernel.0 f
act Event action f = signal Set action.kernel.0 f

abbrev pub perform : ActionKind → SlotWord → Option Action → Firing → Firing
perform kind word None f = f
perform kind word (Some action) f = if is_performed word then act kind action f else f

abbrev pub performed : ActionWords → Slots → Firing → Firing
performed words slots f =
    perform Event words.event slots.event
    (perform Semaphore words.semaphore slots.semaphore (perform Mutex words.mutex slots.mutex (perform Section words.section slots.section f)))

-- the firing of a return
abbrev pub returning : World → ActionWords → Slots → Firing
returning w words slots = performed words slots (jobless (sources_of w))
