-- How many callbacks triggers and actions on return make, and the words of these actions.
use Rattle.std.specs.Prelude.{ℕ, ℤ, min, Bool, false, ◌||◌, List, if◌then◌else◌, Option, None, Some}
use Rattle.tp_base.specs.declared.ids.KernelId.{KernelId}
use Rattle.tp_base.specs.declared.ids.Who.{Who}
use Rattle.tp_base.specs.declared.answers.ActionKind.{ActionKind}
use Rattle.tp_base.specs.declared.answers.ActionKind.TheVariants as action_kind
use Rattle.tp_base.specs.declared.answers.SlotWord.{SlotWord}
use Rattle.tp_base.specs.declared.answers.SlotWord.TheVariants.{Unasked, Performed}
use Rattle.tp_base.specs.declared.plans.ActionWords.{ActionWords}
use Rattle.tp_base.specs.declared.plans.KernelChange.{KernelChange}
use Rattle.tp_base.specs.declared.rows.Action.{Action}
use Rattle.tp_base.specs.declared.rows.KernelRow.{KernelRow}
use Rattle.tp_base.specs.declared.rows.KernelState.{KernelState}
use Rattle.tp_base.specs.declared.rows.KernelState.TheVariants.{Event, Semaphore}
use Rattle.tp_base.specs.declared.rows.Slots.{Slots}
use Rattle.tp_base.specs.Actions.{left_out, may_perform}
use Rattle.tp_base.specs.Kernels.{is_signalled, state_after}
use Rattle.tp_base.specs.Timers.{expires_at_once}
use Rattle.tp_model.specs.Kernels.{is_one_that}
use Rattle.tp_model.specs.Sources.{Sources}

-- ---- the words of actions on return, by the kernel objects as they are

abbrev pub word_of : List KernelRow → Who → ActionKind → Option Action → SlotWord
word_of kernels who kind None = Unasked
word_of kernels who kind (Some action) = if is_one_that (may_perform who kind action.count) kernels action.kernel.0 then Performed else left_out kind

abbrev pub words_of : List KernelRow → Who → Slots → ActionWords
words_of kernels who slots = record {
  section = word_of kernels who action_kind.Section slots.section;
  mutex = word_of kernels who action_kind.Mutex slots.mutex;
  semaphore = word_of kernels who action_kind.Semaphore slots.semaphore;
  event = word_of kernels who action_kind.Event slots.event;
}

-- ---- how many callbacks a trigger makes

-- a wait that is set takes its kernel object or times out at once
abbrev pub fires_at_once : Sources → Option KernelId → Option ℤ → Bool
fires_at_once s None timeout = false
fires_at_once s (Some kernel) timeout = is_one_that is_signalled s.kernels kernel.0 || expires_at_once s.now timeout

-- how many of so many waits a kernel object releases
abbrev pub releases : KernelState → ℕ → ℕ
releases (Event manual signalled) waits = if signalled then (if manual then waits else min 1 waits) else 0
releases (Semaphore count maximum) waits = min count waits
releases _ waits = 0

-- once it changed
abbrev pub released_by : KernelChange → KernelState → ℕ → ℕ
released_by how state waits = releases (state_after how state) waits
