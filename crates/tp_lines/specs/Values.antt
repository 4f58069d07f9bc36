-- What the parts of a row hold.
use Rattle.std.specs.Prelude.{ℕ, ℤ, Bool, false, List, Option, None, slice_index_or}
use Rattle.tp_base.specs.declared.answers.ActionKind.{ActionKind}
use Rattle.tp_base.specs.declared.answers.ActionKind.TheVariants.{Section}
use Rattle.tp_base.specs.declared.answers.SlotWord.{SlotWord}
use Rattle.tp_base.specs.declared.answers.SlotWord.TheVariants.{Unasked}
use Rattle.tp_base.specs.declared.calls.Kind.{Kind}
use Rattle.tp_base.specs.declared.calls.Kind.TheVariants.{Work}
use Rattle.tp_base.specs.declared.calls.Lock.{Lock}
use Rattle.tp_base.specs.declared.calls.Lock.TheVariants.{Mutex}
use Rattle.tp_base.specs.declared.calls.Priority.{Priority}
use Rattle.tp_base.specs.declared.calls.Priority.TheVariants.{Normal}
use Rattle.tp_base.specs.declared.ids.KernelId.{KernelId}
use Rattle.tp_lines.specs.declared.parts.Part.{Part}
use Rattle.tp_lines.specs.declared.parts.Part.TheVariants as part
use Rattle.tp_lines.specs.declared.words.Word.{Word}
use Rattle.tp_lines.specs.declared.words.Word.TheVariants as word

-- the part at an index
abbrev pub part_at : List Part → ℕ → Part
part_at parts index = slice_index_or parts index (part.Short 0)

abbrev pub small_of : Part → ℕ
small_of (part.Short number) = number
small_of (part.Made number) = number
small_of (part.Level number) = number
small_of (part.Units number) = number
small_of (part.Small number) = number
small_of (part.Routine number) = number
small_of (part.Origin number) = number
small_of (part.Pool number) = number
small_of (part.Group number) = number
small_of (part.Cancel number) = number
small_of _ = 0

abbrev pub large_of : Part → ℕ
large_of (part.Large number) = number
large_of (part.Time number) = number
large_of (part.Context number) = number
large_of (part.Cleanup number) = number
large_of _ = 0

abbrev pub due_of : Part → Option ℤ
due_of (part.Due due) = due
due_of _ = None

-- a kernel object, if there is one
abbrev pub named_of : Part → Option KernelId
named_of (part.Named kernel) = kernel
named_of _ = None

-- milliseconds, if there are any
abbrev pub millis_of : Part → Option ℕ
millis_of (part.Millis millis) = millis
millis_of _ = None

abbrev pub word_of : Part → Word
word_of (part.Word word) = word
word_of _ = word.Take

abbrev pub kind_of : Part → Kind
kind_of (part.Word (word.Kind kind)) = kind
kind_of _ = Work

abbrev pub priority_of : Part → Priority
priority_of (part.Word (word.Priority priority)) = priority
priority_of _ = Normal

-- whether callbacks may run long
abbrev pub length_of : Part → Bool
length_of (part.Word (word.Length long persistent)) = long
length_of _ = false

-- whether callbacks are persistent
abbrev pub persistent_of : Part → Bool
persistent_of (part.Word (word.Length long persistent)) = persistent
persistent_of _ = false

-- whether a wait cancels what is pending
abbrev pub how_of : Part → Bool
how_of (part.Word (word.How cancel)) = cancel
how_of _ = false

-- whether an event is reset by hand
abbrev pub reset_of : Part → Bool
reset_of (part.Word (word.Reset manual)) = manual
reset_of _ = false

-- whether an event is signalled
abbrev pub signal_of : Part → Bool
signal_of (part.Word (word.Signal signalled)) = signalled
signal_of _ = false

abbrev pub lock_of : Part → Lock
lock_of (part.Word (word.Lock lock)) = lock
lock_of _ = Mutex

-- whether somebody owns a lock
abbrev pub owner_of : Part → Bool
owner_of (part.Word (word.Owner owned)) = owned
owner_of _ = false

abbrev pub flag_of : Part → Bool
flag_of (part.Word (word.YesNo flag)) = flag
flag_of _ = false

abbrev pub slot_of : Part → SlotWord
slot_of (part.Word (word.Slot slot)) = slot
slot_of _ = Unasked

abbrev pub action_of : Part → ActionKind
action_of (part.Word (word.Action action)) = action
action_of _ = Section

-- whether a work item may run long
abbrev pub span_of : Part → Bool
span_of (part.Word (word.Span long)) = long
span_of _ = false

-- whether a registration is for once
abbrev pub once_of : Part → Bool
once_of (part.Word (word.Times once)) = once
once_of _ = false
