-- The texts of words that stand for a choice, of due times, of kernel objects and milliseconds that may be none, and of
-- actors.
use Rattle.std.specs.Prelude.{ℕ, ℤ, Bool, true, false, List, ◌∷◌, codes, decimal, Option, Some, None}
use Rattle.std.specs.Fmt.{signed_decimal}
use Rattle.tp_base.specs.declared.answers.ActionKind.{ActionKind}
use Rattle.tp_base.specs.declared.answers.ActionKind.TheVariants.{Section, Mutex, Semaphore, Event}
use Rattle.tp_base.specs.declared.answers.SlotWord.{SlotWord}
use Rattle.tp_base.specs.declared.answers.SlotWord.TheVariants.{Unasked, Performed, NotOwner, OverMaximum}
use Rattle.tp_base.specs.declared.calls.Kind.{Kind}
use Rattle.tp_base.specs.declared.calls.Kind.TheVariants.{Work, Timer, Wait, Io}
use Rattle.tp_base.specs.declared.calls.Lock.{Lock}
use Rattle.tp_base.specs.declared.calls.Lock.TheVariants as lock
use Rattle.tp_base.specs.declared.calls.Priority.{Priority}
use Rattle.tp_base.specs.declared.calls.Priority.TheVariants.{High, Normal, Low}
use Rattle.tp_base.specs.declared.ids.KernelId.{KernelId}
use Rattle.tp_base.specs.declared.ids.Who.{Who}
use Rattle.tp_base.specs.declared.ids.Who.TheVariants.{Client, Worker}

abbrev pub text_of_kind : Kind → List ℕ
text_of_kind Work = codes "work"
text_of_kind Timer = codes "timer"
text_of_kind Wait = codes "wait"
text_of_kind Io = codes "io"

abbrev pub text_of_priority : Priority → List ℕ
text_of_priority High = codes "high"
text_of_priority Normal = codes "normal"
text_of_priority Low = codes "low"

-- whether callbacks may run long, and whether they are persistent
abbrev pub text_of_length : Bool → Bool → List ℕ
text_of_length true false = codes "long"
text_of_length false false = codes "short"
text_of_length false true = codes "persistent"
text_of_length true true = codes "persistent-long"

-- whether a wait cancels what is pending
abbrev pub text_of_how : Bool → List ℕ
text_of_how true = codes "cancel"
text_of_how false = codes "keep"

-- whether an event is reset by hand
abbrev pub text_of_reset : Bool → List ℕ
text_of_reset true = codes "manual"
text_of_reset false = codes "auto"

-- whether an event is signalled
abbrev pub text_of_signal : Bool → List ℕ
text_of_signal true = codes "set"
text_of_signal false = codes "clear"

abbrev pub text_of_lock : Lock → List ℕ
text_of_lock lock.Mutex = codes "mutex"
text_of_lock lock.Section = codes "section"

-- whether somebody owns a lock
abbrev pub text_of_owner : Bool → List ℕ
text_of_owner true = codes "owned"
text_of_owner false = codes "free"

abbrev pub text_of_flag : Bool → List ℕ
text_of_flag true = codes "yes"
text_of_flag false = codes "no"

abbrev pub text_of_action : ActionKind → List ℕ
text_of_action Section = codes "section"
text_of_action Mutex = codes "mutex"
text_of_action Semaphore = codes "semaphore"
text_of_action Event = codes "event"

abbrev pub text_of_slot : SlotWord → List ℕ
text_of_slot Unasked = codes "-"
text_of_slot Performed = codes "done"
text_of_slot NotOwner = codes "not-owner"
text_of_slot OverMaximum = codes "over-maximum"

abbrev pub text_of_due : Option ℤ → List ℕ
text_of_due None = codes "none"
text_of_due (Some due) = signed_decimal due

abbrev pub text_of_named : Option KernelId → List ℕ
text_of_named None = codes "none"
text_of_named (Some kernel) = decimal kernel.0

abbrev pub text_of_millis : Option ℕ → List ℕ
text_of_millis None = codes "none"
text_of_millis (Some millis) = decimal millis

-- whether a work item may run long
abbrev pub text_of_span : Bool → List ℕ
text_of_span true = codes "long"
text_of_span false = codes "short"

-- whether a registration is for once
abbrev pub text_of_times : Bool → List ℕ
text_of_times true = codes "once"
text_of_times false = codes "repeat"

-- the actors: c1, c2, .. and w1, w2, ..
abbrev pub text_of_who : Who → List ℕ
text_of_who (Client number) = 99 ∷ decimal number
text_of_who (Worker number) = 119 ∷ decimal number
