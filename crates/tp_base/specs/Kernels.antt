-- Events, semaphores, mutexes and critical sections: who may take one, and what becomes of it.
use Rattle.std.specs.Prelude.{ℕ, ◌+◌, ◌-◌, Bool, true, false, ◌&&◌, nat_le, nat_lt, if◌then◌else◌, Option, None, Some}
use Rattle.std.specs.Option.{option_map_or}
use Rattle.tp_base.specs.declared.ids.Who.{Who}
use Rattle.tp_base.specs.declared.calls.Lock.{Lock}
use Rattle.tp_base.specs.declared.calls.Lock.TheVariants as lock
use Rattle.tp_base.specs.declared.plans.KernelChange.{KernelChange}
use Rattle.tp_base.specs.declared.plans.KernelChange.TheVariants.{Set, Reset, Raise, Leave, Take}
use Rattle.tp_base.specs.declared.rows.KernelState.{KernelState}
use Rattle.tp_base.specs.declared.rows.KernelState.TheVariants.{Event, Semaphore, Mutex, Section}
use Rattle.tp_base.specs.Actors.{is_same_actor}

abbrev pub is_event : KernelState → Bool
is_event (Event manual signalled) = true
is_event _ = false

abbrev pub is_semaphore : KernelState → Bool
is_semaphore (Semaphore count maximum) = true
is_semaphore _ = false

abbrev pub is_lock : Lock → KernelState → Bool
is_lock lock.Mutex (Mutex owner takings) = true
is_lock lock.Section (Section owner takings) = true
is_lock _ _ = false

-- how often a semaphore may be taken
abbrev pub count_of : KernelState → ℕ
count_of (Semaphore count maximum) = count
count_of _ = 0

-- a semaphore whose count would pass its maximum
abbrev pub passes_by : ℕ → KernelState → Bool
passes_by more (Semaphore count maximum) = nat_lt maximum (count + more)
passes_by more _ = false

abbrev pub is_owner : Who → Option Who → Bool
is_owner who owner = option_map_or (λ actor. is_same_actor actor who) owner false

-- the actor owns the lock
abbrev pub owns : Who → KernelState → Bool
owns who (Mutex owner takings) = is_owner who owner
owns who (Section owner takings) = is_owner who owner
owns who _ = false

-- it is signalled, or is a lock that is free or the actor's own
abbrev pub may_take : Who → KernelState → Bool
may_take who (Event manual signalled) = signalled
may_take who (Semaphore count maximum) = nat_lt 0 count
may_take who (Mutex owner takings) = option_map_or (λ actor. is_same_actor actor who) owner true
may_take who (Section owner takings) = option_map_or (λ actor. is_same_actor actor who) owner true

-- an event or a semaphore: what a wait object can be armed on
abbrev pub is_waitable : KernelState → Bool
is_waitable (Event manual signalled) = true
is_waitable (Semaphore count maximum) = true
is_waitable _ = false

-- an event or a semaphore that whoever waits for it may take
abbrev pub is_signalled : KernelState → Bool
is_signalled (Event manual signalled) = signalled
is_signalled (Semaphore count maximum) = nat_lt 0 count
is_signalled _ = false

-- such a one once it is taken, whoever takes it
abbrev pub taken : KernelState → KernelState
taken (Event manual signalled) = Event manual (manual && signalled)
taken (Semaphore count maximum) = Semaphore (count - 1) maximum
taken state = state

-- an event that is taken is reset unless it is a manual one, a semaphore's count falls by one, and a lock is the actor's
-- once more
abbrev pub taken_by : Who → KernelState → KernelState
taken_by who (Event manual signalled) = taken (Event manual signalled)
taken_by who (Semaphore count maximum) = taken (Semaphore count maximum)
taken_by who (Mutex owner takings) = Mutex (Some who) (takings + 1)
taken_by who (Section owner takings) = Section (Some who) (takings + 1)

-- a lock is free once its last taking is given back
abbrev pub owner_left : Option Who → ℕ → Option Who
owner_left owner takings = if nat_le takings 1 then None else owner

abbrev pub state_after : KernelChange → KernelState → KernelState
state_after Set (Event manual signalled) = Event manual true
state_after Reset (Event manual signalled) = Event manual false
state_after (Raise more) (Semaphore count maximum) = Semaphore (count + more) maximum
state_after Leave (Mutex owner takings) = Mutex (owner_left owner takings) (takings - 1)
state_after Leave (Section owner takings) = Section (owner_left owner takings) (takings - 1)
state_after (Take who) state = taken_by who state
state_after how state = state

abbrev pub new_lock : Lock → Option Who → ℕ → KernelState
new_lock lock.Mutex owner takings = Mutex owner takings
new_lock lock.Section owner takings = Section owner takings

-- a lock is made free, or taken once by who makes it
abbrev pub lock_made : Lock → Who → Bool → KernelState
lock_made lock who true = new_lock lock (Some who) 1
lock_made lock who false = new_lock lock None 0

-- how often a lock is taken by its owner
abbrev pub takings_of : KernelState → ℕ
takings_of (Mutex owner takings) = takings
takings_of (Section owner takings) = takings
takings_of _ = 0
