-- The parts of a script, and what it has made so far.
use Rattle.std.specs.Prelude.{ℕ, ◌+◌, ◌-◌, Bool, true, false, List, Option, Some, None, nat_le, nat_lt, replicate, slice_get, slice_set, ◌&&◌, if◌then◌else◌}
use Rattle.script_lines.specs.declared.line.Line.{Line}
use Rattle.script_lines.specs.declared.state.Place.{Place}
use Rattle.script_lines.specs.declared.state.Place.TheVariants.{Declarations, Routines, Clients, InRoutine, InClient}
use Rattle.script_lines.specs.declared.state.State.{State}
use Rattle.script_lines.specs.declared.state.TheConstants.{OBJECT_LIMIT}
use Rattle.script_lines.specs.declared.words.Tally.{Tally}
use Rattle.script_lines.specs.declared.words.Tally.TheVariants as tally
use Rattle.script_lines.specs.declared.words.Word.{Word}
use Rattle.script_lines.specs.declared.words.Word.TheVariants as word

abbrev pub is_declaring : Place → Bool
is_declaring Declarations = true
is_declaring _ = false

abbrev pub is_before_clients : Place → Bool
is_before_clients Declarations = true
is_before_clients Routines = true
is_before_clients _ = false

-- in a routine or a client
abbrev pub is_inside : Place → Bool
is_inside InRoutine = true
is_inside InClient = true
is_inside _ = false

abbrev pub is_outside : Place → Bool
is_outside InRoutine = false
is_outside InClient = false
is_outside _ = true

abbrev pub is_in_routine : Place → Bool
is_in_routine InRoutine = true
is_in_routine _ = false

-- where `done` leads
abbrev pub left_place : Place → Place
left_place InRoutine = Routines
left_place InClient = Clients
left_place Declarations = Declarations
left_place Routines = Routines
left_place Clients = Clients

-- no memory is used
abbrev pub none_used : List Bool
none_used = replicate 64 false

abbrev pub first_state : State
first_state = record { place = Declarations; pools = 0; groups = 0; objects = 0; kernels = 0; routines = 0; memories = 0; clients = 0; locals = 0; section = 0; used = none_used }

abbrev pub count_of : State → Tally → ℕ
count_of state tally.Pools = state.pools
count_of state tally.Groups = state.groups
count_of state tally.Objects = state.objects
count_of state tally.Kernels = state.kernels
count_of state tally.Routines = state.routines
count_of state tally.Memories = state.memories
count_of state tally.Locals = state.locals

-- how many a script may have, or a section of local names
abbrev pub limit_of : Tally → ℕ
limit_of tally.Pools = 63
limit_of tally.Groups = 255
limit_of tally.Objects = OBJECT_LIMIT
limit_of tally.Kernels = 1024
limit_of tally.Routines = 65535
limit_of tally.Memories = 64
limit_of tally.Locals = 32

-- one more, up to the limit
abbrev pub raised : ℕ → ℕ → ℕ
raised count limit = if nat_lt count limit then count + 1 else count

-- a new section begins, with no local names, and uses no memory
abbrev pub with_section : State → Place → State
with_section state place = record state { place = place; locals = 0; section = raised state.section 65550; used = none_used }

-- what was made behind a line with this head
abbrev pub state_after : State → Word → State
state_after state word.Pool = record state { pools = raised state.pools 63 }
state_after state word.Group = record state { groups = raised state.groups 255 }
state_after state word.Event = record state { kernels = raised state.kernels 1024 }
state_after state word.Semaphore = record state { kernels = raised state.kernels 1024 }
state_after state word.Mutex = record state { kernels = raised state.kernels 1024 }
state_after state word.Section = record state { kernels = raised state.kernels 1024 }
state_after state (word.Object kind) = record state { objects = raised state.objects OBJECT_LIMIT }
state_after state word.Memory = record state { memories = raised state.memories 64 }
state_after state word.Routine = record (with_section state InRoutine) { routines = raised state.routines 65535 }
state_after state word.Client = record (with_section state InClient) { clients = raised state.clients 15 }
state_after state word.Done = record state { place = left_place state.place }
state_after state word.Let = record state { locals = raised state.locals 32 }
state_after state word.IssueIo = record state { locals = raised state.locals 32 }
state_after state _ = state

-- whether the section uses the memory of this number
abbrev pub is_use : Option Bool → Bool
is_use (Some used) = used
is_use None = false

abbrev pub is_using : State → ℕ → Bool
is_using state number = if nat_lt number 1 then false else is_use (slice_get state.used (number - 1))

-- which memories are used, where one is used from now on or no longer
abbrev pub with_use : List Bool → ℕ → Bool → List Bool
with_use used number now_used = if nat_le 1 number && nat_le number 64 then slice_set used (number - 1) now_used else used

abbrev pub used_after : List Bool → Word → ℕ → List Bool
used_after used word.Use number = with_use used number true
used_after used word.Drop number = with_use used number false
used_after used _ number = used

-- behind a line: what was made, and which memories its section uses
abbrev pub state_behind : State → Line → State
state_behind state line = record (state_after state line.head) { used = used_after (state_after state line.head).used line.head line.object.number }
