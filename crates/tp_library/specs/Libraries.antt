-- Libraries beside a machine: LoadLibrary and FreeLibrary, FreeLibraryWhenCallbackReturns, and what is made with
-- SetThreadpoolCallbackLibrary.
use Rattle.std.specs.Prelude.{◌≡◌, ℕ, ◌+◌, ◌-◌, ◌≤◌, Bool, true, false, not, ◌&&◌, ◌||◌, ◌==◌, nat_lt, List, [], ◌∷◌, ◌++◌, replicate, slice_index_or, slice_set, if◌then◌else◌, Option, None, Some}
use Rattle.std.specs.List.{filter, range_with_len}
use Rattle.tp_base.specs.declared.answers.Answer.{Answer}
use Rattle.tp_base.specs.declared.answers.Answer.TheVariants.{Made, Queued, Returned}
use Rattle.tp_base.specs.declared.answers.Outcome.{Outcome}
use Rattle.tp_base.specs.declared.answers.Outcome.TheVariants as outcome
use Rattle.tp_base.specs.declared.calls.Call.{Call}
use Rattle.tp_base.specs.declared.calls.Call.TheVariants.{Create, Return, SubmitSimple}
use Rattle.tp_base.specs.declared.ids.Who.{Who}
use Rattle.tp_base.specs.declared.ids.Who.TheVariants.{Client, Worker}
use Rattle.tp_base.specs.declared.limits.Limits.{Limits}
use Rattle.tp_base.specs.Ranges.{IsCallInRange}
use Rattle.tp_model.specs.Conditions.{is_actor, is_finished, runs_callback}
use Rattle.recorded.specs.Recordings.{outcome_behind, recorded}
use Rattle.tp_library.specs.Shelves.{holds, load, world_of, Shelf, Stand}
use Rattle.tp_library.specs.declared.TheConstants.{LIBRARY_LIMIT, LOAD_LIMIT}
use Rattle.tp_library.specs.declared.LibAnswer.{LibAnswer}
use Rattle.tp_library.specs.declared.LibAnswer.TheVariants as answer
use Rattle.tp_library.specs.declared.LibCall.{LibCall}
use Rattle.tp_library.specs.declared.LibCall.TheVariants.{Load, Free, FreeOnReturn, Pool}
use Rattle.tp_library.specs.declared.LibRefusal.{LibRefusal}
use Rattle.tp_library.specs.declared.LibRefusal.TheVariants.{LibraryNotLoaded, LoadLimit, NoLoadLeft, NoSuch, NotRunning, Released, SlotTaken}

abbrev pub IsLibrary : ℕ → Type 0
IsLibrary library = (1 ≤ library) × (library ≤ LIBRARY_LIMIT)

-- objects and simple callbacks alone are made with a library
abbrev pub may_have_library : Call → Bool
may_have_library (Create kind routine context env) = true
may_have_library (SubmitSimple routine context env) = true
may_have_library call = false

-- the numbers of a call are those that a line can have
abbrev pub IsLibCallInRange : LibCall → Type 0
IsLibCallInRange (Load library) = IsLibrary library.0
IsLibCallInRange (Free library) = IsLibrary library.0
IsLibCallInRange (FreeOnReturn library) = IsLibrary library.0
IsLibCallInRange (Pool call library) = IsCallInRange call × (library.0 ≤ LIBRARY_LIMIT) × ((may_have_library call || (library.0 == 0)) ≡ true)

-- nothing is loaded, and nothing was made
abbrev pub opening : Limits → ℕ → Stand
opening limits capacity = record {
  recording = record { limits = limits; capacity = capacity; history = [] };
  shelf = record { loads = replicate (LIBRARY_LIMIT + 1) 0; of_object = []; of_simple = []; slots = replicate limits.workers 0 };
}

-- ---- slots

abbrev pub slot_of : Shelf → Who → ℕ
slot_of s (Client number) = 0
slot_of s (Worker number) = slice_index_or s.slots (number - 1) 0

abbrev pub with_slot : Shelf → Who → ℕ → Shelf
with_slot s (Client number) library = s
with_slot s (Worker number) library = record s { slots = slice_set s.slots (number - 1) library }

-- ---- refusals

abbrev pub with_load : Shelf → ℕ → ℕ → Shelf
with_load s library loads = record s { loads = slice_set s.loads library loads }

-- the first whose condition holds
abbrev pub first_of : List (Bool × LibRefusal) → Option LibRefusal
first_of [] = None
first_of (r ∷ rs) = if r.0 then Some r.1 else first_of rs

abbrev pub refusals : Stand → Who → LibCall → List (Bool × LibRefusal)
refusals t who (Load library) =
    (not (is_actor (world_of t) who), NoSuch)
    ∷ (is_finished (world_of t) who, Released)
    ∷ (load t.shelf library.0 == LOAD_LIMIT, LoadLimit)
    ∷ []
refusals t who (Free library) =
    (not (is_actor (world_of t) who), NoSuch)
    ∷ (is_finished (world_of t) who, Released)
    ∷ (load t.shelf library.0 == 0, NoLoadLeft)
    ∷ []
refusals t who (FreeOnReturn library) =
    (not (is_actor (world_of t) who), NoSuch)
    ∷ (is_finished (world_of t) who, Released)
    ∷ (not (runs_callback (world_of t) who), NotRunning)
    ∷ (not (slot_of t.shelf who == 0), SlotTaken)
    ∷ (load t.shelf library.0 == 0, NoLoadLeft)
    ∷ []
refusals t who (Pool call library) = (nat_lt 0 library.0 && (holds t library.0 == 0), LibraryNotLoaded) ∷ []

abbrev pub refusal : Stand → Who → LibCall → Option LibRefusal
refusal t who call = first_of (refusals t who call)

-- ---- steps

-- a library that was filled into the slot of a worker is freed once, if it is still loaded
abbrev pub freed_slot : Shelf → ℕ → Shelf
freed_slot s library = with_load s library (load s library - 1)

abbrev pub shelf_answered : Shelf → Who → Call → ℕ → Answer → Shelf
shelf_answered s who (Create kind routine context env) library (Made number) = record s { of_object = s.of_object ++ library ∷ [] }
shelf_answered s who (SubmitSimple routine context env) library (Queued first count) = if library == 0 then s else record s { of_simple = s.of_simple ++ (first, library) ∷ [] }
shelf_answered s who Return library (Returned section mutex semaphore event first count) = with_slot (freed_slot s (slot_of s who)) who 0
shelf_answered s who call library told = s

abbrev pub shelf_after : Shelf → Who → Call → ℕ → Outcome → Shelf
shelf_after s who call library (outcome.Done told) = shelf_answered s who call library told
shelf_after s who call library told = s

-- a call that isn't refused here
abbrev pub made_at : Stand → Who → LibCall → Stand × LibAnswer
made_at t who (Load library) = (record t { shelf = with_load t.shelf library.0 (load t.shelf library.0 + 1) }, answer.Done)
made_at t who (Free library) = (record t { shelf = with_load t.shelf library.0 (load t.shelf library.0 - 1) }, answer.Done)
made_at t who (FreeOnReturn library) = (record t { shelf = with_slot t.shelf who library.0 }, answer.Done)
made_at t who (Pool call library) =
    let told : Outcome = outcome_behind t.recording who call in
    (record { recording = recorded t.recording who call told; shelf = shelf_after t.shelf who call library.0 told }, answer.Pool told)

abbrev pub unless_refused : Option LibRefusal → Stand → Stand × LibAnswer → Stand × LibAnswer
unless_refused (Some refusal) t made = (t, answer.Refused refusal)
unless_refused None t made = made

abbrev pub step_at : Stand → Who → LibCall → Stand × LibAnswer
step_at t who call = unless_refused (refusal t who call) t (made_at t who call)

-- what the machine is asked: a call of it that isn't refused here
abbrev pub asked : Who → LibCall → List (Who × Call)
asked who (Pool call library) = (who, call) ∷ []
asked who call = []

abbrev pub asked_unless : Option LibRefusal → List (Who × Call) → List (Who × Call)
asked_unless (Some refusal) calls = []
asked_unless None calls = calls

abbrev pub asked_by : Stand → Who → LibCall → List (Who × Call)
asked_by t who call = asked_unless (refusal t who call) (asked who call)

-- the stand that calls lead to one after another, and what the machine is asked by them
abbrev pub stand_after : Stand → List (Who × LibCall) → Stand
stand_after t [] = t
stand_after t (call ∷ calls) = stand_after (step_at t call.0 call.1).0 calls

abbrev pub all_asked : Stand → List (Who × LibCall) → List (Who × Call)
all_asked t [] = []
all_asked t (call ∷ calls) = asked_by t call.0 call.1 ++ all_asked (step_at t call.0 call.1).0 calls

-- a step from one stand to the other lets the library go
abbrev pub is_unloaded : Stand → Stand → ℕ → Bool
is_unloaded before now library = nat_lt 0 (holds before library) && (holds now library == 0)

-- what calls come to one after another: of each its answer, and the libraries that it lets go, by rising number
abbrev pub Told : Type 0
Told = LibAnswer × List ℕ

abbrev pub unloaded : Stand → Stand → List ℕ
unloaded before now = filter (is_unloaded before now) (range_with_len 1 LIBRARY_LIMIT)

abbrev pub told_at : Stand → Stand × LibAnswer → Told
told_at t came = (came.1, unloaded t came.0)

abbrev pub play_at : Stand → List (Who × LibCall) → List Told
play_at t [] = []
play_at t (call ∷ calls) = told_at t (step_at t call.0 call.1) ∷ play_at (step_at t call.0 call.1).0 calls
