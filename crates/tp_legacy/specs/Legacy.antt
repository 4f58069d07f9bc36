-- The pool before Vista, as calls of the machine: QueueUserWorkItem, RegisterWaitForSingleObject, UnregisterWait, and the
-- functions of timer queues.
use Rattle.std.specs.Prelude.{ℕ, ◌+◌, ◌-◌, ◌*◌, ◌<◌, ◌≤◌, ◌^◌, ℤ, pos, negsuc, Bool, true, false, not, ◌&&◌, ◌||◌, ◌==◌, nat_lt, List, [], ◌∷◌, ◌++◌, length, if◌then◌else◌, Option, None, Some, is_some, Result, Err, Ok, slice_set}
use Rattle.std.specs.List.{find}
use Rattle.std.specs.Option.{option_map, option_map_or}
use Rattle.tp_base.specs.declared.answers.Answer.TheVariants as answer
use Rattle.tp_base.specs.declared.answers.Outcome.{Outcome}
use Rattle.tp_base.specs.declared.answers.Outcome.TheVariants.{Done}
use Rattle.tp_base.specs.declared.calls.Call.{Call}
use Rattle.tp_base.specs.declared.calls.Call.TheVariants.{BeginClose, CloseObject, Create, CreateGroup, IsTimerSet, SetTimer, SetWait, SubmitSimple, Take}
use Rattle.tp_base.specs.declared.calls.Kind.{Kind}
use Rattle.tp_base.specs.declared.calls.Kind.TheVariants as kind
use Rattle.tp_base.specs.declared.ids.GroupId.{GroupId}
use Rattle.tp_base.specs.declared.ids.ObjectId.{ObjectId}
use Rattle.tp_base.specs.declared.ids.Who.{Who}
use Rattle.tp_base.specs.declared.limits.Limits.{Limits}
use Rattle.tp_base.specs.Ranges.{IsCallInRange, IsDueInRange, IsRoutineInRange}
use Rattle.tp_base.specs.Timers.{units_per_millisecond}
use Rattle.tp_model.specs.Counts.{numbered}
use Rattle.callback_env.specs.Environ.{initialized}
use Rattle.recorded.specs.Recordings.{all_made, made, outcome_behind, room_of, Recording}
use Rattle.tp_legacy.specs.Old.{Old, Stand}
use Rattle.tp_legacy.specs.declared.calls.Setting.{Setting}
use Rattle.tp_legacy.specs.declared.calls.Setting.TheVariants as setting
use Rattle.tp_legacy.specs.declared.rows.QueueTimer.{QueueTimer}
use Rattle.tp_legacy.specs.declared.rows.Registration.{Registration}
use Rattle.tp_legacy.specs.declared.rows.TimerQueue.{TimerQueue}
use Rattle.tp_legacy.specs.declared.LegacyAnswer.{LegacyAnswer}
use Rattle.tp_legacy.specs.declared.LegacyAnswer.TheVariants.{Pool, Registered, Queue, Timer, Changed, Refused, Full}
use Rattle.tp_legacy.specs.declared.LegacyCall.{LegacyCall}
use Rattle.tp_legacy.specs.declared.LegacyCall.TheVariants as call
use Rattle.tp_legacy.specs.declared.LegacyRefusal.{LegacyRefusal}
use Rattle.tp_legacy.specs.declared.LegacyRefusal.TheVariants.{NoSuch, Released, OtherQueue}

-- a program that has made nothing, on a machine that has made no step
abbrev pub opening : Limits → ℕ → Stand
opening limits capacity = record {
  recording = record { limits = limits; capacity = capacity; history = [] };
  old = record { registrations = []; queues = []; timers = [] };
}

-- the numbers of a call are those that a line can have
abbrev pub IsMillis : Option ℕ → Type 0
IsMillis None = Unit {0}
IsMillis (Some millis) = millis < 2 ^ 32

abbrev pub IsLegacyCallInRange : LegacyCall → Type 0
IsLegacyCallInRange (call.QueueItem routine context long) = IsRoutineInRange routine.0 × (context < 2 ^ 64)
IsLegacyCallInRange (call.Register kernel routine context millis once) = (kernel.0 ≤ 65535) × IsRoutineInRange routine.0 × (context < 2 ^ 64) × IsMillis millis
IsLegacyCallInRange (call.CreateTimer queue routine context due period) = IsRoutineInRange routine.0 × (context < 2 ^ 64) × (due < 2 ^ 32) × (period < 2 ^ 32)
IsLegacyCallInRange (call.ChangeTimer queue timer due period) = (due < 2 ^ 32) × (period < 2 ^ 32)
IsLegacyCallInRange (call.Pool made) = IsCallInRange made
IsLegacyCallInRange other = Unit {0}

-- ---- what calls name

-- a registration that was made
abbrev pub registration_at : Old → ℕ → Option Registration
registration_at o number = numbered o.registrations number

abbrev pub queue_at : Old → ℕ → Option TimerQueue
queue_at o number = numbered o.queues number

abbrev pub timer_at : Old → ℕ → Option QueueTimer
timer_at o number = numbered o.timers number

abbrev pub is_registration_gone : Old → ℕ → Bool
is_registration_gone o number = option_map_or (λ (row : Registration). row.gone) (registration_at o number) false

abbrev pub is_deleted : Old → ℕ → Bool
is_deleted o number = option_map_or (λ (row : TimerQueue). row.deleted) (queue_at o number) false

-- with its queue a timer is gone
abbrev pub is_timer_gone : Old → ℕ → Bool
is_timer_gone o number = option_map_or (λ (row : QueueTimer). row.gone || is_deleted o row.queue) (timer_at o number) false

abbrev pub queue_of_timer : Old → ℕ → ℕ
queue_of_timer o number = option_map_or (λ (row : QueueTimer). row.queue) (timer_at o number) 0

-- the object or group that stands for it
abbrev pub object_id : ℕ → ObjectId
object_id number = record { 0 = number }

abbrev pub group_id : ℕ → GroupId
group_id number = record { 0 = number }

abbrev pub object_of_registration : Old → ℕ → ObjectId
object_of_registration o number = option_map_or (λ (row : Registration). row.object) (registration_at o number) (object_id 0)

abbrev pub group_of_queue : Old → ℕ → GroupId
group_of_queue o number = option_map_or (λ (row : TimerQueue). row.group) (queue_at o number) (group_id 0)

abbrev pub object_of_timer : Old → ℕ → ObjectId
object_of_timer o number = option_map_or (λ (row : QueueTimer). row.object) (timer_at o number) (object_id 0)

-- ---- refusals

-- the first whose condition holds
abbrev pub first_of : List (Bool × LegacyRefusal) → Option LegacyRefusal
first_of [] = None
first_of (r ∷ rs) = if r.0 then Some r.1 else first_of rs

abbrev pub refusals_of_timer : Old → ℕ → ℕ → List (Bool × LegacyRefusal)
refusals_of_timer o queue timer =
    (not (is_some (queue_at o queue) && is_some (timer_at o timer)), NoSuch)
    ∷ (is_deleted o queue || is_timer_gone o timer, Released)
    ∷ (not (queue_of_timer o timer == queue), OtherQueue)
    ∷ []

abbrev pub refusals : Old → LegacyCall → List (Bool × LegacyRefusal)
refusals o (call.Unregister registration) = (not (is_some (registration_at o registration)), NoSuch) ∷ (is_registration_gone o registration, Released) ∷ []
refusals o (call.CreateTimer queue routine context due period) = (not (is_some (queue_at o queue)), NoSuch) ∷ (is_deleted o queue, Released) ∷ []
refusals o (call.ChangeTimer queue timer due period) = refusals_of_timer o queue timer
refusals o (call.DeleteTimer queue timer) = refusals_of_timer o queue timer
refusals o (call.DeleteQueue queue) = (not (is_some (queue_at o queue)), NoSuch) ∷ (is_deleted o queue, Released) ∷ []
refusals o other = []

abbrev pub refusal : Old → LegacyCall → Option LegacyRefusal
refusal o made = first_of (refusals o made)

-- ---- room

abbrev pub is_take : Call → Bool
is_take Take = true
is_take made = false

-- for how many entries the history has to have room, so that no call that this one comes to is cut off by its end
abbrev pub cost_of : LegacyCall → ℕ
cost_of (call.QueueItem routine context long) = 1
cost_of (call.Register kernel routine context millis once) = 3
cost_of (call.Unregister registration) = 1
cost_of call.CreateQueue = 1
cost_of (call.CreateTimer queue routine context due period) = 3
cost_of (call.ChangeTimer queue timer due period) = 2
cost_of (call.DeleteTimer queue timer) = 1
cost_of (call.DeleteQueue queue) = 2
cost_of (call.Pool made) = if is_take made then 3 else 0

-- ---- calls of the machine

-- so many milliseconds from now
abbrev pub due_in : ℕ → ℤ
due_in millis = if millis == 0 then pos 0 else negsuc (units_per_millisecond * millis - 1)

abbrev pub kind_of : Setting → Kind
kind_of (setting.Wait kernel timeout) = kind.Wait
kind_of (setting.Timer due period) = kind.Timer

-- an object is set, and closed
abbrev pub set_call : Setting → ObjectId → Call
set_call (setting.Wait kernel timeout) object = SetWait object (Some kernel) timeout
set_call (setting.Timer due period) object = SetTimer object (Some due) period 0

abbrev pub close_call : Setting → ObjectId → Call
close_call how object = CloseObject (kind_of how) object

-- its numbers can stand in a line
abbrev pub IsSetting : Setting → Type 0
IsSetting (setting.Wait kernel timeout) = (kernel.0 ≤ 65535) × IsDueInRange timeout
IsSetting (setting.Timer due period) = IsDueInRange (Some due) × (period < 2 ^ 32)

-- ---- what outcomes tell

abbrev pub number_made : Outcome → Option ℕ
number_made (Done (answer.Made number)) = Some number
number_made told = None

abbrev pub is_refused : Outcome → Bool
is_refused (Done (answer.Refused refusal)) = true
is_refused told = false

abbrev pub flag_told : Outcome → Option Bool
flag_told (Done (answer.Flag value)) = Some value
flag_told told = None

abbrev pub is_closed : Outcome → Bool
is_closed (Done (answer.Closed later)) = true
is_closed told = false

abbrev pub is_closing : Outcome → Bool
is_closing (Done (answer.Closing covered cancelled notices)) = true
is_closing told = false

abbrev pub object_taken : Outcome → Option ObjectId
object_taken (Done (answer.Taken callback object routine context result)) = Some object
object_taken told = None

abbrev pub taken_by : Call → Outcome → Option ObjectId
taken_by made told = if is_take made then object_taken told else None

-- ---- one call after another

-- an object is made and set, and closed again where that is refused
abbrev pub set_calls : Recording → Who → Setting → ℕ → List (Who × Call)
set_calls r who how number =
    (who, set_call how (object_id number))
    ∷ (if is_refused (outcome_behind r who (set_call how (object_id number))) then (who, close_call how (object_id number)) ∷ [] else [])

abbrev pub set_told : Recording → Who → Setting → ℕ → Result ObjectId Outcome
set_told r who how number =
    let told : Outcome = outcome_behind r who (set_call how (object_id number)) in
    if is_refused told then Err told else Ok (object_id number)

abbrev pub calls_with : Option ℕ → (ℕ → List (Who × Call)) → List (Who × Call)
calls_with None calls = []
calls_with (Some number) calls = calls number

abbrev pub told_with : Outcome → Option ℕ → (ℕ → Result ObjectId Outcome) → Result ObjectId Outcome
told_with told None made = Err told
told_with told (Some number) made = made number

abbrev pub make_calls : Recording → Who → Call → Setting → List (Who × Call)
make_calls r who create how = (who, create) ∷ calls_with (number_made (outcome_behind r who create)) (set_calls (made r (who, create)) who how)

-- the object, or the outcome that stood in the way
abbrev pub make_told : Recording → Who → Call → Setting → Result ObjectId Outcome
make_told r who create how = told_with (outcome_behind r who create) (number_made (outcome_behind r who create)) (set_told (made r (who, create)) who how)

-- a timer is asked whether it is set, and then set anew
abbrev pub change_calls : Who → Call → Call → Option Bool → List (Who × Call)
change_calls who ask set (Some true) = (who, ask) ∷ (who, set) ∷ []
change_calls who ask set flag = (who, ask) ∷ []

abbrev pub changed_told : Outcome → LegacyAnswer
changed_told told = if is_refused told then Pool told else Changed true

abbrev pub change_told : Outcome → Option Bool → Outcome → LegacyAnswer
change_told asked None set = Pool asked
change_told asked (Some false) set = Changed false
change_told asked (Some true) set = changed_told set

-- the registration of an object that a worker took a callback of
abbrev pub registration_of : Old → ObjectId → Option Registration
registration_of o object = find (λ (row : Registration). row.object.0 == object.0) o.registrations

abbrev pub is_repeated : Registration → Bool
is_repeated row = not row.once && not row.gone

abbrev pub timeout_of : Option ℕ → Option ℤ
timeout_of millis = option_map due_in millis

abbrev pub wait_of : Registration → Setting
wait_of row = setting.Wait row.kernel (timeout_of row.millis)

-- a registration that isn't for once and isn't gone is armed anew as its callback is taken
abbrev pub rearming : Who → Option Registration → List (Who × Call)
rearming who None = []
rearming who (Some row) = if is_repeated row then (who, set_call (wait_of row) row.object) ∷ [] else []

abbrev pub rearmed_by : Old → Who → Option ObjectId → List (Who × Call)
rearmed_by o who None = []
rearmed_by o who (Some object) = rearming who (registration_of o object)

-- ---- what is noted

abbrev pub with_registration : Old → Result ObjectId Outcome → (ObjectId → Registration) → Old
with_registration o (Ok object) row = record o { registrations = o.registrations ++ row object ∷ [] }
with_registration o (Err told) row = o

abbrev pub with_queue : Old → Option ℕ → Old
with_queue o (Some number) = record o { queues = o.queues ++ (record { group = group_id number; deleted = false }) ∷ [] }
with_queue o None = o

abbrev pub with_timer : Old → Result ObjectId Outcome → (ObjectId → QueueTimer) → Old
with_timer o (Ok object) row = record o { timers = o.timers ++ row object ∷ [] }
with_timer o (Err told) row = o

abbrev pub marked : {R : Type 0} → List R → ℕ → (R → R) → List R
marked rows number mark = option_map_or (λ row. slice_set rows (number - 1) (mark row)) (numbered rows number) rows

abbrev pub without_registration : Old → ℕ → Old
without_registration o number = record o { registrations = marked o.registrations number (λ (row : Registration). record row { gone = true }) }

abbrev pub without_queue : Old → ℕ → Old
without_queue o number = record o { queues = marked o.queues number (λ (row : TimerQueue). record row { deleted = true }) }

abbrev pub without_timer : Old → ℕ → Old
without_timer o number = record o { timers = marked o.timers number (λ (row : QueueTimer). record row { gone = true }) }

-- ---- what each call comes to

pub record Row : Type 0 where
  -- the calls of the machine, in their order
  pub calls : List (Who × Call)
  -- what then stands beside it
  pub old : Old
  pub told : LegacyAnswer

-- one call of the machine, whose outcome is the answer
abbrev pub one_call : Stand → Who → Call → (Outcome → Old) → Row
one_call s who made old = record { calls = (who, made) ∷ []; old = old (outcome_behind s.recording who made); told = Pool (outcome_behind s.recording who made) }

abbrev pub answer_with : Result ObjectId Outcome → LegacyAnswer → LegacyAnswer
answer_with (Ok object) told = told
answer_with (Err outcome) told = Pool outcome

abbrev pub queue_told : Outcome → Option ℕ → ℕ → LegacyAnswer
queue_told told (Some group) number = Queue number
queue_told told None number = Pool told

abbrev pub comes_to : Stand → Who → LegacyCall → Row
comes_to s who (call.QueueItem routine context long) = one_call s who (SubmitSimple routine context (record initialized { long = long })) (λ told. s.old)
comes_to s who (call.Register kernel routine context millis once) =
    let create : Call = Create kind.Wait routine context initialized in
    let how : Setting = setting.Wait kernel (timeout_of millis) in
    let came : Result ObjectId Outcome = make_told s.recording who create how in
    record {
      calls = make_calls s.recording who create how;
      old = with_registration s.old came (λ object. record { object = object; kernel = kernel; millis = millis; once = once; gone = false });
      told = answer_with came (Registered (length s.old.registrations + 1));
    }
comes_to s who (call.Unregister registration) =
    one_call s who (CloseObject kind.Wait (object_of_registration s.old registration)) (λ told. if is_closed told then without_registration s.old registration else s.old)
comes_to s who call.CreateQueue =
    let told : Outcome = outcome_behind s.recording who CreateGroup in
    record { calls = (who, CreateGroup) ∷ []; old = with_queue s.old (number_made told); told = queue_told told (number_made told) (length s.old.queues + 1) }
comes_to s who (call.CreateTimer queue routine context due period) =
    let create : Call = Create kind.Timer routine context (record initialized { group = group_of_queue s.old queue }) in
    let how : Setting = setting.Timer (due_in due) period in
    let came : Result ObjectId Outcome = make_told s.recording who create how in
    record {
      calls = make_calls s.recording who create how;
      old = with_timer s.old came (λ object. record { queue = queue; object = object; gone = false });
      told = answer_with came (Timer (length s.old.timers + 1));
    }
comes_to s who (call.ChangeTimer queue timer due period) =
    let ask : Call = IsTimerSet (object_of_timer s.old timer) in
    let set : Call = set_call (setting.Timer (due_in due) period) (object_of_timer s.old timer) in
    let asked : Outcome = outcome_behind s.recording who ask in
    record {
      calls = change_calls who ask set (flag_told asked);
      old = s.old;
      told = change_told asked (flag_told asked) (outcome_behind (made s.recording (who, ask)) who set);
    }
comes_to s who (call.DeleteTimer queue timer) =
    one_call s who (CloseObject kind.Timer (object_of_timer s.old timer)) (λ told. if is_closed told then without_timer s.old timer else s.old)
comes_to s who (call.DeleteQueue queue) =
    one_call s who (BeginClose (group_of_queue s.old queue) false 0) (λ told. if is_closing told then without_queue s.old queue else s.old)
comes_to s who (call.Pool made) =
    let told : Outcome = outcome_behind s.recording who made in
    record { calls = (who, made) ∷ rearmed_by s.old who (taken_by made told); old = s.old; told = Pool told }

-- ---- steps

abbrev pub stood : Stand → Row → Stand × LegacyAnswer
stood s row = (record { recording = all_made s.recording row.calls; old = row.old }, row.told)

abbrev pub unless_full : ℕ → ℕ → Stand → Stand × LegacyAnswer → Stand × LegacyAnswer
unless_full room cost s came = if nat_lt room cost then (s, Full room cost) else came

abbrev pub unless_refused : Option LegacyRefusal → Stand → Stand × LegacyAnswer → Stand × LegacyAnswer
unless_refused (Some refusal) s came = (s, Refused refusal)
unless_refused None s came = came

abbrev pub legacy_step : Stand → Who → LegacyCall → Stand × LegacyAnswer
legacy_step s who made = unless_refused (refusal s.old made) s (unless_full (room_of s.recording) (cost_of made) s (stood s (comes_to s who made)))

-- what calls come to one after another
abbrev pub legacy_play : Stand → List (Who × LegacyCall) → List LegacyAnswer
legacy_play s [] = []
legacy_play s (made ∷ calls) = (legacy_step s made.0 made.1).1 ∷ legacy_play (legacy_step s made.0 made.1).0 calls
