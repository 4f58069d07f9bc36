-- What the entries of a history tell of callbacks and workers.
use Rattle.std.specs.Prelude.{◌≡◌, ℕ, Bool, true, false, not, ◌&&◌, ◌||◌, ◌==◌, max, List, [], ◌∷◌, ◌++◌, length, if◌then◌else◌, is_some, None, Some, Option}
use Rattle.std.specs.Option.{option_or, option_map_or, unwrap_or}
use Rattle.std.specs.List.{filter, list_any, position, range_with_len, flat_map, filter_map, sum_by, fold}
use Rattle.tp_base.specs.declared.ids.Who.TheVariants.{Worker}
use Rattle.tp_base.specs.declared.ids.GroupId.{GroupId}
use Rattle.tp_base.specs.declared.ids.ObjectId.{ObjectId}
use Rattle.tp_base.specs.declared.ids.PoolId.{PoolId}
use Rattle.tp_base.specs.declared.ids.RoutineId.{RoutineId}
use Rattle.tp_base.specs.declared.rows.WaitTarget.{WaitTarget}
use Rattle.tp_base.specs.declared.rows.WaitTarget.TheVariants.{Object, Group}
use Rattle.tp_base.specs.declared.calls.Call.{Call}
use Rattle.tp_base.specs.declared.calls.Environ.{Environ}
use Rattle.tp_base.specs.declared.calls.Call.TheVariants.{OnReturn, Return, SetMaximum, SetMinimum, BeginWait, BeginClose, End, Disassociate, Create, CloseObject, ClosePool, Detach, SubmitSimple, SetWait, CompleteIo, CompleteNext}
use Rattle.tp_base.specs.declared.answers.ActionKind.{ActionKind}
use Rattle.tp_base.specs.declared.plans.ActionWords.{ActionWords}
use Rattle.tp_base.specs.declared.calls.Kind.{Kind}
use Rattle.tp_base.specs.declared.calls.Kind.TheVariants.{Wait}
use Rattle.tp_base.specs.declared.answers.Answer.{Answer}
use Rattle.tp_base.specs.declared.answers.Answer.TheVariants as answer
use Rattle.tp_base.specs.declared.answers.Answer.TheVariants.{Made, Queued, WasSet, Count, Advanced, Returned, Started, Operation, Cancelled, Closing, Begun, Attached, Taken, Ended, Exhausted, Stalled, Refused}
use Rattle.tp_base.specs.declared.answers.TakeResult.{TakeResult}
use Rattle.tp_base.specs.declared.answers.TakeResult.TheVariants.{Io}
use Rattle.tp_base.specs.declared.answers.Entry.{Entry}
use Rattle.tp_base.specs.declared.limits.Limits.{Limits}
use Rattle.tp_base.specs.Actors.{is_same_actor}
use Rattle.tp_model.specs.History.{is_refusal}

abbrev pub is_among : ℕ → List ℕ → Bool
is_among n numbers = list_any (λ m. m == n) numbers

abbrev pub times : ℕ → List ℕ → ℕ
times n numbers = length (filter (λ m. m == n) numbers)

-- of each entry of a history, with what stands before it
abbrev pub AtEach : (List Entry → Entry → Type 0) → List Entry → Type 0
AtEach P history = (before later : List Entry) (entry : Entry) → before ++ entry ∷ later ≡ history → P before entry

-- ---- callbacks, by their numbers

-- those that an answer tells to be pending now
abbrev pub queued_by : Answer → List ℕ
queued_by (Queued first count) = range_with_len first count
queued_by (WasSet was first count) = range_with_len first count
queued_by (Count previous first count) = range_with_len first count
queued_by (Advanced now first count) = range_with_len first count
queued_by (Returned section mutex semaphore event first count) = range_with_len first count
queued_by _ = []

-- the one that an answer tells to be expected now
abbrev pub started_by : Answer → List ℕ
started_by (Started callback) = callback ∷ []
started_by _ = []

abbrev pub is_complete_call : Call → Bool
is_complete_call (CompleteIo callback error bytes) = true
is_complete_call (CompleteNext object error bytes) = true
is_complete_call _ = false

-- the callback of the operation that an accepted CompleteIo or CompleteNext completes. Of the first its call tells, whatever
-- the answer says, and of the second its answer
abbrev pub completed_call : Call → Answer → List ℕ
completed_call (CompleteIo callback error bytes) told = callback ∷ []
completed_call (CompleteNext object error bytes) (Queued first count) = first ∷ []
completed_call _ told = []

abbrev pub completed_by : Entry → List ℕ
completed_by entry = if is_refusal entry.answer then [] else completed_call entry.call entry.answer

-- what is pending as an operation completes was made before, and else what an entry tells to be pending is made by it
abbrev pub queued_new : Entry → List ℕ
queued_new entry = if is_complete_call entry.call then [] else queued_by entry.answer

-- those that an entry makes
abbrev pub made_by : Entry → List ℕ
made_by entry = started_by entry.answer ++ queued_new entry

abbrev pub taken_by : Answer → Option ℕ
taken_by (Taken callback object routine context result) = Some callback
taken_by _ = None

-- a callback that is taken, and its object
pub record Run : Type 0 where
  pub number : ℕ
  pub object : ObjectId

abbrev pub run_by : Answer → Option Run
run_by (Taken callback object routine context result) = Some (record { number = callback; object = object })
run_by _ = None

-- the one that an answer names as cancelled
abbrev pub cancelled_by : Answer → Option ℕ
cancelled_by (Cancelled callback) = Some callback
cancelled_by _ = None

-- how many a wait or a close says that it cancelled
abbrev pub cancelled_count : Answer → ℕ
cancelled_count (Begun covered cancelled) = cancelled
cancelled_count (Closing covered cancelled notices) = cancelled
cancelled_count _ = 0

abbrev pub numbers_made : List Entry → List ℕ
numbers_made history = flat_map made_by history

abbrev pub numbers_started : List Entry → List ℕ
numbers_started history = flat_map (λ entry. started_by entry.answer) history

abbrev pub numbers_taken : List Entry → List ℕ
numbers_taken history = filter_map (λ entry. taken_by entry.answer) history

abbrev pub numbers_cancelled : List Entry → List ℕ
numbers_cancelled history = filter_map (λ entry. cancelled_by entry.answer) history

abbrev pub count_cancelled : List Entry → ℕ
count_cancelled history = sum_by (λ entry. cancelled_count entry.answer) history

-- the place of the entry that makes the callback
abbrev pub born : List Entry → ℕ → Option ℕ
born history n = position (λ entry. is_among n (made_by entry)) history

-- the place of the entry that completes its operation
abbrev pub completed : List Entry → ℕ → Option ℕ
completed history n = position (λ entry. is_among n (completed_by entry)) history

-- the place of the entry after which the callback may be taken: where it is made, or, where it has an operation, where that
-- completes
abbrev pub ready : List Entry → ℕ → Option ℕ
ready history n = if is_among n (numbers_started history) then completed history n else born history n

-- ---- workers

abbrev pub is_by : ℕ → Entry → Bool
is_by worker entry = is_same_actor entry.who (Worker worker)

abbrev pub is_taken : Entry → Bool
is_taken entry = is_some (taken_by entry.answer)

abbrev pub is_return_call : Call → Bool
is_return_call Return = true
is_return_call _ = false

-- an accepted Return
abbrev pub is_returned : Entry → Bool
is_returned entry = is_return_call entry.call && not (is_refusal entry.answer)

-- a run begins where the worker takes a callback, and ends at the worker's next accepted Return
abbrev pub run_after : ℕ → Bool → Entry → Bool
run_after worker within entry = if is_by worker entry then is_taken entry || (within && not (is_returned entry)) else within

-- whether the worker stands within a run
abbrev pub is_within_run : List Entry → ℕ → Bool
is_within_run history worker = fold (run_after worker) false history

abbrev pub attached_by : Answer → Option ℕ
attached_by (Attached pool) = Some pool.0
attached_by _ = None

abbrev pub pool_after : ℕ → Option ℕ → Entry → Option ℕ
pool_after worker pool entry = if is_by worker entry then option_or (attached_by entry.answer) pool else pool

-- the pool that the worker's last answer Attached names
abbrev pub last_pool : List Entry → ℕ → Option ℕ
last_pool history worker = fold (pool_after worker) None history

abbrev pub is_detach_call : Call → Bool
is_detach_call Detach = true
is_detach_call _ = false

-- an accepted Detach
abbrev pub is_detached : Entry → Bool
is_detached entry = not (is_refusal entry.answer) && is_detach_call entry.call

-- ---- actions on return

abbrev pub asked_call : Call → Option ActionKind
asked_call (OnReturn kind kernel count) = Some kind
asked_call _ = None

-- the kind of action that an accepted OnReturn asks for
abbrev pub asked_by : Entry → Option ActionKind
asked_by entry = if is_refusal entry.answer then None else asked_call entry.call

-- what the answer of a Return says of the actions
abbrev pub words_by : Answer → Option ActionWords
words_by (Returned section mutex semaphore event first count) = Some (record { section = section; mutex = mutex; semaphore = semaphore; event = event })
words_by _ = None

-- ---- pools

abbrev pub maximum_set : ℕ → ℕ → Call → ℕ
maximum_set pool maximum (SetMaximum other value) = if other.0 == pool then max value 1 else maximum
maximum_set pool maximum (SetMinimum other value) = if other.0 == pool then max maximum value else maximum
maximum_set pool maximum _ = maximum

abbrev pub maximum_after : ℕ → ℕ → Entry → ℕ
maximum_after pool maximum entry = if is_refusal entry.answer then maximum else maximum_set pool maximum entry.call

-- as many callbacks of the pool as there are workers, until an accepted call sets another maximum (0 counts as 1) or a
-- minimum above it
abbrev pub told_maximum : Limits → List Entry → ℕ → ℕ
told_maximum limits history pool = fold (maximum_after pool) limits.workers history

abbrev pub shut_call : Call → Option PoolId
shut_call (ClosePool pool) = Some pool
shut_call _ = None

-- the pool that an accepted ClosePool closes
abbrev pub shut_by : Entry → Option PoolId
shut_by entry = if is_refusal entry.answer then None else shut_call entry.call

abbrev pub closes_pool : ℕ → Entry → Bool
closes_pool pool entry = option_map_or (λ (p : PoolId). p.0 == pool) (shut_by entry) false

-- ---- waits

-- a wait for the callbacks of an object or a group, with or without cancel; and of a close of a group what its notices tell
pub record Begins : Type 0 where
  pub target : WaitTarget
  pub cancel : Bool
  pub cleanup : ℕ

abbrev pub begins_call : Call → Option Begins
begins_call (BeginWait kind object cancel) = Some (record { target = Object object; cancel = cancel; cleanup = 0 })
begins_call (BeginClose group cancel context) = Some (record { target = Group group; cancel = cancel; cleanup = context })
begins_call _ = None

-- the wait that an accepted BeginWait or BeginClose begins
abbrev pub begins_by : Entry → Option Begins
begins_by entry = if is_refusal entry.answer then None else begins_call entry.call

abbrev pub is_end_call : Call → Bool
is_end_call End = true
is_end_call _ = false

abbrev pub is_last_answer : Answer → Bool
is_last_answer Ended = true
is_last_answer Exhausted = true
is_last_answer Stalled = true
is_last_answer _ = false

-- the entry ends its actor's wait
abbrev pub is_ending : Entry → Bool
is_ending entry = is_end_call entry.call && is_last_answer entry.answer

abbrev pub is_ended_answer : Answer → Bool
is_ended_answer Ended = true
is_ended_answer _ = false

-- and nothing was left to wait for
abbrev pub is_freeing : Entry → Bool
is_freeing entry = is_end_call entry.call && is_ended_answer entry.answer

abbrev pub is_disassociate_call : Call → Bool
is_disassociate_call Disassociate = true
is_disassociate_call _ = false

-- an accepted Disassociate
abbrev pub is_loosened : Entry → Bool
is_loosened entry = is_disassociate_call entry.call && not (is_refusal entry.answer)

-- ---- groups

-- an object that is made, and with what
pub record Creation : Type 0 where
  pub object : ℕ
  pub context : ℕ
  pub env : Environ

abbrev pub created_call : Call → ℕ → Option Creation
created_call (Create kind routine context env) number = Some (record { object = number; context = context; env = env })
created_call _ number = None

abbrev pub created_answer : Answer → Call → Option Creation
created_answer (Made number) call = created_call call number
created_answer _ call = None

-- the object that an accepted Create makes
abbrev pub created_by : Entry → Option Creation
created_by entry = created_answer entry.answer entry.call

abbrev pub closed_call : Call → Option ObjectId
closed_call (CloseObject kind object) = Some object
closed_call _ = None

-- the object that an accepted CloseObject closes
abbrev pub closed_by : Entry → Option ObjectId
closed_by entry = if is_refusal entry.answer then None else closed_call entry.call

-- a callback that is made without an object: in which group and pool, and whether it is persistent
pub record Simple : Type 0 where
  pub group : GroupId
  pub pool : PoolId
  pub persistent : Bool

abbrev pub simple_call : Call → Option Simple
simple_call (SubmitSimple routine context env) = Some (record { group = env.group; pool = env.pool; persistent = env.persistent })
simple_call _ = None

-- with what an accepted SubmitSimple makes its callback
abbrev pub simple_by : Entry → Option Simple
simple_by entry = if is_refusal entry.answer then None else simple_call entry.call

abbrev pub is_for_group : ℕ → Option Simple → Bool
is_for_group group made = option_map_or (λ (s : Simple). s.group.0 == group) made false

-- the objects that were made with a group
abbrev pub object_in : ℕ → Option Creation → List ℕ
object_in group None = []
object_in group (Some c) = if c.env.group.0 == group then c.object ∷ [] else []

abbrev pub objects_of : ℕ → List Entry → List ℕ
objects_of group history = flat_map (λ entry. object_in group (created_by entry)) history

-- and the simple callbacks
abbrev pub simples_in : ℕ → Entry → List ℕ
simples_in group entry = if is_for_group group (simple_by entry) then queued_by entry.answer else []

abbrev pub simples_of : ℕ → List Entry → List ℕ
simples_of group history = flat_map (simples_in group) history

-- what a notice tells
pub record Notice : Type 0 where
  pub object : ObjectId
  pub routine : RoutineId
  pub context : ℕ
  pub cleanup : ℕ

abbrev pub notice_by : Answer → Option Notice
notice_by (answer.Notice object routine context cleanup) = Some (record { object = object; routine = routine; context = context; cleanup = cleanup })
notice_by _ = None

-- ---- operations of I/O objects

-- the result of an operation
abbrev pub is_completion : TakeResult → Bool
is_completion (Io error bytes) = true
is_completion _ = false

-- what happens to an operation, and that its callback is taken
pub data Happening : Type 0 where
  Starts : Happening
  Issues : Happening
  GivesUp : Happening
  Completes : (error bytes : ℕ) → Happening
  Runs : TakeResult → Happening

-- to the callback of a number
pub record Event : Type 0 where
  pub number : ℕ
  pub what : Happening

abbrev pub event : ℕ → Happening → Option Event
event number what = Some (record { number = number; what = what })

abbrev pub completion : Call → Answer → Option Event
completion (CompleteIo callback error bytes) told = event callback (Completes error bytes)
completion (CompleteNext object error bytes) (Queued first count) = event first (Completes error bytes)
completion _ told = None

abbrev pub event_of : Answer → Call → Option Event
event_of (Operation callback) call = event callback Issues
event_of (Cancelled callback) call = event callback GivesUp
event_of (Taken callback object routine context result) call = event callback (Runs result)
event_of (Refused refusal) call = None
event_of answer call = completion call answer

-- what an entry tells to happen to a callback that was there before
abbrev pub event_by : Entry → Option Event
event_by entry = event_of entry.answer entry.call

-- ---- wait objects

abbrev pub wait_numbered : Kind → ℕ → Option ℕ
wait_numbered Wait number = Some number
wait_numbered _ number = None

abbrev pub wait_of_call : Call → ℕ → Option ℕ
wait_of_call (Create kind routine context env) number = wait_numbered kind number
wait_of_call _ number = None

abbrev pub wait_of_answer : Answer → Call → Option ℕ
wait_of_answer (Made number) call = wait_of_call call number
wait_of_answer _ call = None

-- the wait object that an entry makes
abbrev pub wait_made : Entry → Option ℕ
wait_made entry = wait_of_answer entry.answer entry.call

abbrev pub makes_wait : ℕ → Entry → Bool
makes_wait object entry = option_map_or (λ number. number == object) (wait_made entry) false

abbrev pub is_wait_in : ℕ → List Entry → Bool
is_wait_in object history = list_any (makes_wait object) history

-- a wait object that is set, and whether a kernel object is named
pub record Sets : Type 0 where
  pub object : ObjectId
  pub named : Bool

abbrev pub sets_call : Call → Option Sets
sets_call (SetWait object kernel timeout) = Some (record { object = object; named = is_some kernel })
sets_call _ = None

-- the wait object that an accepted SetWait sets
abbrev pub sets_by : Entry → Option Sets
sets_by entry = if is_refusal entry.answer then None else sets_call entry.call

abbrev pub set_on : ℕ → Option Sets → Option Bool
set_on object None = None
set_on object (Some s) = if s.object.0 == object then Some s.named else None

-- whether a kernel object is named, if the entry sets this wait object
abbrev pub set_by : ℕ → Entry → Option Bool
set_by object entry = set_on object (sets_by entry)

-- how often a wait object is set
abbrev pub count_sets : ℕ → List Entry → ℕ
count_sets object entries = length (filter (λ entry. is_some (set_by object entry)) entries)

abbrev pub set_after : ℕ → Bool → Entry → Bool
set_after object named entry = unwrap_or (set_by object entry) named

-- it was set, and the last time a kernel object was named
abbrev pub is_last_set : ℕ → List Entry → Bool
is_last_set object entries = fold (set_after object) false entries
