-- What an entry tells of callbacks, workers and pools, and what a change has to tell.
use Rattle.std.specs.Prelude.{ℕ, ◌+◌, is_some, Bool, true, false, not, ◌&&◌, max, List, [], ◌∷◌, length, ◌==◌, if◌then◌else◌, Option, None, Some}
use Rattle.tp_base.specs.declared.answers.Entry.{Entry}
use Rattle.tp_base.specs.declared.calls.Call.{Call}
use Rattle.tp_base.specs.declared.calls.Call.TheVariants as calls
use Rattle.tp_model.specs.History.{is_refusal}
use Rattle.tp_model.specs.Stages.{StageStep, Same, Finishes, Joins, Leaves, Starts, Returns, stage_step, waits_step}
use Rattle.std.specs.List.{filter, range_with_len}
use Rattle.tp_base.specs.declared.plans.Mark.TheVariants.{Loose, Asks}
use Rattle.tp_base.specs.declared.answers.ActionKind.{ActionKind}
use Rattle.tp_base.specs.declared.plans.ActionWords.{ActionWords}
use Rattle.tp_base.specs.declared.plans.Awaited.{Awaited}
use Rattle.tp_base.specs.declared.plans.Awaited.TheVariants as awaited
use Rattle.tp_base.specs.declared.plans.WaitEnd.{WaitEnd}
use Rattle.tp_base.specs.declared.plans.WaitEnd.TheVariants.{Free, Exhausted, Stalled}
use Rattle.tp_base.specs.declared.rows.WaitTarget.TheVariants.{Object, Group}
use Rattle.tp_base.specs.declared.plans.IoStep.{IoStep}
use Rattle.tp_base.specs.declared.plans.IoStep.TheVariants.{Issue, GiveUp, Complete}
use Rattle.tp_base.specs.declared.plans.PoolChange.{PoolChange}
use Rattle.tp_base.specs.declared.plans.PoolChange.TheVariants.{Close, Maximum, Minimum}
use Rattle.tp_base.specs.declared.plans.Trigger.{Trigger}
use Rattle.tp_base.specs.declared.plans.Trigger.TheVariants.{SetWait}
use Rattle.tp_base.specs.declared.plans.Change.{Change}
use Rattle.tp_base.specs.declared.plans.Change.TheVariants as change
use Rattle.tp_base.specs.declared.ids.ObjectId.{ObjectId}
use Rattle.tp_base.specs.declared.ids.PoolId.{PoolId}
use Rattle.tp_base.specs.declared.rows.ObjectRow.{ObjectRow}
use Rattle.tp_base.specs.declared.rows.CallbackRow.{CallbackRow}
use Rattle.tp_model.specs.World.{World, BegunWait}
use Rattle.tp_model.specs.Sources.{object_row}
use Rattle.tp_model.specs.Waits.{target_of, is_cancelled_by, wait_of}
use Rattle.tp_model.specs.Laws.Entries.{Begins, begins_by, is_ending, is_freeing, Notice, notice_by, Creation, created_by, closed_by, Simple, simple_by, shut_by, wait_made, wait_numbered, Sets, sets_by}
use Rattle.tp_model.specs.Laws.Entries.{Run, run_by, made_by, queued_new, completed_by, started_by, taken_by, cancelled_by, cancelled_count, attached_by, is_returned, is_detached, maximum_after, is_loosened, asked_by, words_by}
use Rattle.tp_model.specs.Laws.Entries.{Happening, Event, event, event_by, Issues, GivesUp, Completes, Runs as Taking}

-- of callbacks that were there before, and of the worker
pub record Deed : Type 0 where
  pub taken : Option ℕ
  pub run : Option Run
  pub cancelled : Option ℕ
  pub count : ℕ
  pub attached : Option ℕ
  pub returned : Bool
  pub left : Bool
  pub loosened : Bool
  pub asked : Option ActionKind
  pub words : Option ActionWords
  pub completed : List ℕ
  pub event : Option Event

abbrev pub deed_by : Entry → Deed
deed_by entry = record {
  taken = taken_by entry.answer;
  run = run_by entry.answer;
  cancelled = cancelled_by entry.answer;
  count = cancelled_count entry.answer;
  attached = attached_by entry.answer;
  returned = is_returned entry;
  left = is_detached entry;
  loosened = is_loosened entry;
  asked = asked_by entry;
  words = words_by entry.answer;
  completed = completed_by entry;
  event = event_by entry;
}

abbrev pub nothing : Deed
nothing = record { taken = None; run = None; cancelled = None; count = 0; attached = None; returned = false; left = false; loosened = false; asked = None; words = None; completed = []; event = None }

pub record Told : Type 0 where
  -- the callbacks that are made, and of these those that are pending and those that expect an operation
  pub made : List ℕ
  pub queued : List ℕ
  pub started : List ℕ
  pub deed : Deed
  pub begun : Option Begins
  pub ending : Bool
  pub freeing : Bool
  -- a wait object that is made, and one that is set
  pub wait : Option ℕ
  pub sets : Option Sets
  -- an object that is made, and one that is closed; with what a simple callback is made; a notice that is given
  pub created : Option Creation
  pub closed : Option ObjectId
  pub simple : Option Simple
  pub notice : Option Notice
  -- what becomes of the actor's stage, and whether it has a wait begun from then on; and whether the call begins one
  pub stage : StageStep
  pub waiting : Option Bool
  pub begins : Bool
  -- the maximum of each pool after the entry, by what it was before; and a pool that is closed
  pub maxima : ℕ → ℕ → ℕ
  pub shut : Option PoolId

-- a call that begins a wait
abbrev pub is_begin_call : Call → Bool
is_begin_call (calls.BeginWait kind object cancel) = true
is_begin_call (calls.BeginClose group cancel context) = true
is_begin_call (calls.BeginAcquire kernel) = true
is_begin_call _ = false

abbrev pub is_beginning : Entry → Bool
is_beginning entry = not (is_refusal entry.answer) && is_begin_call entry.call

abbrev pub told_by : Entry → Told
told_by entry = record {
  made = made_by entry;
  queued = queued_new entry;
  started = started_by entry.answer;
  deed = deed_by entry;
  begun = begins_by entry;
  ending = is_ending entry;
  freeing = is_freeing entry;
  wait = wait_made entry;
  sets = sets_by entry;
  created = created_by entry;
  closed = closed_by entry;
  simple = simple_by entry;
  notice = notice_by entry.answer;
  stage = stage_step entry.answer entry.call;
  waiting = waits_step entry.answer entry.call;
  begins = is_beginning entry;
  maxima = λ pool maximum. maximum_after pool maximum entry;
  shut = shut_by entry;
}

abbrev pub silent : Told
silent = record { made = []; queued = []; started = []; deed = nothing; begun = None; ending = false; freeing = false; wait = None; sets = None; created = None; closed = None; simple = None; notice = None; stage = Same; waiting = None; begins = false; maxima = λ pool maximum. maximum; shut = None }

abbrev pub maxima_by : ℕ → PoolChange → ℕ → ℕ → ℕ
maxima_by pool Close other maximum = maximum
maxima_by pool (Maximum value) other maximum = if pool == other then max value 1 else maximum
maxima_by pool (Minimum value) other maximum = if pool == other then max maximum value else maximum

abbrev pub shut_of : PoolId → PoolChange → Option PoolId
shut_of pool Close = Some pool
shut_of pool (Maximum value) = None
shut_of pool (Minimum value) = None

-- a wait for a kernel object is for no callbacks
abbrev pub begins_of : Awaited → Bool → Option Begins
begins_of (awaited.Object object) cancel = Some (record { target = Object object; cancel = cancel; cleanup = 0 })
begins_of (awaited.Kernel kernel) cancel = None

-- an object of a number with this row
abbrev pub creation_of : ℕ → ObjectRow → Creation
creation_of number row = record { object = number; context = row.context; env = row.env }

-- what a callback that has no object was made with
abbrev pub simple_of : CallbackRow → Option Simple
simple_of c = if c.object.0 == 0 then Some (record { group = c.group; pool = c.pool; persistent = c.persistent }) else None

-- the notice of an object, and the first one that a wait has left
abbrev pub notice_at : List ObjectRow → ℕ → ObjectId → Notice
notice_at objects cleanup object = record { object = object; routine = (object_row objects object).env.cancel; context = (object_row objects object).context; cleanup = cleanup }

abbrev pub first_left : List ObjectRow → ℕ → List ObjectId → Option Notice
first_left objects cleanup [] = None
first_left objects cleanup (object ∷ rest) = Some (notice_at objects cleanup object)

abbrev pub next_notice : List ObjectRow → Option BegunWait → Option Notice
next_notice objects None = None
next_notice objects (Some b) = first_left objects b.cleanup b.notices

abbrev pub is_free : WaitEnd → Bool
is_free Free = true
is_free Exhausted = false
is_free Stalled = false

abbrev pub sets_of : Trigger → Option Sets
sets_of (SetWait object kernel timeout) = Some (record { object = object; named = is_some kernel })
sets_of _ = None

-- of an operation
abbrev pub cancelled_of : ℕ → IoStep → Option ℕ
cancelled_of number GiveUp = Some number
cancelled_of number _ = None

abbrev pub completed_of : ℕ → IoStep → List ℕ
completed_of number (Complete error bytes) = number ∷ []
completed_of number _ = []

abbrev pub happening_of : IoStep → Happening
happening_of Issue = Issues
happening_of GiveUp = GivesUp
happening_of (Complete error bytes) = Completes error bytes

abbrev pub deed_of : ℕ → IoStep → Deed
deed_of number how = record nothing { cancelled = cancelled_of number how; completed = completed_of number how; event = event number (happening_of how) }

-- what the entry of a change tells, with the number that the next callback gets
abbrev pub told_by_change : ℕ → World → Change → Told
told_by_change next_number w (change.ChangePool pool how) = record silent { maxima = maxima_by pool.0 how; shut = shut_of pool how }
told_by_change next_number w (change.CreateObject row) = record silent { wait = wait_numbered row.kind (length w.objects + 1); created = Some (creation_of (length w.objects + 1) row) }
told_by_change next_number w (change.ReleaseObject object) = record silent { closed = Some object }
told_by_change next_number w (change.QueueCallback callback) = record silent { made = next_number ∷ []; queued = next_number ∷ []; simple = simple_of callback }
told_by_change next_number w (change.ExpectCallback callback) = record silent { made = next_number ∷ []; started = next_number ∷ [] }
told_by_change next_number w (change.Operate callback how) = record silent { deed = deed_of callback.number how }
told_by_change next_number w (change.Fire trigger first count) = record silent { made = range_with_len first count; queued = range_with_len first count; sets = sets_of trigger }
told_by_change next_number w (change.Attach worker pool) = record silent { deed = record nothing { attached = Some pool.0 }; stage = Joins }
told_by_change next_number w (change.Detach by) = record silent { deed = record nothing { left = true }; stage = Leaves }
told_by_change next_number w (change.Take by callback) =
    record silent { deed = record nothing { taken = Some callback.number; run = Some (record { number = callback.number; object = callback.object }); event = event callback.number (Taking callback.result) }; stage = Starts callback.routine }
told_by_change next_number w (change.Mark by Loose) = record silent { deed = record nothing { loosened = true } }
told_by_change next_number w (change.Mark by (Asks kind action)) = record silent { deed = record nothing { asked = Some kind } }
told_by_change next_number w (change.BeginWait who awaited cancel) =
    record silent { deed = record nothing { count = length (filter (is_cancelled_by (target_of awaited) cancel) w.callbacks) }; begun = begins_of awaited cancel; waiting = Some true; begins = true }
told_by_change next_number w (change.BeginClose who group cancel context notices) =
    record silent { deed = record nothing { count = length (filter (is_cancelled_by (Group group) cancel) w.callbacks) }; begun = Some (record { target = Group group; cancel = cancel; cleanup = context }); waiting = Some true; begins = true }
told_by_change next_number w (change.GiveNotice who) = record silent { notice = next_notice w.objects (wait_of w who) }
told_by_change next_number w (change.EndWait who how) = record silent { ending = true; freeing = is_free how; waiting = Some false }
told_by_change next_number w (change.Return by words first count) =
    record silent { deed = record nothing { returned = true; words = Some words }; made = range_with_len first count; queued = range_with_len first count; stage = Returns }
told_by_change next_number w (change.Finish client) = record silent { stage = Finishes }
told_by_change next_number w _ = silent
