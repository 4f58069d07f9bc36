-- Where the actors of two short histories stand, by their own entries alone, by computation.
use Rattle.std.proofs.Common.{◌≡◌, [], ◌∷◌, ◌++◌, List, refl, true, false}
use Rattle.tp_base.specs.declared.answers.Answer.{Answer}
use Rattle.tp_base.specs.declared.answers.Answer.TheVariants as answer
use Rattle.tp_base.specs.declared.answers.Entry.{Entry}
use Rattle.tp_base.specs.declared.answers.Outcome.TheVariants as outcome
use Rattle.tp_base.specs.declared.answers.Refusal.TheVariants.{NoSuch, StillRunning}
use Rattle.tp_base.specs.declared.answers.SlotWord.TheVariants.{Unasked}
use Rattle.tp_base.specs.declared.answers.TakeResult.TheVariants.{Plain}
use Rattle.tp_base.specs.declared.calls.Call.{Call}
use Rattle.tp_base.specs.declared.calls.Call.TheVariants.{Attach, BeginAcquire, BeginWait, Create, CreateEvent, Detach, End, Finish, Return, SetEvent, SubmitWork, Take}
use Rattle.tp_base.specs.declared.calls.Environ.{Environ}
use Rattle.tp_base.specs.declared.calls.Kind.TheVariants.{Work}
use Rattle.tp_base.specs.declared.calls.Priority.TheVariants.{Normal}
use Rattle.tp_base.specs.declared.ids.Who.{Who}
use Rattle.tp_base.specs.declared.ids.Who.TheVariants.{Client, Worker}
use Rattle.tp_base.specs.declared.limits.Limits.{Limits}
use Rattle.tp_base.specs.declared.plans.Stage.TheVariants as stage
use Rattle.tp_model.specs.Calls.Clients.{finish_plan}
use Rattle.tp_model.specs.Calls.Kernels.{create_event_plan, set_event_plan}
use Rattle.tp_model.specs.Calls.Objects.{create_plan}
use Rattle.tp_model.specs.Calls.Waits.{begin_acquire_plan, begin_wait_plan}
use Rattle.tp_model.specs.Calls.End.{end_plan}
use Rattle.tp_model.specs.Calls.Work.{submit_work_plan}
use Rattle.tp_model.specs.Calls.Workers.{attach_plan, detach_plan, return_plan, take_plan}
use Rattle.tp_model.specs.History.{play}
use Rattle.tp_model.specs.Stages.{comes_to, is_wait_outcome, stage_of, waits_of}

limits : Limits
limits = record { clients = 1; workers = 1; pools = 1; groups = 0; objects = 1; kernels = 1; slots = 1 }

environ : Environ
environ = record { pool = record { 0 = 0 }; group = record { 0 = 0 }; cancel = record { 0 = 0 }; priority = Normal; long = false; persistent = false }

entry : Who → Call → Answer → Entry
entry who call answer = record { who = who; call = call; answer = answer }

-- a client waits for a work that a worker runs; a wait for an object that was never made is refused
waited : List Entry
waited =
    entry (Client 1) (Create Work (record { 0 = 7 }) 0 environ) (answer.Made 1)
    ∷ entry (Client 1) (SubmitWork (record { 0 = 1 })) (answer.Queued 1 1)
    ∷ entry (Client 1) (BeginWait Work (record { 0 = 2 }) false) (answer.Refused NoSuch)
    ∷ entry (Worker 1) Attach (answer.Attached (record { 0 = 0 }))
    ∷ entry (Worker 1) Take (answer.Taken 1 (record { 0 = 1 }) (record { 0 = 7 }) 0 Plain)
    ∷ entry (Client 1) (BeginWait Work (record { 0 = 1 }) false) (answer.Begun 1 0)
    ∷ []

-- then the callback returns, the wait ends, and both leave
left : List Entry
left =
    entry (Worker 1) Return (answer.Returned Unasked Unasked Unasked Unasked 0 0)
    ∷ entry (Client 1) End answer.Ended
    ∷ entry (Client 1) Finish answer.Done
    ∷ entry (Worker 1) Detach answer.Done
    ∷ []

before_the_wait : waits_of (Client 1) (entry (Client 1) (BeginWait Work (record { 0 = 2 }) false) (answer.Refused NoSuch) ∷ []) ≡ false
unfolding entry
before_the_wait = refl

client_waits : waits_of (Client 1) waited ≡ true
unfolding entry environ waited
client_waits = refl

client_plays : stage_of (Client 1) waited ≡ stage.Playing
unfolding entry environ waited
client_plays = refl

-- the worker is in a callback with routine 7, and waits for nothing
worker_runs : stage_of (Worker 1) waited ≡ stage.Busy (record { 0 = 7 })
unfolding entry environ waited
worker_runs = refl

worker_waits_not : waits_of (Worker 1) waited ≡ false
unfolding entry environ waited
worker_waits_not = refl

client_left : stage_of (Client 1) (waited ++ left) ≡ stage.Over
unfolding entry environ waited left
client_left = refl

client_waited : waits_of (Client 1) (waited ++ left) ≡ false
unfolding entry environ waited left
client_waited = refl

worker_left : stage_of (Worker 1) (waited ++ left) ≡ stage.Away
unfolding entry environ waited left
worker_left = refl

-- these are the machine's answers
is_waited : play limits 100
    ((Client 1, Create Work (record { 0 = 7 }) 0 environ) ∷ (Client 1, SubmitWork (record { 0 = 1 })) ∷ (Client 1, BeginWait Work (record { 0 = 2 }) false) ∷ (Worker 1, Attach) ∷ (Worker 1, Take)
    ∷ (Client 1, BeginWait Work (record { 0 = 1 }) false) ∷ (Worker 1, Return) ∷ (Client 1, End) ∷ (Client 1, Finish) ∷ (Worker 1, Detach) ∷ [])
    ≡ outcome.Done (answer.Made 1) ∷ outcome.Done (answer.Queued 1 1) ∷ outcome.Done (answer.Refused NoSuch) ∷ outcome.Done (answer.Attached (record { 0 = 0 }))
    ∷ outcome.Done (answer.Taken 1 (record { 0 = 1 }) (record { 0 = 7 }) 0 Plain) ∷ outcome.Done (answer.Begun 1 0) ∷ outcome.Done (answer.Returned Unasked Unasked Unasked Unasked 0 0)
    ∷ outcome.Done answer.Ended ∷ outcome.Done answer.Done ∷ outcome.Done answer.Done ∷ []
unfolding limits environ create_plan submit_work_plan begin_wait_plan attach_plan take_plan return_plan end_plan finish_plan detach_plan
is_waited = refl

-- a callback waits for an event, and a Take is refused in between; then the event is set, and the wait ends
acquiring : List Entry
acquiring =
    entry (Client 1) (CreateEvent true false) (answer.Made 1)
    ∷ entry (Client 1) (Create Work (record { 0 = 2 }) 0 environ) (answer.Made 1)
    ∷ entry (Client 1) (SubmitWork (record { 0 = 1 })) (answer.Queued 1 1)
    ∷ entry (Worker 1) Attach (answer.Attached (record { 0 = 0 }))
    ∷ entry (Worker 1) Take (answer.Taken 1 (record { 0 = 1 }) (record { 0 = 2 }) 0 Plain)
    ∷ entry (Worker 1) (BeginAcquire (record { 0 = 1 })) answer.Done
    ∷ entry (Worker 1) Take (answer.Refused StillRunning)
    ∷ []

acquired : List Entry
acquired = entry (Client 1) (SetEvent (record { 0 = 1 })) (answer.Queued 0 0) ∷ entry (Worker 1) End answer.Ended ∷ []

worker_waits : waits_of (Worker 1) acquiring ≡ true
unfolding entry environ acquiring
worker_waits = refl

worker_still_runs : stage_of (Worker 1) acquiring ≡ stage.Busy (record { 0 = 2 })
unfolding entry environ acquiring
worker_still_runs = refl

worker_waited : waits_of (Worker 1) (acquiring ++ acquired) ≡ false
unfolding entry environ acquiring acquired
worker_waited = refl

-- its End looks at first, also where the history has no room
looks_first : is_wait_outcome (comes_to limits acquiring 0 (Worker 1) End) ≡ true
unfolding limits entry environ acquiring create_event_plan create_plan submit_work_plan attach_plan take_plan begin_acquire_plan end_plan
looks_first = refl

-- and comes to an Ended where the event is set
ends_then : comes_to limits (acquiring ++ entry (Client 1) (SetEvent (record { 0 = 1 })) (answer.Queued 0 0) ∷ []) 0 (Worker 1) End ≡ outcome.Done answer.Ended
unfolding limits entry environ acquiring create_event_plan create_plan submit_work_plan attach_plan take_plan begin_acquire_plan set_event_plan end_plan
ends_then = refl
