-- Traces in which a stall comes, or just doesn't, by computation alone; and what the law of stalls says of some entries.
use Rattle.std.proofs.Common.{◌≡◌, ℕ, List, [], ◌∷◌, ◌++◌, Some, refl, true, false}
use Rattle.std.specs.Prelude.{negsuc}
use Rattle.std.specs.List.{list_all}
use Rattle.tp_base.specs.declared.answers.Answer.{Answer}
use Rattle.tp_base.specs.declared.answers.Answer.TheVariants as answer
use Rattle.tp_base.specs.declared.answers.Entry.{Entry}
use Rattle.tp_base.specs.declared.answers.Look.TheVariants as look
use Rattle.tp_base.specs.declared.answers.Outcome.{Outcome}
use Rattle.tp_base.specs.declared.answers.Outcome.TheVariants as outcome
use Rattle.tp_base.specs.declared.answers.Refusal.TheVariants as refusal
use Rattle.tp_base.specs.declared.answers.SlotWord.TheVariants.{Unasked}
use Rattle.tp_base.specs.declared.answers.TakeResult.TheVariants.{Plain}
use Rattle.tp_base.specs.declared.calls.Call.{Call}
use Rattle.tp_base.specs.declared.calls.Call.TheVariants as call
use Rattle.tp_base.specs.declared.calls.Environ.{Environ}
use Rattle.tp_base.specs.declared.calls.Kind.TheVariants.{Work, Timer}
use Rattle.tp_base.specs.declared.calls.Priority.TheVariants.{Normal}
use Rattle.tp_base.specs.declared.ids.Who.{Who}
use Rattle.tp_base.specs.declared.ids.Who.TheVariants.{Client, Worker}
use Rattle.tp_base.specs.declared.limits.Limits.{Limits}
use Rattle.tp_model.specs.Calls.Clients.{finish_plan}
use Rattle.tp_model.specs.Calls.End.{end_plan}
use Rattle.tp_model.specs.Calls.Groups.{create_group_plan, begin_close_plan}
use Rattle.tp_model.specs.Calls.Kernels.{create_event_plan, set_event_plan}
use Rattle.tp_model.specs.Calls.Objects.{create_plan}
use Rattle.tp_model.specs.Calls.Timers.{advance_plan, set_timer_plan}
use Rattle.tp_model.specs.Calls.Waits.{begin_acquire_plan, begin_wait_plan}
use Rattle.tp_model.specs.Calls.Work.{submit_work_plan}
use Rattle.tp_model.specs.Calls.Workers.{attach_plan, detach_plan, return_plan, take_plan}
use Rattle.tp_model.specs.Counts.{owed}
use Rattle.tp_model.specs.History.{IsLegal, after, play}
use Rattle.tp_model.specs.Stalling.{before_the_end, moves_only}

limits : ℕ → ℕ → Limits
limits clients workers = record { clients = clients; workers = workers; pools = 64; groups = 255; objects = 4095; kernels = 1024; slots = 8192 }

environ : Environ
environ = record { pool = record { 0 = 0 }; group = record { 0 = 0 }; cancel = record { 0 = 0 }; priority = Normal; long = false; persistent = false }

-- a worker takes a callback of the first of two work objects, which submits the second and waits for it
waits_inside : List (Who × Call)
waits_inside =
    ((Client 1), (call.Create Work (record { 0 = 1 }) 0 environ))
    ∷ ((Client 1), (call.Create Work (record { 0 = 2 }) 0 environ))
    ∷ ((Client 1), (call.SubmitWork (record { 0 = 1 })))
    ∷ ((Worker 1), call.Attach)
    ∷ ((Worker 1), call.Take)
    ∷ ((Worker 1), (call.SubmitWork (record { 0 = 2 })))
    ∷ ((Worker 1), (call.BeginWait Work (record { 0 = 2 }) false)) ∷ []

told_inside : List Outcome
told_inside =
    outcome.Done (answer.Made 1)
    ∷ outcome.Done (answer.Made 2)
    ∷ outcome.Done (answer.Queued 1 1)
    ∷ outcome.Done (answer.Attached (record { 0 = 0 }))
    ∷ outcome.Done (answer.Taken 1 (record { 0 = 1 }) (record { 0 = 1 }) 0 Plain)
    ∷ outcome.Done (answer.Queued 2 1)
    ∷ outcome.Done (answer.Begun 1 0) ∷ []

-- two callbacks wait for each other, and a client for each of them: an End says so only once nobody else can go on
deadlock : play (limits 2 2) 65536
    (((Client 1), (call.Create Work (record { 0 = 1 }) 0 environ))
    ∷ ((Client 1), (call.Create Work (record { 0 = 2 }) 0 environ))
    ∷ ((Client 1), (call.SubmitWork (record { 0 = 1 })))
    ∷ ((Client 2), (call.SubmitWork (record { 0 = 2 })))
    ∷ ((Worker 1), call.Attach)
    ∷ ((Worker 1), call.Take)
    ∷ ((Worker 2), call.Attach)
    ∷ ((Worker 2), call.Take)
    ∷ ((Client 1), (call.BeginWait Work (record { 0 = 1 }) false))
    ∷ ((Client 2), (call.BeginWait Work (record { 0 = 2 }) false))
    ∷ ((Worker 1), (call.BeginWait Work (record { 0 = 2 }) false))
    ∷ ((Client 1), call.End)
    ∷ ((Worker 2), (call.BeginWait Work (record { 0 = 1 }) false))
    ∷ ((Client 1), call.End)
    ∷ ((Client 2), call.End)
    ∷ ((Client 1), call.Finish)
    ∷ ((Client 2), call.End)
    ∷ ((Client 2), call.Finish)
    ∷ ((Worker 1), call.End)
    ∷ ((Worker 2), call.End)
    ∷ ((Worker 1), call.Return)
    ∷ ((Worker 2), call.End)
    ∷ ((Worker 2), call.Return) ∷ [])
    ≡ outcome.Done (answer.Made 1)
    ∷ outcome.Done (answer.Made 2)
    ∷ outcome.Done (answer.Queued 1 1)
    ∷ outcome.Done (answer.Queued 2 1)
    ∷ outcome.Done (answer.Attached (record { 0 = 0 }))
    ∷ outcome.Done (answer.Taken 1 (record { 0 = 1 }) (record { 0 = 1 }) 0 Plain)
    ∷ outcome.Done (answer.Attached (record { 0 = 0 }))
    ∷ outcome.Done (answer.Taken 2 (record { 0 = 2 }) (record { 0 = 2 }) 0 Plain)
    ∷ outcome.Done (answer.Begun 1 0)
    ∷ outcome.Done (answer.Begun 1 0)
    ∷ outcome.Done (answer.Begun 1 0)
    ∷ outcome.Look (look.NotYet 1)
    ∷ outcome.Done (answer.Begun 1 0)
    ∷ outcome.Done answer.Stalled
    ∷ outcome.Look (look.NotYet 2)
    ∷ outcome.Done answer.Done
    ∷ outcome.Done answer.Stalled
    ∷ outcome.Done answer.Done
    ∷ outcome.Done answer.Stalled
    ∷ outcome.Look (look.NotYet 1)
    ∷ outcome.Done (answer.Returned Unasked Unasked Unasked Unasked 0 0)
    ∷ outcome.Done answer.Ended
    ∷ outcome.Done (answer.Returned Unasked Unasked Unasked Unasked 0 0) ∷ []
unfolding limits environ create_plan submit_work_plan attach_plan take_plan begin_wait_plan end_plan finish_plan return_plan
deadlock = refl

-- a client waits for a callback, which waits for an event that nobody sets. The client is told first, and the callback once
-- the client has finished
event_never_set : play (limits 1 1) 65536
    (((Client 1), (call.CreateEvent true false))
    ∷ ((Client 1), (call.Create Work (record { 0 = 1 }) 0 environ))
    ∷ ((Client 1), (call.SubmitWork (record { 0 = 1 })))
    ∷ ((Client 1), (call.BeginWait Work (record { 0 = 1 }) false))
    ∷ ((Worker 1), call.Attach)
    ∷ ((Worker 1), call.Take)
    ∷ ((Worker 1), (call.BeginAcquire (record { 0 = 1 })))
    ∷ ((Client 1), call.End)
    ∷ ((Worker 1), call.End)
    ∷ ((Client 1), call.Finish)
    ∷ ((Worker 1), call.End)
    ∷ ((Worker 1), call.Return)
    ∷ ((Worker 1), call.Detach) ∷ [])
    ≡ outcome.Done (answer.Made 1)
    ∷ outcome.Done (answer.Made 1)
    ∷ outcome.Done (answer.Queued 1 1)
    ∷ outcome.Done (answer.Begun 1 0)
    ∷ outcome.Done (answer.Attached (record { 0 = 0 }))
    ∷ outcome.Done (answer.Taken 1 (record { 0 = 1 }) (record { 0 = 1 }) 0 Plain)
    ∷ outcome.Done answer.Done
    ∷ outcome.Done answer.Stalled
    ∷ outcome.Look (look.NotYetKernel (record { 0 = 1 }))
    ∷ outcome.Done answer.Done
    ∷ outcome.Done answer.Stalled
    ∷ outcome.Done (answer.Returned Unasked Unasked Unasked Unasked 0 0)
    ∷ outcome.Done answer.Done ∷ []
unfolding limits environ create_event_plan create_plan submit_work_plan begin_wait_plan attach_plan take_plan begin_acquire_plan end_plan finish_plan return_plan detach_plan
event_never_set = refl

-- the only worker would have to take the callback that it waits for
one_worker : play (limits 1 1) 65536
    (waits_inside
    ++ ((Client 1), (call.BeginWait Work (record { 0 = 1 }) false))
    ∷ ((Worker 1), call.End)
    ∷ ((Client 1), call.End) ∷ [])
    ≡ told_inside
    ++ outcome.Done (answer.Begun 1 0)
    ∷ outcome.Done answer.Stalled
    ∷ outcome.Look (look.NotYet 1) ∷ []
unfolding limits environ waits_inside told_inside create_plan submit_work_plan attach_plan take_plan begin_wait_plan end_plan
one_worker = refl

-- where another worker can take it nothing stalls, be that worker attached or not
two_workers : play (limits 1 2) 65536
    (waits_inside
    ++ ((Client 1), (call.BeginWait Work (record { 0 = 1 }) false))
    ∷ ((Worker 1), call.End)
    ∷ ((Client 1), call.End)
    ∷ ((Worker 2), call.Attach)
    ∷ ((Worker 1), call.End)
    ∷ ((Worker 2), call.Take)
    ∷ ((Worker 1), call.End)
    ∷ ((Worker 2), call.Return)
    ∷ ((Worker 1), call.End) ∷ [])
    ≡ told_inside
    ++ outcome.Done (answer.Begun 1 0)
    ∷ outcome.Look (look.NotYet 2)
    ∷ outcome.Look (look.NotYet 1)
    ∷ outcome.Done (answer.Attached (record { 0 = 0 }))
    ∷ outcome.Look (look.NotYet 2)
    ∷ outcome.Done (answer.Taken 2 (record { 0 = 2 }) (record { 0 = 2 }) 0 Plain)
    ∷ outcome.Look (look.NotYet 2)
    ∷ outcome.Done (answer.Returned Unasked Unasked Unasked Unasked 0 0)
    ∷ outcome.Done answer.Ended ∷ []
unfolding limits environ waits_inside told_inside create_plan submit_work_plan attach_plan take_plan begin_wait_plan end_plan return_plan
two_workers = refl

-- in a room of 3 the other worker could not join, take and leave. No wait is exhausted, since a worker is attached: a stall.
-- Once the other worker has joined too, no room is left for a take
small_room : play (limits 1 2) 16
    (waits_inside
    ++ ((Client 1), (call.BeginWait Work (record { 0 = 2 }) false))
    ∷ ((Client 1), call.End)
    ∷ ((Client 1), call.Finish)
    ∷ ((Worker 2), call.Attach)
    ∷ ((Worker 1), call.End)
    ∷ ((Worker 1), call.Return) ∷ [])
    ≡ told_inside
    ++ outcome.Done (answer.Begun 1 0)
    ∷ outcome.Done answer.Stalled
    ∷ outcome.Done answer.Done
    ∷ outcome.Done (answer.Attached (record { 0 = 0 }))
    ∷ outcome.Done answer.Exhausted
    ∷ outcome.Done (answer.Returned Unasked Unasked Unasked Unasked 0 0) ∷ []
unfolding limits environ waits_inside told_inside create_plan submit_work_plan attach_plan take_plan begin_wait_plan end_plan finish_plan return_plan
small_room = refl

-- a room of 4 is enough
enough_room : play (limits 1 2) 17
    (waits_inside
    ++ ((Client 1), (call.BeginWait Work (record { 0 = 2 }) false))
    ∷ ((Client 1), call.End) ∷ [])
    ≡ told_inside
    ++ outcome.Done (answer.Begun 1 0)
    ∷ outcome.Look (look.NotYet 2) ∷ []
unfolding limits environ waits_inside told_inside create_plan submit_work_plan attach_plan take_plan begin_wait_plan end_plan
enough_room = refl

-- time passes only by a call: a timer that is set helps nobody, unless a client is left that could make the call
timer_not_due : play (limits 2 1) 65536
    (((Client 1), (call.Create Timer (record { 0 = 1 }) 0 environ))
    ∷ ((Client 1), (call.CreateEvent true false))
    ∷ ((Client 1), (call.SetTimer (record { 0 = 1 }) (Some (negsuc 9999)) 0 0))
    ∷ ((Client 1), (call.BeginAcquire (record { 0 = 1 })))
    ∷ ((Client 1), call.End)
    ∷ ((Client 2), call.Finish)
    ∷ ((Client 1), call.End)
    ∷ ((Client 1), (call.Advance 10000))
    ∷ ((Client 1), call.End) ∷ [])
    ≡ outcome.Done (answer.Made 1)
    ∷ outcome.Done (answer.Made 1)
    ∷ outcome.Done (answer.Queued 0 0)
    ∷ outcome.Done answer.Done
    ∷ outcome.Look (look.NotYetKernel (record { 0 = 1 }))
    ∷ outcome.Done answer.Done
    ∷ outcome.Done answer.Stalled
    ∷ outcome.Done (answer.Advanced 10000 1 1)
    ∷ outcome.Done (answer.Refused refusal.NoWaitBegun) ∷ []
unfolding limits environ create_plan create_event_plan set_timer_plan begin_acquire_plan end_plan finish_plan advance_plan
timer_not_due = refl

-- a close of a group that has a notice to give waits for a callback, and that for an event. The close ends without the notice;
-- then the event is set after all, and everybody ends
entry : Who → Call → Answer → Entry
entry who made told = record { who = who; call = made; answer = told }

closing : List Entry
closing =
    entry (Client 1) call.CreateGroup (answer.Made 1)
    ∷ entry (Client 1) (call.CreateEvent true false) (answer.Made 1)
    ∷ entry (Client 1) (call.Create Work (record { 0 = 1 }) 0 (record environ { group = record { 0 = 1 }; cancel = record { 0 = 9 } })) (answer.Made 1)
    ∷ entry (Client 1) (call.SubmitWork (record { 0 = 1 })) (answer.Queued 1 1)
    ∷ entry (Worker 1) call.Attach (answer.Attached (record { 0 = 0 }))
    ∷ entry (Worker 1) call.Take (answer.Taken 1 (record { 0 = 1 }) (record { 0 = 1 }) 0 Plain)
    ∷ entry (Worker 1) (call.BeginAcquire (record { 0 = 1 })) answer.Done
    ∷ entry (Client 1) (call.BeginClose (record { 0 = 1 }) true 5) (answer.Closing 1 0 1)
    ∷ []

stalled : List Entry
stalled = closing ++ entry (Client 1) call.End answer.Stalled ∷ []

ended : List Entry
ended =
    stalled
    ++ entry (Client 1) call.End (answer.Refused refusal.NoWaitBegun)
    ∷ entry (Client 1) (call.SetEvent (record { 0 = 1 })) (answer.Queued 0 0)
    ∷ entry (Worker 1) call.End answer.Ended
    ∷ entry (Worker 1) call.Return (answer.Returned Unasked Unasked Unasked Unasked 0 0)
    ∷ entry (Worker 1) call.Detach answer.Done
    ∷ entry (Client 1) call.Finish answer.Done
    ∷ []

ended_is_legal : IsLegal (limits 1 1) 65536 ended
unfolding limits environ entry closing stalled ended create_group_plan create_event_plan create_plan submit_work_plan attach_plan take_plan begin_acquire_plan begin_close_plan end_plan set_event_plan return_plan detach_plan finish_plan
ended_is_legal = (refl, (refl, (refl, (refl, (refl, (refl, (refl, (refl, (refl, (refl, (refl, (refl, (refl, (refl, (refl, tt)))))))))))))))

-- what is owed is two waits, a notice, a callback, a worker and a client; then a wait less, and no more once all but the
-- notice has come
owed_before : owed (after (limits 1 1) closing) ≡ 6
unfolding limits environ entry closing create_group_plan create_event_plan create_plan submit_work_plan attach_plan take_plan begin_acquire_plan begin_close_plan end_plan set_event_plan return_plan detach_plan finish_plan
owed_before = refl

owed_then : owed (after (limits 1 1) stalled) ≡ 5
unfolding limits environ entry closing stalled create_group_plan create_event_plan create_plan submit_work_plan attach_plan take_plan begin_acquire_plan begin_close_plan end_plan set_event_plan return_plan detach_plan finish_plan
owed_then = refl

owed_for_ever : owed (after (limits 1 1) ended) ≡ 1
unfolding limits environ entry closing stalled ended create_group_plan create_event_plan create_plan submit_work_plan attach_plan take_plan begin_acquire_plan begin_close_plan end_plan set_event_plan return_plan detach_plan finish_plan
owed_for_ever = refl

-- behind a stall a worker may join a pool and a call may be refused. Of what is behind an exhausted wait the law says nothing
worker_joins : list_all moves_only (before_the_end
    (entry (Worker 2) call.Attach (answer.Attached (record { 0 = 0 }))
    ∷ entry (Worker 1) call.Return (answer.Refused refusal.InWait)
    ∷ entry (Worker 1) call.End answer.Exhausted
    ∷ entry (Worker 1) call.Return (answer.Returned Unasked Unasked Unasked Unasked 0 0)
    ∷ [])) ≡ true
unfolding entry
worker_joins = refl

-- a worker that takes a callback breaks the law, and so does a wait that ends freely
worker_takes : list_all moves_only (before_the_end
    (entry (Worker 2) call.Attach (answer.Attached (record { 0 = 0 }))
    ∷ entry (Worker 2) call.Take (answer.Taken 2 (record { 0 = 2 }) (record { 0 = 2 }) 0 Plain)
    ∷ entry (Worker 1) call.End answer.Stalled
    ∷ [])) ≡ false
unfolding entry
worker_takes = refl

wait_ends : list_all moves_only (before_the_end (entry (Worker 1) call.End answer.Ended ∷ [])) ≡ false
unfolding entry
wait_ends = refl
