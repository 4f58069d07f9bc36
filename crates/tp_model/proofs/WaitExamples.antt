-- Waits, simple callbacks and closing in small plays, by computation alone; and histories that the law Covered refuses.
use Rattle.std.proofs.Common.{◌≡◌, ℕ, Bool, [], ◌∷◌, refl, true, false}
use Rattle.tp_base.specs.declared.ids.Who.TheVariants.{Client, Worker}
use Rattle.tp_base.specs.declared.calls.Priority.TheVariants.{High, Normal}
use Rattle.tp_base.specs.declared.calls.Kind.TheVariants.{Work}
use Rattle.tp_base.specs.declared.calls.Call.TheVariants as call
use Rattle.tp_base.specs.declared.answers.Outcome.TheVariants as outcome
use Rattle.tp_base.specs.declared.answers.Answer.TheVariants as answer
use Rattle.tp_base.specs.declared.answers.Look.TheVariants as look
use Rattle.tp_base.specs.declared.answers.TakeResult.TheVariants.{Plain}
use Rattle.tp_base.specs.declared.answers.SlotWord.TheVariants.{Unasked}
use Rattle.tp_base.specs.declared.answers.Refusal.TheVariants as refusal
use Rattle.tp_base.specs.declared.calls.Environ.{Environ}
use Rattle.tp_base.specs.declared.answers.Entry.{Entry}
use Rattle.tp_base.specs.declared.limits.Limits.{Limits}
use Rattle.tp_model.specs.Laws.Covered.{AreCovered}
use Rattle.tp_model.specs.Calls.Objects.{create_plan, close_object_plan}
use Rattle.tp_model.specs.Calls.Work.{submit_work_plan, submit_simple_plan}
use Rattle.tp_model.specs.Calls.Workers.{attach_plan, detach_plan, take_plan, return_plan}
use Rattle.tp_model.specs.Calls.InCallback.{may_run_long_plan, disassociate_plan}
use Rattle.tp_model.specs.Calls.Waits.{begin_wait_plan}
use Rattle.tp_model.specs.Calls.End.{end_plan}
use Rattle.tp_model.specs.Calls.Clients.{finish_plan}
use Rattle.tp_model.specs.History.{play}
use Rattle.tp_base.specs.declared.rows.WaitTarget.TheVariants.{Object}

limits : Limits
limits = record { clients = 2; workers = 4; pools = 64; groups = 255; objects = 4095; kernels = 1024; slots = 8192 }

-- a wait with cancel covers the two callbacks that run, and cancels the one that waits
wait_with_cancel : play limits 65536
    (((Client 1), (call.Create Work (record { 0 = 1 }) 0 (record { pool = record { 0 = 0 }; group = record { 0 = 0 }; cancel = record { 0 = 0 }; priority = Normal; long = false; persistent = false })))
    ∷ ((Client 1), (call.SubmitWork (record { 0 = 1 })))
    ∷ ((Client 1), (call.SubmitWork (record { 0 = 1 })))
    ∷ ((Client 1), (call.SubmitWork (record { 0 = 1 })))
    ∷ ((Worker 1), call.Attach)
    ∷ ((Worker 1), call.Take)
    ∷ ((Worker 2), call.Attach)
    ∷ ((Worker 2), call.Take)
    ∷ ((Client 1), (call.BeginWait Work (record { 0 = 1 }) true))
    ∷ ((Client 1), call.End)
    ∷ ((Worker 1), call.Return)
    ∷ ((Client 1), call.End)
    ∷ ((Worker 2), call.Return)
    ∷ ((Client 1), call.End)
    ∷ ((Worker 1), call.Take) ∷ [])
    ≡ outcome.Done (answer.Made 1)
    ∷ outcome.Done (answer.Queued 1 1)
    ∷ outcome.Done (answer.Queued 2 1)
    ∷ outcome.Done (answer.Queued 3 1)
    ∷ outcome.Done (answer.Attached (record { 0 = 0 }))
    ∷ outcome.Done (answer.Taken 1 (record { 0 = 1 }) (record { 0 = 1 }) 0 Plain)
    ∷ outcome.Done (answer.Attached (record { 0 = 0 }))
    ∷ outcome.Done (answer.Taken 2 (record { 0 = 1 }) (record { 0 = 1 }) 0 Plain)
    ∷ outcome.Done (answer.Begun 2 1)
    ∷ outcome.Look (look.NotYet 1)
    ∷ outcome.Done (answer.Returned Unasked Unasked Unasked Unasked 0 0)
    ∷ outcome.Look (look.NotYet 2)
    ∷ outcome.Done (answer.Returned Unasked Unasked Unasked Unasked 0 0)
    ∷ outcome.Done answer.Ended
    ∷ outcome.Look look.Empty ∷ []
unfolding limits create_plan close_object_plan submit_work_plan submit_simple_plan attach_plan detach_plan take_plan return_plan may_run_long_plan disassociate_plan begin_wait_plan end_plan finish_plan
wait_with_cancel = refl

-- what is submitted after the wait began is not waited for
later_submit : play limits 65536
    (((Client 1), (call.Create Work (record { 0 = 1 }) 0 (record { pool = record { 0 = 0 }; group = record { 0 = 0 }; cancel = record { 0 = 0 }; priority = Normal; long = false; persistent = false })))
    ∷ ((Client 1), (call.SubmitWork (record { 0 = 1 })))
    ∷ ((Worker 1), call.Attach)
    ∷ ((Worker 1), call.Take)
    ∷ ((Client 1), (call.BeginWait Work (record { 0 = 1 }) false))
    ∷ ((Client 2), (call.SubmitWork (record { 0 = 1 })))
    ∷ ((Worker 1), call.Return)
    ∷ ((Client 1), call.End)
    ∷ ((Worker 1), call.Take) ∷ [])
    ≡ outcome.Done (answer.Made 1)
    ∷ outcome.Done (answer.Queued 1 1)
    ∷ outcome.Done (answer.Attached (record { 0 = 0 }))
    ∷ outcome.Done (answer.Taken 1 (record { 0 = 1 }) (record { 0 = 1 }) 0 Plain)
    ∷ outcome.Done (answer.Begun 1 0)
    ∷ outcome.Done (answer.Queued 2 1)
    ∷ outcome.Done (answer.Returned Unasked Unasked Unasked Unasked 0 0)
    ∷ outcome.Done answer.Ended
    ∷ outcome.Done (answer.Taken 2 (record { 0 = 1 }) (record { 0 = 1 }) 0 Plain) ∷ []
unfolding limits create_plan close_object_plan submit_work_plan submit_simple_plan attach_plan detach_plan take_plan return_plan may_run_long_plan disassociate_plan begin_wait_plan end_plan finish_plan
later_submit = refl

-- a callback waits for its own object only where it was disassociated from it
own_object : play limits 65536
    (((Client 1), (call.Create Work (record { 0 = 1 }) 0 (record { pool = record { 0 = 0 }; group = record { 0 = 0 }; cancel = record { 0 = 0 }; priority = Normal; long = false; persistent = false })))
    ∷ ((Client 1), (call.SubmitWork (record { 0 = 1 })))
    ∷ ((Worker 1), call.Attach)
    ∷ ((Worker 1), call.Take)
    ∷ ((Worker 1), (call.BeginWait Work (record { 0 = 1 }) false))
    ∷ ((Worker 1), call.Disassociate)
    ∷ ((Worker 1), (call.BeginWait Work (record { 0 = 1 }) false))
    ∷ ((Worker 1), call.Return)
    ∷ ((Worker 1), call.Take)
    ∷ ((Worker 1), call.End)
    ∷ ((Worker 1), call.End)
    ∷ ((Worker 1), call.Finish)
    ∷ ((Worker 5), call.Take)
    ∷ ((Client 1), call.Attach)
    ∷ ((Client 1), call.Finish)
    ∷ ((Client 1), (call.SubmitWork (record { 0 = 1 }))) ∷ [])
    ≡ outcome.Done (answer.Made 1)
    ∷ outcome.Done (answer.Queued 1 1)
    ∷ outcome.Done (answer.Attached (record { 0 = 0 }))
    ∷ outcome.Done (answer.Taken 1 (record { 0 = 1 }) (record { 0 = 1 }) 0 Plain)
    ∷ outcome.Done (answer.Refused refusal.OwnCallback)
    ∷ outcome.Done answer.Done
    ∷ outcome.Done (answer.Begun 0 0)
    ∷ outcome.Done (answer.Refused refusal.InWait)
    ∷ outcome.Done (answer.Refused refusal.StillRunning)
    ∷ outcome.Done answer.Ended
    ∷ outcome.Done (answer.Refused refusal.NoWaitBegun)
    ∷ outcome.Done (answer.Refused refusal.WrongKind)
    ∷ outcome.Done (answer.Refused refusal.NoSuch)
    ∷ outcome.Done (answer.Refused refusal.NotWorker)
    ∷ outcome.Done answer.Done
    ∷ outcome.Done (answer.Refused refusal.Released) ∷ []
unfolding limits create_plan close_object_plan submit_work_plan submit_simple_plan attach_plan detach_plan take_plan return_plan may_run_long_plan disassociate_plan begin_wait_plan end_plan finish_plan
own_object = refl

-- where the history has no room for a pending callback to be run, the wait ends without it
without_room : play limits 8
    (((Client 1), (call.Create Work (record { 0 = 1 }) 0 (record { pool = record { 0 = 0 }; group = record { 0 = 0 }; cancel = record { 0 = 0 }; priority = Normal; long = false; persistent = false })))
    ∷ ((Client 1), (call.SubmitWork (record { 0 = 1 })))
    ∷ ((Client 1), (call.BeginWait Work (record { 0 = 1 }) false))
    ∷ ((Client 1), call.End)
    ∷ ((Client 1), call.End) ∷ [])
    ≡ outcome.Done (answer.Made 1)
    ∷ outcome.Done (answer.Queued 1 1)
    ∷ outcome.Done (answer.Begun 1 0)
    ∷ outcome.Done answer.Exhausted
    ∷ outcome.Done (answer.Refused refusal.NoWaitBegun) ∷ []
unfolding limits create_plan close_object_plan submit_work_plan submit_simple_plan attach_plan detach_plan take_plan return_plan may_run_long_plan disassociate_plan begin_wait_plan end_plan finish_plan
without_room = refl

with_room : play limits 10
    (((Client 1), (call.Create Work (record { 0 = 1 }) 0 (record { pool = record { 0 = 0 }; group = record { 0 = 0 }; cancel = record { 0 = 0 }; priority = Normal; long = false; persistent = false })))
    ∷ ((Client 1), (call.SubmitWork (record { 0 = 1 })))
    ∷ ((Client 1), (call.BeginWait Work (record { 0 = 1 }) false))
    ∷ ((Client 1), call.End) ∷ [])
    ≡ outcome.Done (answer.Made 1)
    ∷ outcome.Done (answer.Queued 1 1)
    ∷ outcome.Done (answer.Begun 1 0)
    ∷ outcome.Look (look.NotYet 1) ∷ []
unfolding limits create_plan close_object_plan submit_work_plan submit_simple_plan attach_plan detach_plan take_plan return_plan may_run_long_plan disassociate_plan begin_wait_plan end_plan finish_plan
with_room = refl

-- a closed object takes no call, and what is pending still runs; a simple callback has object 0
closing : play limits 65536
    (((Client 1), (call.Create Work (record { 0 = 1 }) 0 (record { pool = record { 0 = 0 }; group = record { 0 = 0 }; cancel = record { 0 = 0 }; priority = Normal; long = false; persistent = false })))
    ∷ ((Client 1), (call.SubmitWork (record { 0 = 1 })))
    ∷ ((Client 1), (call.CloseObject Work (record { 0 = 1 })))
    ∷ ((Client 1), (call.SubmitWork (record { 0 = 1 })))
    ∷ ((Client 1), (call.BeginWait Work (record { 0 = 1 }) false))
    ∷ ((Worker 1), call.Attach)
    ∷ ((Worker 1), call.Take)
    ∷ ((Client 2), (call.SubmitSimple (record { 0 = 2 }) 3 (record { pool = record { 0 = 0 }; group = record { 0 = 0 }; cancel = record { 0 = 0 }; priority = High; long = false; persistent = false })))
    ∷ ((Worker 1), call.Return)
    ∷ ((Worker 1), call.Take) ∷ [])
    ≡ outcome.Done (answer.Made 1)
    ∷ outcome.Done (answer.Queued 1 1)
    ∷ outcome.Done (answer.Closed true)
    ∷ outcome.Done (answer.Refused refusal.Released)
    ∷ outcome.Done (answer.Refused refusal.Released)
    ∷ outcome.Done (answer.Attached (record { 0 = 0 }))
    ∷ outcome.Done (answer.Taken 1 (record { 0 = 1 }) (record { 0 = 1 }) 0 Plain)
    ∷ outcome.Done (answer.Queued 2 1)
    ∷ outcome.Done (answer.Returned Unasked Unasked Unasked Unasked 0 0)
    ∷ outcome.Done (answer.Taken 2 (record { 0 = 0 }) (record { 0 = 2 }) 3 Plain) ∷ []
unfolding limits create_plan close_object_plan submit_work_plan submit_simple_plan attach_plan detach_plan take_plan return_plan may_run_long_plan disassociate_plan begin_wait_plan end_plan finish_plan
closing = refl

-- ---- the law Covered refuses

environ : Environ
environ = record { pool = record { 0 = 0 }; group = record { 0 = 0 }; cancel = record { 0 = 0 }; priority = Normal; long = false; persistent = false }

made : Entry
made = record { who = Client 1; call = call.Create Work (record { 0 = 1 }) 0 environ; answer = answer.Made 1 }

submitted : ℕ → Entry
submitted n = record { who = Client 1; call = call.SubmitWork (record { 0 = 1 }); answer = answer.Queued n 1 }

attached : Entry
attached = record { who = Worker 1; call = call.Attach; answer = answer.Attached (record { 0 = 0 }) }

takes : ℕ → Entry
takes n = record { who = Worker 1; call = call.Take; answer = answer.Taken n (record { 0 = 1 }) (record { 0 = 1 }) 0 Plain }

waits : Bool → Entry
waits cancel = record { who = Client 1; call = call.BeginWait Work (record { 0 = 1 }) cancel; answer = answer.Begun 1 0 }

ended : Entry
ended = record { who = Client 1; call = call.End; answer = answer.Ended }

-- a wait that ended while a callback that was made before it was pending, and is taken later
taken_later : AreCovered (made ∷ submitted 1 ∷ waits false ∷ ended ∷ attached ∷ takes 1 ∷ []) → true ≡ false
unfolding made submitted waits ended attached takes environ
taken_later law =
    (law.at_each (made ∷ submitted 1 ∷ []) [] (attached ∷ takes 1 ∷ []) (waits false) ended (record { target = Object (record { 0 = 1 }); cancel = false; cleanup = 0 }) refl refl refl refl refl refl).none_later
    (attached ∷ []) [] (takes 1) (record { number = 1; object = record { 0 = 1 } }) refl refl

-- one that ended while it runs
still_running : AreCovered (made ∷ submitted 1 ∷ attached ∷ takes 1 ∷ waits false ∷ ended ∷ []) → false ≡ true
unfolding made submitted waits ended attached takes environ
still_running law =
    (law.at_each (made ∷ submitted 1 ∷ attached ∷ takes 1 ∷ []) [] [] (waits false) ended (record { target = Object (record { 0 = 1 }); cancel = false; cleanup = 0 }) refl refl refl refl refl refl).let_go
    (made ∷ submitted 1 ∷ attached ∷ []) (waits false ∷ []) (takes 1) (record { number = 1; object = record { 0 = 1 } }) refl refl refl

-- and with cancel one that is taken while the wait goes on
taken_between : AreCovered (made ∷ submitted 1 ∷ attached ∷ waits true ∷ takes 1 ∷ ended ∷ []) → true ≡ false
unfolding made submitted waits ended attached takes environ
taken_between law =
    (law.at_each (made ∷ submitted 1 ∷ attached ∷ []) (takes 1 ∷ []) [] (waits true) ended (record { target = Object (record { 0 = 1 }); cancel = true; cleanup = 0 }) refl refl refl refl refl refl).none_between refl
    [] [] (takes 1) (record { number = 1; object = record { 0 = 1 } }) refl refl
