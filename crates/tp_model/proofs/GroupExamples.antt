-- Cleanup groups in small plays, by computation alone.
use Rattle.std.proofs.Common.{◌≡◌, [], ◌∷◌, refl, true, false, Some}
use Rattle.std.specs.Prelude.{negsuc}
use Rattle.tp_base.specs.declared.ids.Who.TheVariants.{Client, Worker}
use Rattle.tp_base.specs.declared.calls.Priority.TheVariants.{Normal}
use Rattle.tp_base.specs.declared.calls.Kind.TheVariants.{Work, Timer, Wait, Io}
use Rattle.tp_base.specs.declared.answers.SlotWord.TheVariants.{Unasked}
use Rattle.tp_base.specs.declared.calls.Call.TheVariants as call
use Rattle.tp_base.specs.declared.calls.Environ.{Environ}
use Rattle.tp_base.specs.declared.answers.Outcome.TheVariants as outcome
use Rattle.tp_base.specs.declared.answers.Look.TheVariants as look
use Rattle.tp_base.specs.declared.answers.Answer.TheVariants as answer
use Rattle.tp_base.specs.declared.answers.TakeResult.TheVariants.{Plain}
use Rattle.tp_base.specs.declared.answers.Refusal.TheVariants as refusal
use Rattle.tp_base.specs.declared.limits.Limits.{Limits}
use Rattle.tp_model.specs.Calls.Groups.{create_group_plan, close_group_plan, begin_close_plan}
use Rattle.tp_model.specs.Calls.Objects.{create_plan, close_object_plan}
use Rattle.tp_model.specs.Calls.Work.{submit_work_plan, submit_simple_plan}
use Rattle.tp_model.specs.Calls.Io.{start_io_plan, issue_io_plan, cancel_io_plan, complete_io_plan}
use Rattle.tp_model.specs.Calls.Workers.{attach_plan, take_plan, return_plan}
use Rattle.tp_model.specs.Calls.Waits.{begin_wait_plan}
use Rattle.tp_model.specs.Calls.End.{end_plan}
use Rattle.tp_model.specs.Calls.InCallback.{disassociate_plan}
use Rattle.tp_model.specs.Calls.Kernels.{create_event_plan, set_event_plan}
use Rattle.tp_model.specs.Calls.Timers.{set_timer_plan, advance_plan}
use Rattle.tp_model.specs.Calls.WaitObjects.{set_wait_plan}
use Rattle.tp_model.specs.Calls.Clients.{finish_plan}
use Rattle.tp_model.specs.History.{play}

limits : Limits
limits = record { clients = 3; workers = 4; pools = 64; groups = 255; objects = 4095; kernels = 1024; slots = 8192 }

plain : Environ
plain = record { pool = record { 0 = 0 }; group = record { 0 = 0 }; cancel = record { 0 = 0 }; priority = Normal; long = false; persistent = false }

-- a callback that was disassociated is waited for by a close of its group, and by no wait for its object
disassociated : play limits 65536
    (((Client 1), call.CreateGroup)
    ∷ ((Client 1), (call.Create Work (record { 0 = 1 }) 0 (record { pool = record { 0 = 0 }; group = record { 0 = 1 }; cancel = record { 0 = 2 }; priority = Normal; long = false; persistent = false })))
    ∷ ((Client 1), (call.SubmitWork (record { 0 = 1 })))
    ∷ ((Worker 1), call.Attach)
    ∷ ((Worker 1), call.Take)
    ∷ ((Client 1), (call.BeginWait Work (record { 0 = 1 }) false))
    ∷ ((Worker 1), call.Disassociate)
    ∷ ((Client 1), call.End)
    ∷ ((Client 1), (call.BeginClose (record { 0 = 1 }) false 0))
    ∷ ((Client 1), call.End)
    ∷ ((Worker 1), call.Return)
    ∷ ((Client 1), call.End) ∷ [])
    ≡ outcome.Done (answer.Made 1)
    ∷ outcome.Done (answer.Made 1)
    ∷ outcome.Done (answer.Queued 1 1)
    ∷ outcome.Done (answer.Attached (record { 0 = 0 }))
    ∷ outcome.Done (answer.Taken 1 (record { 0 = 1 }) (record { 0 = 1 }) 0 Plain)
    ∷ outcome.Done (answer.Begun 1 0)
    ∷ outcome.Done answer.Done
    ∷ outcome.Done answer.Ended
    ∷ outcome.Done (answer.Closing 1 0 0)
    ∷ outcome.Look (look.NotYet 1)
    ∷ outcome.Done (answer.Returned Unasked Unasked Unasked Unasked 0 0)
    ∷ outcome.Done answer.Ended ∷ []
unfolding limits plain create_group_plan create_plan submit_work_plan attach_plan take_plan begin_wait_plan disassociate_plan end_plan begin_close_plan return_plan
disassociated = refl

-- a close with cancel cancels what is pending, and gives a notice of each member, also of one that runs nothing, once nothing that it covers is outstanding
with_cancel : play limits 65536
    (((Client 1), call.CreateGroup)
    ∷ ((Client 1), (call.Create Work (record { 0 = 1 }) 11 (record { pool = record { 0 = 0 }; group = record { 0 = 1 }; cancel = record { 0 = 9 }; priority = Normal; long = false; persistent = false })))
    ∷ ((Client 1), (call.Create Work (record { 0 = 1 }) 12 (record { pool = record { 0 = 0 }; group = record { 0 = 1 }; cancel = record { 0 = 9 }; priority = Normal; long = false; persistent = false })))
    ∷ ((Client 1), (call.Create Work (record { 0 = 1 }) 13 (record { pool = record { 0 = 0 }; group = record { 0 = 1 }; cancel = record { 0 = 9 }; priority = Normal; long = false; persistent = false })))
    ∷ ((Client 1), (call.SubmitWork (record { 0 = 1 })))
    ∷ ((Worker 1), call.Attach)
    ∷ ((Worker 1), call.Take)
    ∷ ((Client 1), (call.SubmitWork (record { 0 = 2 })))
    ∷ ((Client 1), (call.CloseObject Work (record { 0 = 3 })))
    ∷ ((Client 1), (call.BeginClose (record { 0 = 1 }) true 5))
    ∷ ((Client 1), call.End)
    ∷ ((Worker 1), call.Return)
    ∷ ((Client 1), call.End)
    ∷ ((Client 1), call.End)
    ∷ ((Client 1), call.End)
    ∷ ((Client 1), (call.SubmitWork (record { 0 = 1 })))
    ∷ ((Client 1), (call.CloseGroup (record { 0 = 1 }))) ∷ [])
    ≡ outcome.Done (answer.Made 1)
    ∷ outcome.Done (answer.Made 1)
    ∷ outcome.Done (answer.Made 2)
    ∷ outcome.Done (answer.Made 3)
    ∷ outcome.Done (answer.Queued 1 1)
    ∷ outcome.Done (answer.Attached (record { 0 = 0 }))
    ∷ outcome.Done (answer.Taken 1 (record { 0 = 1 }) (record { 0 = 1 }) 11 Plain)
    ∷ outcome.Done (answer.Queued 2 1)
    ∷ outcome.Done (answer.Closed false)
    ∷ outcome.Done (answer.Closing 1 1 2)
    ∷ outcome.Look (look.NotYet 1)
    ∷ outcome.Done (answer.Returned Unasked Unasked Unasked Unasked 0 0)
    ∷ outcome.Done (answer.Notice (record { 0 = 1 }) (record { 0 = 9 }) 11 5)
    ∷ outcome.Done (answer.Notice (record { 0 = 2 }) (record { 0 = 9 }) 12 5)
    ∷ outcome.Done answer.Ended
    ∷ outcome.Done (answer.Refused refusal.Released)
    ∷ outcome.Done answer.Done ∷ []
unfolding limits plain create_group_plan create_plan submit_work_plan attach_plan take_plan close_object_plan begin_close_plan end_plan return_plan close_group_plan
with_cancel = refl

-- of two closes at once the second finds no member, and waits for the same callbacks; neither is for what is made later
two_closers : play limits 65536
    (((Client 1), call.CreateGroup)
    ∷ ((Client 1), (call.Create Work (record { 0 = 1 }) 1 (record { pool = record { 0 = 0 }; group = record { 0 = 1 }; cancel = record { 0 = 9 }; priority = Normal; long = false; persistent = false })))
    ∷ ((Client 1), (call.Create Work (record { 0 = 1 }) 2 (record { pool = record { 0 = 0 }; group = record { 0 = 1 }; cancel = record { 0 = 9 }; priority = Normal; long = false; persistent = false })))
    ∷ ((Client 1), (call.SubmitWork (record { 0 = 1 })))
    ∷ ((Worker 1), call.Attach)
    ∷ ((Worker 1), call.Take)
    ∷ ((Client 1), (call.CloseObject Work (record { 0 = 1 })))
    ∷ ((Client 1), (call.BeginClose (record { 0 = 1 }) true 1))
    ∷ ((Client 2), (call.BeginClose (record { 0 = 1 }) true 2))
    ∷ ((Client 3), (call.Create Work (record { 0 = 1 }) 3 (record { pool = record { 0 = 0 }; group = record { 0 = 1 }; cancel = record { 0 = 9 }; priority = Normal; long = false; persistent = false })))
    ∷ ((Client 2), call.End)
    ∷ ((Worker 1), call.Return)
    ∷ ((Client 2), call.End)
    ∷ ((Client 1), call.End)
    ∷ ((Client 1), call.End)
    ∷ ((Client 3), (call.CloseGroup (record { 0 = 1 }))) ∷ [])
    ≡ outcome.Done (answer.Made 1)
    ∷ outcome.Done (answer.Made 1)
    ∷ outcome.Done (answer.Made 2)
    ∷ outcome.Done (answer.Queued 1 1)
    ∷ outcome.Done (answer.Attached (record { 0 = 0 }))
    ∷ outcome.Done (answer.Taken 1 (record { 0 = 1 }) (record { 0 = 1 }) 1 Plain)
    ∷ outcome.Done (answer.Closed true)
    ∷ outcome.Done (answer.Closing 1 0 1)
    ∷ outcome.Done (answer.Closing 1 0 0)
    ∷ outcome.Done (answer.Made 3)
    ∷ outcome.Look (look.NotYet 1)
    ∷ outcome.Done (answer.Returned Unasked Unasked Unasked Unasked 0 0)
    ∷ outcome.Done answer.Ended
    ∷ outcome.Done (answer.Notice (record { 0 = 2 }) (record { 0 = 9 }) 2 1)
    ∷ outcome.Done answer.Ended
    ∷ outcome.Done (answer.Refused (refusal.HasMembers (record { 0 = 3 }))) ∷ []
unfolding limits plain create_group_plan create_plan submit_work_plan attach_plan take_plan close_object_plan begin_close_plan end_plan return_plan close_group_plan
two_closers = refl

-- a group that has a member is not closed, and a closed one gets none
a_member : play limits 65536
    (((Client 1), call.CreateGroup)
    ∷ ((Client 1), (call.Create Timer (record { 0 = 1 }) 0 (record { pool = record { 0 = 0 }; group = record { 0 = 1 }; cancel = record { 0 = 0 }; priority = Normal; long = false; persistent = false })))
    ∷ ((Client 1), (call.CloseGroup (record { 0 = 1 })))
    ∷ ((Client 1), (call.CloseObject Timer (record { 0 = 1 })))
    ∷ ((Client 1), (call.CloseGroup (record { 0 = 1 })))
    ∷ ((Client 1), (call.Create Work (record { 0 = 1 }) 0 (record { pool = record { 0 = 0 }; group = record { 0 = 1 }; cancel = record { 0 = 0 }; priority = Normal; long = false; persistent = false }))) ∷ [])
    ≡ outcome.Done (answer.Made 1)
    ∷ outcome.Done (answer.Made 1)
    ∷ outcome.Done (answer.Refused (refusal.HasMembers (record { 0 = 1 })))
    ∷ outcome.Done (answer.Closed false)
    ∷ outcome.Done answer.Done
    ∷ outcome.Done (answer.Refused refusal.GroupClosed) ∷ []
unfolding limits plain create_group_plan create_plan close_group_plan close_object_plan
a_member = refl

-- a simple callback of a group is a member as long as it is outstanding, and gets no notice
simple : play limits 65536
    (((Client 1), call.CreateGroup)
    ∷ ((Client 1), (call.SubmitSimple (record { 0 = 4 }) 8 (record { pool = record { 0 = 0 }; group = record { 0 = 1 }; cancel = record { 0 = 2 }; priority = Normal; long = false; persistent = false })))
    ∷ ((Client 1), (call.CloseGroup (record { 0 = 1 })))
    ∷ ((Client 1), (call.BeginClose (record { 0 = 1 }) true 0))
    ∷ ((Client 1), call.End)
    ∷ ((Client 1), (call.CloseGroup (record { 0 = 1 }))) ∷ [])
    ≡ outcome.Done (answer.Made 1)
    ∷ outcome.Done (answer.Queued 1 1)
    ∷ outcome.Done (answer.Refused (refusal.HasMembers (record { 0 = 0 })))
    ∷ outcome.Done (answer.Closing 0 1 0)
    ∷ outcome.Done answer.Ended
    ∷ outcome.Done answer.Done ∷ []
unfolding limits plain create_group_plan submit_simple_plan close_group_plan begin_close_plan end_plan
simple = refl

-- a callback does not close its own group, disassociated or not
own_group : play limits 65536
    (((Client 1), call.CreateGroup)
    ∷ ((Client 1), (call.Create Work (record { 0 = 1 }) 0 (record { pool = record { 0 = 0 }; group = record { 0 = 1 }; cancel = record { 0 = 0 }; priority = Normal; long = false; persistent = false })))
    ∷ ((Client 1), (call.SubmitWork (record { 0 = 1 })))
    ∷ ((Worker 1), call.Attach)
    ∷ ((Worker 1), call.Take)
    ∷ ((Worker 1), (call.BeginClose (record { 0 = 1 }) false 0))
    ∷ ((Worker 1), call.Disassociate)
    ∷ ((Worker 1), (call.BeginClose (record { 0 = 1 }) false 0))
    ∷ ((Worker 1), (call.CloseGroup (record { 0 = 1 })))
    ∷ ((Client 1), (call.BeginClose (record { 0 = 2 }) false 0))
    ∷ ((Client 1), (call.BeginClose (record { 0 = 0 }) false 0)) ∷ [])
    ≡ outcome.Done (answer.Made 1)
    ∷ outcome.Done (answer.Made 1)
    ∷ outcome.Done (answer.Queued 1 1)
    ∷ outcome.Done (answer.Attached (record { 0 = 0 }))
    ∷ outcome.Done (answer.Taken 1 (record { 0 = 1 }) (record { 0 = 1 }) 0 Plain)
    ∷ outcome.Done (answer.Refused refusal.OwnCallback)
    ∷ outcome.Done answer.Done
    ∷ outcome.Done (answer.Refused refusal.OwnCallback)
    ∷ outcome.Done (answer.Refused (refusal.HasMembers (record { 0 = 1 })))
    ∷ outcome.Done (answer.Refused refusal.NoSuch)
    ∷ outcome.Done (answer.Refused refusal.NoSuch) ∷ []
unfolding limits plain create_group_plan create_plan submit_work_plan attach_plan take_plan begin_close_plan disassociate_plan close_group_plan
own_group = refl

-- a close without cancel leaves what is pending, covers it, and gives no notice; a member that was closed before is covered too
kept : play limits 65536
    (((Client 1), call.CreateGroup)
    ∷ ((Client 1), (call.Create Work (record { 0 = 1 }) 1 (record { pool = record { 0 = 0 }; group = record { 0 = 1 }; cancel = record { 0 = 9 }; priority = Normal; long = false; persistent = false })))
    ∷ ((Client 1), (call.Create Work (record { 0 = 2 }) 2 (record { pool = record { 0 = 0 }; group = record { 0 = 1 }; cancel = record { 0 = 9 }; priority = Normal; long = false; persistent = false })))
    ∷ ((Client 1), (call.SubmitWork (record { 0 = 1 })))
    ∷ ((Client 1), (call.SubmitWork (record { 0 = 2 })))
    ∷ ((Client 1), (call.CloseObject Work (record { 0 = 2 })))
    ∷ ((Client 1), (call.BeginClose (record { 0 = 1 }) false 0))
    ∷ ((Client 1), call.End)
    ∷ ((Worker 1), call.Attach)
    ∷ ((Worker 1), call.Take)
    ∷ ((Worker 1), call.Return)
    ∷ ((Worker 1), call.Take)
    ∷ ((Worker 1), call.Return)
    ∷ ((Client 1), call.End) ∷ [])
    ≡ outcome.Done (answer.Made 1)
    ∷ outcome.Done (answer.Made 1)
    ∷ outcome.Done (answer.Made 2)
    ∷ outcome.Done (answer.Queued 1 1)
    ∷ outcome.Done (answer.Queued 2 1)
    ∷ outcome.Done (answer.Closed true)
    ∷ outcome.Done (answer.Closing 2 0 0)
    ∷ outcome.Look (look.NotYet 1)
    ∷ outcome.Done (answer.Attached (record { 0 = 0 }))
    ∷ outcome.Done (answer.Taken 1 (record { 0 = 1 }) (record { 0 = 1 }) 1 Plain)
    ∷ outcome.Done (answer.Returned Unasked Unasked Unasked Unasked 0 0)
    ∷ outcome.Done (answer.Taken 2 (record { 0 = 2 }) (record { 0 = 2 }) 2 Plain)
    ∷ outcome.Done (answer.Returned Unasked Unasked Unasked Unasked 0 0)
    ∷ outcome.Done answer.Ended ∷ []
unfolding limits plain create_group_plan create_plan submit_work_plan close_object_plan begin_close_plan end_plan attach_plan take_plan return_plan
kept = refl

-- a close unsets timers and disarms waits
sources : play limits 65536
    (((Client 1), call.CreateGroup)
    ∷ ((Client 1), (call.Create Timer (record { 0 = 1 }) 1 (record { pool = record { 0 = 0 }; group = record { 0 = 1 }; cancel = record { 0 = 0 }; priority = Normal; long = false; persistent = false })))
    ∷ ((Client 1), (call.Create Wait (record { 0 = 2 }) 2 (record { pool = record { 0 = 0 }; group = record { 0 = 1 }; cancel = record { 0 = 3 }; priority = Normal; long = false; persistent = false })))
    ∷ ((Client 1), (call.CreateEvent false false))
    ∷ ((Client 1), (call.SetTimer (record { 0 = 1 }) (Some (negsuc 99)) 0 0))
    ∷ ((Client 1), (call.SetWait (record { 0 = 2 }) (Some (record { 0 = 1 })) (Some (negsuc 99))))
    ∷ ((Client 1), (call.BeginClose (record { 0 = 1 }) true 7))
    ∷ ((Client 1), call.End)
    ∷ ((Client 1), call.End)
    ∷ ((Client 1), (call.SetEvent (record { 0 = 1 })))
    ∷ ((Client 1), (call.Advance 200)) ∷ [])
    ≡ outcome.Done (answer.Made 1)
    ∷ outcome.Done (answer.Made 1)
    ∷ outcome.Done (answer.Made 2)
    ∷ outcome.Done (answer.Made 1)
    ∷ outcome.Done (answer.Queued 0 0)
    ∷ outcome.Done (answer.Queued 0 0)
    ∷ outcome.Done (answer.Closing 0 0 1)
    ∷ outcome.Done (answer.Notice (record { 0 = 2 }) (record { 0 = 3 }) 2 7)
    ∷ outcome.Done answer.Ended
    ∷ outcome.Done (answer.Queued 0 0)
    ∷ outcome.Done (answer.Advanced 200 0 0) ∷ []
unfolding limits plain create_group_plan create_plan create_event_plan set_timer_plan set_wait_plan begin_close_plan end_plan set_event_plan advance_plan
sources = refl

-- a member with an operation under way is not closed with its group; the least such is named
operations : play limits 65536
    (((Client 1), call.CreateGroup)
    ∷ ((Client 1), (call.Create Work (record { 0 = 1 }) 0 (record { pool = record { 0 = 0 }; group = record { 0 = 1 }; cancel = record { 0 = 0 }; priority = Normal; long = false; persistent = false })))
    ∷ ((Client 1), (call.Create Io (record { 0 = 1 }) 0 (record { pool = record { 0 = 0 }; group = record { 0 = 1 }; cancel = record { 0 = 4 }; priority = Normal; long = false; persistent = false })))
    ∷ ((Client 1), (call.Create Io (record { 0 = 1 }) 5 (record { pool = record { 0 = 0 }; group = record { 0 = 1 }; cancel = record { 0 = 4 }; priority = Normal; long = false; persistent = false })))
    ∷ ((Client 1), (call.StartIo (record { 0 = 3 })))
    ∷ ((Client 1), (call.StartIo (record { 0 = 2 })))
    ∷ ((Client 1), (call.BeginClose (record { 0 = 1 }) true 0))
    ∷ ((Client 1), (call.CancelIo (record { 0 = 2 })))
    ∷ ((Client 1), (call.BeginClose (record { 0 = 1 }) true 0))
    ∷ ((Client 1), (call.IssueIo (record { 0 = 3 })))
    ∷ ((Client 1), (call.CompleteIo 1 0 4))
    ∷ ((Client 1), (call.BeginClose (record { 0 = 1 }) true 0))
    ∷ ((Client 1), call.End)
    ∷ ((Client 1), call.End)
    ∷ ((Client 1), call.End) ∷ [])
    ≡ outcome.Done (answer.Made 1)
    ∷ outcome.Done (answer.Made 1)
    ∷ outcome.Done (answer.Made 2)
    ∷ outcome.Done (answer.Made 3)
    ∷ outcome.Done (answer.Started 1)
    ∷ outcome.Done (answer.Started 2)
    ∷ outcome.Done (answer.Refused (refusal.OperationsOutstanding (record { 0 = 2 })))
    ∷ outcome.Done (answer.Cancelled 2)
    ∷ outcome.Done (answer.Refused (refusal.OperationsOutstanding (record { 0 = 3 })))
    ∷ outcome.Done (answer.Operation 1)
    ∷ outcome.Done (answer.Queued 1 1)
    ∷ outcome.Done (answer.Closing 0 1 2)
    ∷ outcome.Done (answer.Notice (record { 0 = 2 }) (record { 0 = 4 }) 0 0)
    ∷ outcome.Done (answer.Notice (record { 0 = 3 }) (record { 0 = 4 }) 5 0)
    ∷ outcome.Done answer.Ended ∷ []
unfolding limits plain create_group_plan create_plan start_io_plan begin_close_plan cancel_io_plan issue_io_plan complete_io_plan end_plan
operations = refl

-- a close asks for room for its notices
priced : play limits 9
    (((Client 1), call.CreateGroup)
    ∷ ((Client 1), (call.Create Work (record { 0 = 1 }) 0 (record { pool = record { 0 = 0 }; group = record { 0 = 1 }; cancel = record { 0 = 4 }; priority = Normal; long = false; persistent = false })))
    ∷ ((Client 1), (call.Create Work (record { 0 = 1 }) 0 (record { pool = record { 0 = 0 }; group = record { 0 = 1 }; cancel = record { 0 = 4 }; priority = Normal; long = false; persistent = false })))
    ∷ ((Client 1), (call.BeginClose (record { 0 = 1 }) true 0))
    ∷ ((Client 1), (call.CloseObject Work (record { 0 = 1 })))
    ∷ ((Client 1), (call.BeginClose (record { 0 = 1 }) true 0))
    ∷ ((Client 1), (call.CloseObject Work (record { 0 = 2 })))
    ∷ ((Client 1), (call.BeginClose (record { 0 = 1 }) true 0))
    ∷ ((Client 1), call.Finish) ∷ [])
    ≡ outcome.Done (answer.Made 1)
    ∷ outcome.Done (answer.Made 1)
    ∷ outcome.Done (answer.Made 2)
    ∷ outcome.Full 3 4
    ∷ outcome.Done (answer.Closed false)
    ∷ outcome.Full 2 3
    ∷ outcome.Done (answer.Closed false)
    ∷ outcome.Full 1 2
    ∷ outcome.Done answer.Done ∷ []
unfolding limits plain create_group_plan create_plan begin_close_plan close_object_plan finish_plan
priced = refl
