-- Armed waits in small plays, by computation alone; and histories that the law Armed refuses.
use Rattle.std.proofs.Common.{◌≡◌, ℕ, List, [], ◌∷◌, refl, true, false, None, Some}
use Rattle.std.specs.Prelude.{pos, negsuc}
use Rattle.tp_base.specs.declared.ids.Who.TheVariants.{Client, Worker}
use Rattle.tp_base.specs.declared.calls.Priority.TheVariants.{Normal}
use Rattle.tp_base.specs.declared.calls.Kind.TheVariants.{Work, Timer, Wait}
use Rattle.tp_base.specs.declared.calls.Lock.TheVariants as lock
use Rattle.tp_base.specs.declared.calls.Call.TheVariants as call
use Rattle.tp_base.specs.declared.calls.Environ.{Environ}
use Rattle.tp_base.specs.declared.answers.Entry.{Entry}
use Rattle.tp_base.specs.declared.answers.Outcome.TheVariants as outcome
use Rattle.tp_base.specs.declared.answers.Look.TheVariants as look
use Rattle.tp_base.specs.declared.answers.Answer.TheVariants as answer
use Rattle.tp_base.specs.declared.answers.TakeResult.TheVariants.{Plain, WaitObject0, WaitTimeout}
use Rattle.tp_base.specs.declared.answers.SlotWord.TheVariants.{Unasked}
use Rattle.tp_base.specs.declared.answers.Refusal.TheVariants as refusal
use Rattle.tp_base.specs.declared.limits.Limits.{Limits}
use Rattle.tp_model.specs.Calls.Objects.{create_plan, close_object_plan}
use Rattle.tp_model.specs.Calls.Timers.{set_timer_plan, advance_plan}
use Rattle.tp_model.specs.Calls.WaitObjects.{set_wait_plan}
use Rattle.tp_model.specs.Calls.Kernels.{create_event_plan, create_semaphore_plan, create_lock_plan, set_event_plan, reset_event_plan, release_semaphore_plan, release_lock_plan}
use Rattle.tp_model.specs.Calls.Work.{submit_work_plan}
use Rattle.tp_model.specs.Calls.Workers.{attach_plan, take_plan, return_plan}
use Rattle.tp_model.specs.Calls.Waits.{begin_acquire_plan, try_acquire_plan}
use Rattle.tp_model.specs.Calls.End.{end_plan}
use Rattle.tp_model.specs.History.{play, IsLegal}
use Rattle.tp_model.specs.Laws.Armed.{AreArmed}
use Rattle.tp_model.proofs.Laws.{keeps_laws}

limits : Limits
limits = record { clients = 2; workers = 4; pools = 64; groups = 255; objects = 4095; kernels = 1024; slots = 8192 }

plain : Environ
plain = record { pool = record { 0 = 0 }; group = record { 0 = 0 }; cancel = record { 0 = 0 }; priority = Normal; long = false; persistent = false }

two : Limits
unfolding limits
two = record limits { slots = 2 }

-- a wait takes an event that is signalled; the event is then reset, and a timeout of 0 expires at once
taken_at_once : play limits 65536
    (((Client 1), (call.CreateEvent false true))
    ∷ ((Client 1), (call.Create Wait (record { 0 = 1 }) 0 plain))
    ∷ ((Client 1), (call.SetWait (record { 0 = 1 }) (Some (record { 0 = 1 })) (Some (pos 0))))
    ∷ ((Client 1), (call.SetWait (record { 0 = 1 }) (Some (record { 0 = 1 })) (Some (pos 0))))
    ∷ ((Worker 1), (call.Attach))
    ∷ ((Worker 1), (call.Take))
    ∷ ((Worker 1), (call.Return))
    ∷ ((Worker 1), (call.Take)) ∷ [])
    ≡ outcome.Done (answer.Made 1)
    ∷ outcome.Done (answer.Made 1)
    ∷ outcome.Done (answer.Queued 1 1)
    ∷ outcome.Done (answer.Queued 2 1)
    ∷ outcome.Done (answer.Attached (record { 0 = 0 }))
    ∷ outcome.Done (answer.Taken 1 (record { 0 = 1 }) (record { 0 = 1 }) 0 WaitObject0)
    ∷ outcome.Done (answer.Returned Unasked Unasked Unasked Unasked 0 0)
    ∷ outcome.Done (answer.Taken 2 (record { 0 = 1 }) (record { 0 = 1 }) 0 WaitTimeout) ∷ []
unfolding limits plain create_plan set_wait_plan create_event_plan attach_plan take_plan return_plan
taken_at_once = refl

-- an event releases the wait that was armed first, and with none armed stays signalled until an actor takes it
earliest_first : play limits 65536
    (((Client 1), (call.CreateEvent false false))
    ∷ ((Client 1), (call.Create Wait (record { 0 = 1 }) 0 plain))
    ∷ ((Client 1), (call.Create Wait (record { 0 = 2 }) 0 plain))
    ∷ ((Client 1), (call.SetWait (record { 0 = 2 }) (Some (record { 0 = 1 })) None))
    ∷ ((Client 1), (call.SetWait (record { 0 = 1 }) (Some (record { 0 = 1 })) None))
    ∷ ((Client 1), (call.SetEvent (record { 0 = 1 })))
    ∷ ((Worker 1), (call.Attach))
    ∷ ((Worker 1), (call.Take))
    ∷ ((Client 1), (call.SetEvent (record { 0 = 1 })))
    ∷ ((Client 1), (call.SetEvent (record { 0 = 1 })))
    ∷ ((Client 1), (call.BeginAcquire (record { 0 = 1 })))
    ∷ ((Client 1), (call.End))
    ∷ ((Client 1), (call.BeginAcquire (record { 0 = 1 })))
    ∷ ((Client 1), (call.End)) ∷ [])
    ≡ outcome.Done (answer.Made 1)
    ∷ outcome.Done (answer.Made 1)
    ∷ outcome.Done (answer.Made 2)
    ∷ outcome.Done (answer.Queued 0 0)
    ∷ outcome.Done (answer.Queued 0 0)
    ∷ outcome.Done (answer.Queued 1 1)
    ∷ outcome.Done (answer.Attached (record { 0 = 0 }))
    ∷ outcome.Done (answer.Taken 1 (record { 0 = 2 }) (record { 0 = 2 }) 0 WaitObject0)
    ∷ outcome.Done (answer.Queued 2 1)
    ∷ outcome.Done (answer.Queued 0 0)
    ∷ outcome.Done answer.Done
    ∷ outcome.Done answer.Ended
    ∷ outcome.Done answer.Done
    ∷ outcome.Look (look.NotYetKernel (record { 0 = 1 })) ∷ []
unfolding limits plain create_plan set_wait_plan create_event_plan set_event_plan attach_plan take_plan begin_acquire_plan end_plan
earliest_first = refl

-- whoever asks for a kernel object without a wait takes it, if that can be at once, and begins no wait
asked_without_a_wait : play limits 65536
    (((Client 1), (call.CreateEvent false true))
    ∷ ((Client 1), (call.TryAcquire (record { 0 = 1 })))
    ∷ ((Client 1), (call.TryAcquire (record { 0 = 1 })))
    ∷ ((Client 1), (call.End))
    ∷ ((Client 1), (call.CreateLock lock.Mutex false))
    ∷ ((Client 1), (call.TryAcquire (record { 0 = 2 })))
    ∷ ((Client 2), (call.TryAcquire (record { 0 = 2 })))
    ∷ ((Client 1), (call.TryAcquire (record { 0 = 2 })))
    ∷ ((Client 1), (call.ReleaseLock lock.Mutex (record { 0 = 2 })))
    ∷ ((Client 2), (call.TryAcquire (record { 0 = 2 })))
    ∷ ((Client 1), (call.ReleaseLock lock.Mutex (record { 0 = 2 })))
    ∷ ((Client 2), (call.TryAcquire (record { 0 = 2 })))
    ∷ ((Client 1), (call.CreateEvent true true))
    ∷ ((Client 1), (call.TryAcquire (record { 0 = 3 })))
    ∷ ((Client 1), (call.TryAcquire (record { 0 = 3 })))
    ∷ ((Client 1), (call.TryAcquire (record { 0 = 9 }))) ∷ [])
    ≡ outcome.Done (answer.Made 1)
    ∷ outcome.Done (answer.Flag true)
    ∷ outcome.Done (answer.Flag false)
    ∷ outcome.Done (answer.Refused refusal.NoWaitBegun)
    ∷ outcome.Done (answer.Made 2)
    ∷ outcome.Done (answer.Flag true)
    ∷ outcome.Done (answer.Flag false)
    ∷ outcome.Done (answer.Flag true)
    ∷ outcome.Done answer.Done
    ∷ outcome.Done (answer.Flag false)
    ∷ outcome.Done answer.Done
    ∷ outcome.Done (answer.Flag true)
    ∷ outcome.Done (answer.Made 3)
    ∷ outcome.Done (answer.Flag true)
    ∷ outcome.Done (answer.Flag true)
    ∷ outcome.Done (answer.Refused refusal.NoSuch) ∷ []
unfolding limits create_event_plan create_lock_plan release_lock_plan try_acquire_plan end_plan
asked_without_a_wait = refl

-- a manual event releases every wait that is armed on it, in order of arming, and stays signalled
manual_event : play limits 65536
    (((Client 1), (call.CreateEvent true false))
    ∷ ((Client 1), (call.Create Wait (record { 0 = 1 }) 0 plain))
    ∷ ((Client 1), (call.Create Wait (record { 0 = 2 }) 0 plain))
    ∷ ((Client 1), (call.Create Wait (record { 0 = 3 }) 0 plain))
    ∷ ((Client 1), (call.SetWait (record { 0 = 3 }) (Some (record { 0 = 1 })) None))
    ∷ ((Client 1), (call.SetWait (record { 0 = 1 }) (Some (record { 0 = 1 })) None))
    ∷ ((Client 1), (call.SetWait (record { 0 = 2 }) (Some (record { 0 = 1 })) None))
    ∷ ((Client 1), (call.SetWait (record { 0 = 3 }) (Some (record { 0 = 1 })) None))
    ∷ ((Client 1), (call.SetEvent (record { 0 = 1 })))
    ∷ ((Client 1), (call.SetWait (record { 0 = 2 }) (Some (record { 0 = 1 })) None))
    ∷ ((Worker 1), (call.Attach))
    ∷ ((Worker 1), (call.Take))
    ∷ ((Worker 1), (call.Return))
    ∷ ((Worker 1), (call.Take))
    ∷ ((Worker 1), (call.Return))
    ∷ ((Worker 1), (call.Take)) ∷ [])
    ≡ outcome.Done (answer.Made 1)
    ∷ outcome.Done (answer.Made 1)
    ∷ outcome.Done (answer.Made 2)
    ∷ outcome.Done (answer.Made 3)
    ∷ outcome.Done (answer.Queued 0 0)
    ∷ outcome.Done (answer.Queued 0 0)
    ∷ outcome.Done (answer.Queued 0 0)
    ∷ outcome.Done (answer.Queued 0 0)
    ∷ outcome.Done (answer.Queued 1 3)
    ∷ outcome.Done (answer.Queued 4 1)
    ∷ outcome.Done (answer.Attached (record { 0 = 0 }))
    ∷ outcome.Done (answer.Taken 1 (record { 0 = 1 }) (record { 0 = 1 }) 0 WaitObject0)
    ∷ outcome.Done (answer.Returned Unasked Unasked Unasked Unasked 0 0)
    ∷ outcome.Done (answer.Taken 2 (record { 0 = 2 }) (record { 0 = 2 }) 0 WaitObject0)
    ∷ outcome.Done (answer.Returned Unasked Unasked Unasked Unasked 0 0)
    ∷ outcome.Done (answer.Taken 3 (record { 0 = 3 }) (record { 0 = 3 }) 0 WaitObject0) ∷ []
unfolding limits plain create_plan set_wait_plan create_event_plan set_event_plan attach_plan take_plan return_plan
manual_event = refl

-- a semaphore releases as many as its count allows
semaphore : play limits 65536
    (((Client 1), (call.CreateSemaphore 0 5))
    ∷ ((Client 1), (call.Create Wait (record { 0 = 1 }) 0 plain))
    ∷ ((Client 1), (call.Create Wait (record { 0 = 2 }) 0 plain))
    ∷ ((Client 1), (call.Create Wait (record { 0 = 3 }) 0 plain))
    ∷ ((Client 1), (call.SetWait (record { 0 = 1 }) (Some (record { 0 = 1 })) None))
    ∷ ((Client 1), (call.SetWait (record { 0 = 2 }) (Some (record { 0 = 1 })) None))
    ∷ ((Client 1), (call.SetWait (record { 0 = 3 }) (Some (record { 0 = 1 })) None))
    ∷ ((Client 1), (call.ReleaseSemaphore (record { 0 = 1 }) 2))
    ∷ ((Client 1), (call.ReleaseSemaphore (record { 0 = 1 }) 6))
    ∷ ((Client 1), (call.ReleaseSemaphore (record { 0 = 1 }) 4))
    ∷ ((Client 1), (call.SetWait (record { 0 = 1 }) (Some (record { 0 = 1 })) None))
    ∷ ((Client 1), (call.SetWait (record { 0 = 2 }) (Some (record { 0 = 1 })) None))
    ∷ ((Client 1), (call.ReleaseSemaphore (record { 0 = 1 }) 3)) ∷ [])
    ≡ outcome.Done (answer.Made 1)
    ∷ outcome.Done (answer.Made 1)
    ∷ outcome.Done (answer.Made 2)
    ∷ outcome.Done (answer.Made 3)
    ∷ outcome.Done (answer.Queued 0 0)
    ∷ outcome.Done (answer.Queued 0 0)
    ∷ outcome.Done (answer.Queued 0 0)
    ∷ outcome.Done (answer.Count 0 1 2)
    ∷ outcome.Done (answer.Refused (refusal.OverMaximum 0))
    ∷ outcome.Done (answer.Count 0 3 1)
    ∷ outcome.Done (answer.Queued 4 1)
    ∷ outcome.Done (answer.Queued 5 1)
    ∷ outcome.Done (answer.Count 1 0 0) ∷ []
unfolding limits plain create_plan set_wait_plan create_semaphore_plan release_semaphore_plan
semaphore = refl

-- timeouts and timers expire in one order, by due time and then by object number; what expired is armed no longer
one_order : play limits 65536
    (((Client 1), (call.CreateEvent false false))
    ∷ ((Client 1), (call.Create Wait (record { 0 = 1 }) 0 plain))
    ∷ ((Client 1), (call.Create Timer (record { 0 = 2 }) 0 plain))
    ∷ ((Client 1), (call.Create Wait (record { 0 = 3 }) 0 plain))
    ∷ ((Client 1), (call.Create Timer (record { 0 = 4 }) 0 plain))
    ∷ ((Client 1), (call.SetWait (record { 0 = 3 }) (Some (record { 0 = 1 })) (Some (negsuc 9))))
    ∷ ((Client 1), (call.SetTimer (record { 0 = 2 }) (Some (negsuc 9)) 0 0))
    ∷ ((Client 1), (call.SetWait (record { 0 = 1 }) (Some (record { 0 = 1 })) (Some (negsuc 4))))
    ∷ ((Client 1), (call.SetTimer (record { 0 = 4 }) (Some (negsuc 3)) 1 0))
    ∷ ((Client 1), (call.Advance 10))
    ∷ ((Client 1), (call.SetEvent (record { 0 = 1 })))
    ∷ ((Worker 1), (call.Attach))
    ∷ ((Worker 1), (call.Take))
    ∷ ((Worker 1), (call.Return))
    ∷ ((Worker 1), (call.Take))
    ∷ ((Worker 1), (call.Return))
    ∷ ((Worker 1), (call.Take))
    ∷ ((Worker 1), (call.Return))
    ∷ ((Worker 1), (call.Take)) ∷ [])
    ≡ outcome.Done (answer.Made 1)
    ∷ outcome.Done (answer.Made 1)
    ∷ outcome.Done (answer.Made 2)
    ∷ outcome.Done (answer.Made 3)
    ∷ outcome.Done (answer.Made 4)
    ∷ outcome.Done (answer.Queued 0 0)
    ∷ outcome.Done (answer.Queued 0 0)
    ∷ outcome.Done (answer.Queued 0 0)
    ∷ outcome.Done (answer.Queued 0 0)
    ∷ outcome.Done (answer.Advanced 10 1 4)
    ∷ outcome.Done (answer.Queued 0 0)
    ∷ outcome.Done (answer.Attached (record { 0 = 0 }))
    ∷ outcome.Done (answer.Taken 1 (record { 0 = 4 }) (record { 0 = 4 }) 0 Plain)
    ∷ outcome.Done (answer.Returned Unasked Unasked Unasked Unasked 0 0)
    ∷ outcome.Done (answer.Taken 2 (record { 0 = 1 }) (record { 0 = 1 }) 0 WaitTimeout)
    ∷ outcome.Done (answer.Returned Unasked Unasked Unasked Unasked 0 0)
    ∷ outcome.Done (answer.Taken 3 (record { 0 = 2 }) (record { 0 = 2 }) 0 Plain)
    ∷ outcome.Done (answer.Returned Unasked Unasked Unasked Unasked 0 0)
    ∷ outcome.Done (answer.Taken 4 (record { 0 = 3 }) (record { 0 = 3 }) 0 WaitTimeout) ∷ []
unfolding limits plain create_plan set_timer_plan advance_plan set_wait_plan create_event_plan set_event_plan attach_plan take_plan return_plan
one_order = refl

-- what an event releases does not time out
released_in_time : play limits 65536
    (((Client 1), (call.CreateEvent false false))
    ∷ ((Client 1), (call.Create Wait (record { 0 = 1 }) 0 plain))
    ∷ ((Client 1), (call.SetWait (record { 0 = 1 }) (Some (record { 0 = 1 })) (Some (pos 10))))
    ∷ ((Client 1), (call.SetEvent (record { 0 = 1 })))
    ∷ ((Client 1), (call.Advance 20))
    ∷ ((Worker 1), (call.Attach))
    ∷ ((Worker 1), (call.Take)) ∷ [])
    ≡ outcome.Done (answer.Made 1)
    ∷ outcome.Done (answer.Made 1)
    ∷ outcome.Done (answer.Queued 0 0)
    ∷ outcome.Done (answer.Queued 1 1)
    ∷ outcome.Done (answer.Advanced 20 0 0)
    ∷ outcome.Done (answer.Attached (record { 0 = 0 }))
    ∷ outcome.Done (answer.Taken 1 (record { 0 = 1 }) (record { 0 = 1 }) 0 WaitObject0) ∷ []
unfolding limits plain create_plan advance_plan set_wait_plan create_event_plan set_event_plan attach_plan take_plan
released_in_time = refl

-- a wait that is set anew is armed last, with the new timeout; and one that is set on no kernel object, or closed, is disarmed
set_anew : play limits 65536
    (((Client 1), (call.CreateEvent false false))
    ∷ ((Client 1), (call.Create Wait (record { 0 = 1 }) 0 plain))
    ∷ ((Client 1), (call.Create Wait (record { 0 = 2 }) 0 plain))
    ∷ ((Client 1), (call.SetWait (record { 0 = 1 }) (Some (record { 0 = 1 })) (Some (negsuc 4))))
    ∷ ((Client 1), (call.SetWait (record { 0 = 2 }) (Some (record { 0 = 1 })) None))
    ∷ ((Client 1), (call.SetWait (record { 0 = 1 }) (Some (record { 0 = 1 })) (Some (negsuc 19))))
    ∷ ((Client 1), (call.Advance 5))
    ∷ ((Client 1), (call.SetEvent (record { 0 = 1 })))
    ∷ ((Worker 1), (call.Attach))
    ∷ ((Worker 1), (call.Take))
    ∷ ((Client 1), (call.SetWait (record { 0 = 1 }) None (Some (pos 0))))
    ∷ ((Client 1), (call.Advance 100))
    ∷ ((Client 1), (call.SetEvent (record { 0 = 1 })))
    ∷ ((Client 1), (call.ResetEvent (record { 0 = 1 })))
    ∷ ((Client 1), (call.SetWait (record { 0 = 2 }) (Some (record { 0 = 1 })) (Some (negsuc 0))))
    ∷ ((Client 1), (call.CloseObject Wait (record { 0 = 2 })))
    ∷ ((Client 1), (call.Advance 1))
    ∷ ((Client 1), (call.SetEvent (record { 0 = 1 }))) ∷ [])
    ≡ outcome.Done (answer.Made 1)
    ∷ outcome.Done (answer.Made 1)
    ∷ outcome.Done (answer.Made 2)
    ∷ outcome.Done (answer.Queued 0 0)
    ∷ outcome.Done (answer.Queued 0 0)
    ∷ outcome.Done (answer.Queued 0 0)
    ∷ outcome.Done (answer.Advanced 5 0 0)
    ∷ outcome.Done (answer.Queued 1 1)
    ∷ outcome.Done (answer.Attached (record { 0 = 0 }))
    ∷ outcome.Done (answer.Taken 1 (record { 0 = 2 }) (record { 0 = 2 }) 0 WaitObject0)
    ∷ outcome.Done (answer.Queued 0 0)
    ∷ outcome.Done (answer.Advanced 105 0 0)
    ∷ outcome.Done (answer.Queued 0 0)
    ∷ outcome.Done answer.Done
    ∷ outcome.Done (answer.Queued 0 0)
    ∷ outcome.Done (answer.Closed true)
    ∷ outcome.Done (answer.Advanced 106 0 0)
    ∷ outcome.Done (answer.Queued 0 0) ∷ []
unfolding limits plain create_plan close_object_plan advance_plan set_wait_plan create_event_plan set_event_plan reset_event_plan attach_plan take_plan
set_anew = refl

-- what is refused, in this order
refused : play limits 65536
    (((Client 1), (call.Create Timer (record { 0 = 1 }) 0 plain))
    ∷ ((Client 1), (call.Create Wait (record { 0 = 2 }) 0 plain))
    ∷ ((Client 1), (call.CreateLock lock.Mutex false))
    ∷ ((Client 1), (call.SetWait (record { 0 = 1 }) (Some (record { 0 = 7 })) None))
    ∷ ((Client 1), (call.SetWait (record { 0 = 9 }) None None))
    ∷ ((Client 1), (call.SetWait (record { 0 = 1 }) (Some (record { 0 = 1 })) None))
    ∷ ((Worker 1), (call.SetWait (record { 0 = 2 }) (Some (record { 0 = 1 })) None))
    ∷ ((Client 1), (call.SetWait (record { 0 = 2 }) (Some (record { 0 = 1 })) None))
    ∷ ((Client 1), (call.CloseObject Wait (record { 0 = 2 })))
    ∷ ((Client 1), (call.SetWait (record { 0 = 2 }) (Some (record { 0 = 1 })) None))
    ∷ ((Worker 9), (call.SetWait (record { 0 = 2 }) (Some (record { 0 = 1 })) None)) ∷ [])
    ≡ outcome.Done (answer.Made 1)
    ∷ outcome.Done (answer.Made 2)
    ∷ outcome.Done (answer.Made 1)
    ∷ outcome.Done (answer.Refused refusal.NoSuch)
    ∷ outcome.Done (answer.Refused refusal.NoSuch)
    ∷ outcome.Done (answer.Refused refusal.WrongKind)
    ∷ outcome.Done (answer.Refused refusal.NotRunning)
    ∷ outcome.Done (answer.Refused refusal.NotWaitable)
    ∷ outcome.Done (answer.Closed false)
    ∷ outcome.Done (answer.Refused refusal.Released)
    ∷ outcome.Done (answer.Refused refusal.NoSuch) ∷ []
unfolding limits plain create_plan close_object_plan set_wait_plan create_lock_plan
refused = refl

-- an armed wait has the slot of its callback: there are two of them
two_slots : play two 65536
    (((Client 1), (call.CreateEvent false false))
    ∷ ((Client 1), (call.Create Work (record { 0 = 1 }) 0 plain))
    ∷ ((Client 1), (call.Create Wait (record { 0 = 2 }) 0 plain))
    ∷ ((Client 1), (call.Create Wait (record { 0 = 3 }) 0 plain))
    ∷ ((Client 1), (call.Create Timer (record { 0 = 4 }) 0 plain))
    ∷ ((Client 1), (call.SetWait (record { 0 = 2 }) (Some (record { 0 = 1 })) (Some (negsuc 4))))
    ∷ ((Client 1), (call.SetWait (record { 0 = 3 }) (Some (record { 0 = 1 })) None))
    ∷ ((Client 1), (call.SubmitWork (record { 0 = 1 })))
    ∷ ((Client 1), (call.SetWait (record { 0 = 2 }) (Some (record { 0 = 1 })) (Some (negsuc 4))))
    ∷ ((Client 1), (call.SetTimer (record { 0 = 4 }) (Some (negsuc 4)) 0 0))
    ∷ ((Client 1), (call.Advance 5))
    ∷ ((Client 1), (call.SetTimer (record { 0 = 4 }) None 0 0))
    ∷ ((Client 1), (call.Advance 5))
    ∷ ((Client 1), (call.SubmitWork (record { 0 = 1 })))
    ∷ ((Client 1), (call.SetWait (record { 0 = 3 }) None None))
    ∷ ((Client 1), (call.SubmitWork (record { 0 = 1 })))
    ∷ ((Client 1), (call.SetWait (record { 0 = 3 }) (Some (record { 0 = 1 })) None))
    ∷ ((Client 1), (call.SetWait (record { 0 = 2 }) None (Some (pos 0)))) ∷ [])
    ≡ outcome.Done (answer.Made 1)
    ∷ outcome.Done (answer.Made 1)
    ∷ outcome.Done (answer.Made 2)
    ∷ outcome.Done (answer.Made 3)
    ∷ outcome.Done (answer.Made 4)
    ∷ outcome.Done (answer.Queued 0 0)
    ∷ outcome.Done (answer.Queued 0 0)
    ∷ outcome.Done (answer.Refused refusal.CallbackLimit)
    ∷ outcome.Done (answer.Queued 0 0)
    ∷ outcome.Done (answer.Queued 0 0)
    ∷ outcome.Done (answer.Refused refusal.CallbackLimit)
    ∷ outcome.Done (answer.Queued 0 0)
    ∷ outcome.Done (answer.Advanced 5 1 1)
    ∷ outcome.Done (answer.Refused refusal.CallbackLimit)
    ∷ outcome.Done (answer.Queued 0 0)
    ∷ outcome.Done (answer.Queued 2 1)
    ∷ outcome.Done (answer.Refused refusal.CallbackLimit)
    ∷ outcome.Done (answer.Queued 0 0) ∷ []
unfolding limits two plain create_plan set_timer_plan advance_plan set_wait_plan create_event_plan submit_work_plan
two_slots = refl

-- ---- the law Armed

made : Entry
made = record { who = Client 1; call = call.Create Wait (record { 0 = 1 }) 0 plain; answer = answer.Made 1 }

event : Entry
event = record { who = Client 1; call = call.CreateEvent false false; answer = answer.Made 1 }

armed : Entry
armed = record { who = Client 1; call = call.SetWait (record { 0 = 1 }) (Some (record { 0 = 1 })) None; answer = answer.Queued 0 0 }

disarmed : Entry
disarmed = record { who = Client 1; call = call.SetWait (record { 0 = 1 }) None None; answer = answer.Queued 0 0 }

signalled : ℕ → Entry
signalled n = record { who = Client 1; call = call.SetEvent (record { 0 = 1 }); answer = answer.Queued n 1 }

attached : Entry
attached = record { who = Worker 1; call = call.Attach; answer = answer.Attached (record { 0 = 0 }) }

takes : ℕ → Entry
takes n = record { who = Worker 1; call = call.Take; answer = answer.Taken n (record { 0 = 1 }) (record { 0 = 1 }) 0 WaitObject0 }

returns : Entry
returns = record { who = Worker 1; call = call.Return; answer = answer.Returned Unasked Unasked Unasked Unasked 0 0 }

-- two callbacks, each of a SetWait of its own
kept : List Entry
kept = made ∷ event ∷ armed ∷ signalled 1 ∷ armed ∷ signalled 2 ∷ attached ∷ takes 1 ∷ returns ∷ takes 2 ∷ []

legal : IsLegal limits 65536 kept
unfolding limits plain kept made event armed signalled attached takes returns create_plan create_event_plan set_wait_plan set_event_plan attach_plan take_plan return_plan
legal = (refl, (refl, (refl, (refl, (refl, (refl, (refl, (refl, (refl, (refl, tt))))))))))

keeps : AreArmed kept
keeps = (keeps_laws limits 65536 kept legal).armed

-- two callbacks of one SetWait
armed_once : AreArmed (made ∷ event ∷ armed ∷ signalled 1 ∷ signalled 2 ∷ attached ∷ takes 1 ∷ returns ∷ takes 2 ∷ []) → ◌≡◌ {A = ℕ} 1 2
unfolding plain made event armed signalled attached takes returns
armed_once law =
    law.apart 1 2 (record { 0 = 1 }) refl
    (record { before = made ∷ event ∷ armed ∷ signalled 1 ∷ signalled 2 ∷ attached ∷ []; entry = takes 1; later = returns ∷ takes 2 ∷ []; place = refl; takes = refl })
    (record { before = made ∷ event ∷ armed ∷ signalled 1 ∷ signalled 2 ∷ attached ∷ takes 1 ∷ returns ∷ []; entry = takes 2; later = []; place = refl; takes = refl })
    (record { before = made ∷ event ∷ armed ∷ []; entry = signalled 1; later = signalled 2 ∷ attached ∷ takes 1 ∷ returns ∷ takes 2 ∷ []; place = refl; makes = refl })
    (record { before = made ∷ event ∷ armed ∷ signalled 1 ∷ []; entry = signalled 2; later = attached ∷ takes 1 ∷ returns ∷ takes 2 ∷ []; place = refl; makes = refl }) refl

-- one that is made after the wait was disarmed
made_disarmed : AreArmed (made ∷ event ∷ armed ∷ disarmed ∷ signalled 1 ∷ attached ∷ takes 1 ∷ []) → false ≡ true
unfolding plain made event armed disarmed signalled attached takes
made_disarmed law =
    law.named 1 (record { 0 = 1 }) refl
    (record { before = made ∷ event ∷ armed ∷ disarmed ∷ signalled 1 ∷ attached ∷ []; entry = takes 1; later = []; place = refl; takes = refl })
    (record { before = made ∷ event ∷ armed ∷ disarmed ∷ []; entry = signalled 1; later = attached ∷ takes 1 ∷ []; place = refl; makes = refl })

-- and one that is made before the wait is armed
made_unarmed : AreArmed (made ∷ event ∷ signalled 1 ∷ armed ∷ attached ∷ takes 1 ∷ []) → false ≡ true
unfolding plain made event armed signalled attached takes
made_unarmed law =
    law.named 1 (record { 0 = 1 }) refl
    (record { before = made ∷ event ∷ signalled 1 ∷ armed ∷ attached ∷ []; entry = takes 1; later = []; place = refl; takes = refl })
    (record { before = made ∷ event ∷ []; entry = signalled 1; later = armed ∷ attached ∷ takes 1 ∷ []; place = refl; makes = refl })
