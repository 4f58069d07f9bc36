-- What small programs come to, by computation alone.
use Rattle.std.proofs.Common.{◌≡◌, ℕ, [], ◌∷◌, false, true, None, Some, refl}
use Rattle.tp_base.specs.declared.answers.Answer.{Answer}
use Rattle.tp_base.specs.declared.answers.Answer.TheVariants as answer
use Rattle.tp_base.specs.declared.answers.Outcome.TheVariants.{Done}
use Rattle.tp_base.specs.declared.answers.Refusal.TheVariants.{NotWaitable}
use Rattle.tp_base.specs.declared.answers.SlotWord.TheVariants.{Unasked}
use Rattle.tp_base.specs.declared.answers.TakeResult.TheVariants.{Plain, WaitObject0}
use Rattle.tp_base.specs.declared.calls.Call.TheVariants.{Advance, Attach, CreateEvent, CreateLock, Return, SetEvent, Take}
use Rattle.tp_base.specs.declared.calls.Lock.TheVariants.{Mutex}
use Rattle.tp_base.specs.declared.ids.KernelId.{KernelId}
use Rattle.tp_base.specs.declared.ids.RoutineId.{RoutineId}
use Rattle.tp_base.specs.declared.ids.Who.TheVariants.{Client, Worker}
use Rattle.tp_base.specs.declared.limits.Limits.{Limits}
use Rattle.tp_model.specs.Calls.Groups.{begin_close_plan, create_group_plan}
use Rattle.tp_model.specs.Calls.Kernels.{create_event_plan, create_lock_plan, set_event_plan}
use Rattle.tp_model.specs.Calls.Objects.{close_object_plan, create_plan}
use Rattle.tp_model.specs.Calls.Timers.{advance_plan, is_timer_set_plan, set_timer_plan}
use Rattle.tp_model.specs.Calls.WaitObjects.{set_wait_plan}
use Rattle.tp_model.specs.Calls.Work.{submit_simple_plan}
use Rattle.tp_model.specs.Calls.Workers.{attach_plan, return_plan, take_plan}
use Rattle.tp_legacy.specs.Legacy.{legacy_play, object_id, opening}
use Rattle.tp_legacy.specs.declared.LegacyAnswer.{LegacyAnswer}
use Rattle.tp_legacy.specs.declared.LegacyAnswer.TheVariants as told
use Rattle.tp_legacy.specs.declared.LegacyCall.TheVariants.{QueueItem, Register, Unregister, CreateQueue, CreateTimer, ChangeTimer, DeleteTimer, DeleteQueue, Pool}
use Rattle.tp_legacy.specs.declared.LegacyRefusal.TheVariants.{NoSuch, OtherQueue, Released}

limits : Limits
limits = record { clients = 1; workers = 1; pools = 1; groups = 2; objects = 4; kernels = 2; slots = 8 }

routine : ℕ → RoutineId
routine number = record { 0 = number }

kernel : ℕ → KernelId
kernel number = record { 0 = number }

came_to : Answer → LegacyAnswer
came_to a = told.Pool (Done a)

returned : LegacyAnswer
returned = came_to (answer.Returned Unasked Unasked Unasked Unasked 0 0)

-- an item is called once, and a repeated registration each time that its event is set, until it ends
a_registration_is_repeated : legacy_play (opening limits 100) (
    (Client 1, QueueItem (routine 1) 5 false)
    ∷ (Client 1, Pool (CreateEvent false false))
    ∷ (Client 1, Register (kernel 1) (routine 2) 0 None false)
    ∷ (Client 1, Pool (SetEvent (kernel 1)))
    ∷ (Worker 1, Pool Attach)
    ∷ (Worker 1, Pool Take)
    ∷ (Worker 1, Pool Return)
    ∷ (Worker 1, Pool Take)
    ∷ (Client 1, Pool (SetEvent (kernel 1)))
    ∷ (Client 1, Unregister 1)
    ∷ (Client 1, Unregister 1)
    ∷ [])
    ≡ came_to (answer.Queued 1 1)
    ∷ came_to (answer.Made 1)
    ∷ told.Registered 1
    ∷ came_to (answer.Queued 2 1)
    ∷ came_to (answer.Attached (record { 0 = 0 }))
    ∷ came_to (answer.Taken 1 (object_id 0) (routine 1) 5 Plain)
    ∷ returned
    ∷ came_to (answer.Taken 2 (object_id 1) (routine 2) 0 WaitObject0)
    ∷ came_to (answer.Queued 3 1)
    ∷ came_to (answer.Closed true)
    ∷ told.Refused Released
    ∷ []
unfolding limits routine kernel came_to returned submit_simple_plan create_event_plan create_plan set_wait_plan set_event_plan attach_plan take_plan return_plan close_object_plan
a_registration_is_repeated = refl

-- timers of queues
timers_are_of_queues : legacy_play (opening limits 100) (
    (Client 1, CreateQueue)
    ∷ (Client 1, CreateTimer 1 (routine 1) 0 5 0)
    ∷ (Client 1, ChangeTimer 1 1 10 0)
    ∷ (Client 1, Pool (Advance 99999))
    ∷ (Client 1, Pool (Advance 1))
    ∷ (Client 1, ChangeTimer 1 1 10 0)
    ∷ (Client 1, CreateTimer 2 (routine 1) 0 5 0)
    ∷ (Client 1, CreateQueue)
    ∷ (Client 1, DeleteTimer 2 1)
    ∷ (Client 1, DeleteQueue 1)
    ∷ (Client 1, CreateTimer 1 (routine 1) 0 5 0)
    ∷ (Client 1, ChangeTimer 1 1 10 0)
    ∷ [])
    ≡ told.Queue 1
    ∷ told.Timer 1
    ∷ told.Changed true
    ∷ came_to (answer.Advanced 99999 0 0)
    ∷ came_to (answer.Advanced 100000 1 1)
    ∷ told.Changed false
    ∷ told.Refused NoSuch
    ∷ told.Queue 2
    ∷ told.Refused OtherQueue
    ∷ came_to (answer.Closing 1 0 0)
    ∷ told.Refused Released
    ∷ told.Refused Released
    ∷ []
unfolding limits routine kernel came_to create_group_plan create_plan set_timer_plan is_timer_set_plan advance_plan begin_close_plan
timers_are_of_queues = refl

-- what can't be waited for isn't registered: its object is closed again. A call that may cost more than there is room for
-- isn't made at all
nothing_is_half_made : legacy_play (opening limits 7) (
    (Client 1, Pool (CreateLock Mutex false))
    ∷ (Client 1, Register (kernel 1) (routine 1) 0 (Some 5) true)
    ∷ (Worker 1, Pool Take)
    ∷ (Client 1, Register (kernel 1) (routine 1) 0 (Some 5) true)
    ∷ (Client 1, Unregister 1)
    ∷ [])
    ≡ came_to (answer.Made 1)
    ∷ came_to (answer.Refused NotWaitable)
    ∷ told.Full 2 3
    ∷ told.Full 2 3
    ∷ told.Refused NoSuch
    ∷ []
unfolding limits routine kernel came_to create_lock_plan create_plan set_wait_plan close_object_plan
nothing_is_half_made = refl
