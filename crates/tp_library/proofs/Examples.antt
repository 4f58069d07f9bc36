-- What small programs come to, by computation alone.
use Rattle.std.proofs.Common.{◌≡◌, ℕ, [], ◌∷◌, false, true, refl}
use Rattle.tp_base.specs.declared.answers.Answer.{Answer}
use Rattle.tp_base.specs.declared.answers.Answer.TheVariants as answer
use Rattle.tp_base.specs.declared.answers.Outcome.TheVariants.{Done}
use Rattle.tp_base.specs.declared.answers.SlotWord.TheVariants.{Unasked}
use Rattle.tp_base.specs.declared.answers.TakeResult.TheVariants.{Plain}
use Rattle.tp_base.specs.declared.calls.Call.{Call}
use Rattle.tp_base.specs.declared.calls.Call.TheVariants.{Attach, CloseObject, Create, Return, SubmitSimple, SubmitWork, Take}
use Rattle.tp_base.specs.declared.calls.Environ.{Environ}
use Rattle.tp_base.specs.declared.calls.Kind.TheVariants.{Work}
use Rattle.tp_base.specs.declared.calls.Priority.TheVariants.{Normal}
use Rattle.tp_base.specs.declared.ids.Who.TheVariants.{Client, Worker}
use Rattle.tp_base.specs.declared.limits.Limits.{Limits}
use Rattle.tp_model.specs.Calls.Objects.{close_object_plan, create_plan}
use Rattle.tp_model.specs.Calls.Work.{submit_simple_plan, submit_work_plan}
use Rattle.tp_model.specs.Calls.Workers.{attach_plan, return_plan, take_plan}
use Rattle.tp_library.specs.Libraries.{opening, play_at}
use Rattle.tp_library.specs.declared.LibAnswer.{LibAnswer}
use Rattle.tp_library.specs.declared.LibAnswer.TheVariants as told
use Rattle.tp_library.specs.declared.LibCall.{LibCall}
use Rattle.tp_library.specs.declared.LibCall.TheVariants.{Free, FreeOnReturn, Load, Pool}
use Rattle.tp_library.specs.declared.LibraryId.{LibraryId}
use Rattle.tp_library.specs.declared.LibRefusal.TheVariants.{LibraryNotLoaded, NoLoadLeft, NotRunning, SlotTaken}

limits : Limits
limits = record { clients = 1; workers = 1; pools = 1; groups = 1; objects = 2; kernels = 0; slots = 8 }

environ : Environ
environ = record { pool = record { 0 = 0 }; group = record { 0 = 0 }; cancel = record { 0 = 0 }; priority = Normal; long = false; persistent = false }

library : ℕ → LibraryId
library number = record { 0 = number }

-- a call on what is there already
on : Call → LibCall
on call = Pool call (library 0)

came_to : Answer → LibAnswer
came_to answer = told.Pool (Done answer)

work : Call
work = Create Work (record { 0 = 1 }) 0 environ

simple : Call
simple = SubmitSimple (record { 0 = 1 }) 0 environ

-- the load of a library is freed while callbacks of it may run: it goes behind the last of them
goes_behind_its_last_callback : play_at (opening limits 100) (
    (Client 1, Load (library 1))
    ∷ (Client 1, Pool work (library 1))
    ∷ (Client 1, on (SubmitWork (record { 0 = 1 })))
    ∷ (Client 1, Free (library 1))
    ∷ (Client 1, Free (library 1))
    ∷ (Worker 1, on Attach)
    ∷ (Worker 1, on Take)
    ∷ (Client 1, on (CloseObject Work (record { 0 = 1 })))
    ∷ (Client 1, Pool simple (library 1))
    ∷ (Worker 1, on Return)
    ∷ (Worker 1, on Take)
    ∷ (Worker 1, on Return)
    ∷ (Client 1, Pool work (library 1))
    ∷ [])
    ≡ (told.Done, [])
    ∷ (came_to (answer.Made 1), [])
    ∷ (came_to (answer.Queued 1 1), [])
    ∷ (told.Done, [])
    ∷ (told.Refused NoLoadLeft, [])
    ∷ (came_to (answer.Attached (record { 0 = 0 })), [])
    ∷ (came_to (answer.Taken 1 (record { 0 = 1 }) (record { 0 = 1 }) 0 Plain), [])
    ∷ (came_to (answer.Closed true), [])
    ∷ (came_to (answer.Queued 2 1), [])
    ∷ (came_to (answer.Returned Unasked Unasked Unasked Unasked 0 0), [])
    ∷ (came_to (answer.Taken 2 (record { 0 = 0 }) (record { 0 = 1 }) 0 Plain), [])
    ∷ (came_to (answer.Returned Unasked Unasked Unasked Unasked 0 0), 1 ∷ [])
    ∷ (told.Refused LibraryNotLoaded, [])
    ∷ []
unfolding limits environ library on came_to work simple attach_plan close_object_plan create_plan return_plan submit_simple_plan submit_work_plan take_plan
goes_behind_its_last_callback = refl

-- a callback frees its own library at its return
freed_at_a_return : play_at (opening limits 100) (
    (Client 1, Load (library 2))
    ∷ (Client 1, Pool simple (library 2))
    ∷ (Worker 1, on Attach)
    ∷ (Worker 1, FreeOnReturn (library 2))
    ∷ (Worker 1, on Take)
    ∷ (Worker 1, FreeOnReturn (library 2))
    ∷ (Worker 1, FreeOnReturn (library 2))
    ∷ (Worker 1, on Return)
    ∷ [])
    ≡ (told.Done, [])
    ∷ (came_to (answer.Queued 1 1), [])
    ∷ (came_to (answer.Attached (record { 0 = 0 })), [])
    ∷ (told.Refused NotRunning, [])
    ∷ (came_to (answer.Taken 1 (record { 0 = 0 }) (record { 0 = 1 }) 0 Plain), [])
    ∷ (told.Done, [])
    ∷ (told.Refused SlotTaken, [])
    ∷ (came_to (answer.Returned Unasked Unasked Unasked Unasked 0 0), 2 ∷ [])
    ∷ []
unfolding limits environ library on came_to simple attach_plan return_plan submit_simple_plan take_plan
freed_at_a_return = refl
