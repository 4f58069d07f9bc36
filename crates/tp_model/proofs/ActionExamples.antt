-- Actions on return in a small history, by computation alone; and histories that the law Actions refuses.
use Rattle.std.proofs.Common.{◌≡◌, ℕ, ◌≤◌, List, [], ◌∷◌, ◌++◌, refl, true, false, Some}
use Rattle.tp_base.specs.declared.ids.Who.TheVariants.{Client, Worker}
use Rattle.tp_base.specs.declared.calls.Environ.{Environ}
use Rattle.tp_base.specs.declared.calls.Priority.TheVariants.{Normal}
use Rattle.tp_base.specs.declared.calls.Kind.TheVariants.{Work}
use Rattle.tp_base.specs.declared.calls.Lock.TheVariants as lock
use Rattle.tp_base.specs.declared.calls.Call.TheVariants as call
use Rattle.tp_base.specs.declared.answers.ActionKind.{ActionKind}
use Rattle.tp_base.specs.declared.answers.ActionKind.TheVariants.{Mutex, Semaphore, Event}
use Rattle.tp_base.specs.declared.answers.Answer.TheVariants as answer
use Rattle.tp_base.specs.declared.answers.Entry.{Entry}
use Rattle.tp_base.specs.declared.answers.Refusal.TheVariants.{SlotTaken}
use Rattle.tp_base.specs.declared.answers.SlotWord.{SlotWord}
use Rattle.tp_base.specs.declared.answers.SlotWord.TheVariants.{Unasked, Performed, NotOwner, OverMaximum}
use Rattle.tp_base.specs.declared.answers.TakeResult.TheVariants.{Plain}
use Rattle.tp_base.specs.declared.rows.KernelState.TheVariants as state
use Rattle.tp_base.specs.declared.limits.Limits.{Limits}
use Rattle.tp_model.specs.Calls.Objects.{create_plan}
use Rattle.tp_model.specs.Calls.Work.{submit_work_plan}
use Rattle.tp_model.specs.Calls.Kernels.{create_event_plan, create_semaphore_plan, create_lock_plan}
use Rattle.tp_model.specs.Calls.Workers.{attach_plan, take_plan, return_plan}
use Rattle.tp_model.specs.Calls.InCallback.{on_return_plan}
use Rattle.tp_model.specs.History.{IsLegal, after}
use Rattle.tp_model.specs.Laws.Actions.{AreActions}
use Rattle.tp_model.proofs.Laws.{keeps_laws}

limits : Limits
limits = record { clients = 1; workers = 4; pools = 64; groups = 255; objects = 4095; kernels = 1024; slots = 8192 }

environ : Environ
environ = record { pool = record { 0 = 0 }; group = record { 0 = 0 }; cancel = record { 0 = 0 }; priority = Normal; long = false; persistent = false }

-- a callback runs, and there are an event, a full semaphore, and a mutex of the client's own
begun : List Entry
begun =
    (record { who = Client 1; call = call.CreateEvent false false; answer = answer.Made 1 })
    ∷ (record { who = Client 1; call = call.CreateSemaphore 2 2; answer = answer.Made 2 })
    ∷ (record { who = Client 1; call = call.CreateLock lock.Mutex true; answer = answer.Made 3 })
    ∷ (record { who = Client 1; call = call.Create Work (record { 0 = 1 }) 7 environ; answer = answer.Made 1 })
    ∷ (record { who = Client 1; call = call.SubmitWork (record { 0 = 1 }); answer = answer.Queued 1 1 })
    ∷ (record { who = Worker 1; call = call.Attach; answer = answer.Attached (record { 0 = 0 }) })
    ∷ []

takes : Entry
takes = record { who = Worker 1; call = call.Take; answer = answer.Taken 1 (record { 0 = 1 }) (record { 0 = 1 }) 7 Plain }

asks : ActionKind → ℕ → Entry
asks kind kernel = record { who = Worker 1; call = call.OnReturn kind (record { 0 = kernel }) 1; answer = answer.Done }

asks_again : Entry
asks_again = record { who = Worker 1; call = call.OnReturn Event (record { 0 = 1 }) 1; answer = answer.Refused (SlotTaken Event) }

returns : SlotWord → SlotWord → SlotWord → Entry
returns mutex semaphore event = record { who = Worker 1; call = call.Return; answer = answer.Returned Unasked mutex semaphore event 0 0 }

asked : List Entry
asked = asks Event 1 ∷ asks_again ∷ asks Mutex 3 ∷ asks Semaphore 2 ∷ []

ended : List Entry
ended = (begun ++ takes ∷ asked) ++ returns NotOwner OverMaximum Performed ∷ []

-- the machine's answers are these
legal : IsLegal limits 65536 ended
unfolding limits environ begun takes asks asks_again returns asked ended create_plan submit_work_plan create_event_plan create_semaphore_plan create_lock_plan attach_plan take_plan on_return_plan return_plan
legal = (refl, (refl, (refl, (refl, (refl, (refl, (refl, (refl, (refl, (refl, (refl, (refl, tt))))))))))))

-- the event is set, and the others are as they were
kernels : (after limits ended).kernels ≡ (record { state = state.Event false true }) ∷ (record { state = state.Semaphore 2 2 }) ∷ (record { state = state.Mutex (Some (Client 1)) 1 }) ∷ []
unfolding limits environ begun takes asks asks_again returns asked ended create_plan submit_work_plan create_event_plan create_semaphore_plan create_lock_plan attach_plan take_plan on_return_plan return_plan
kernels = refl

-- so it keeps the law
keeps : AreActions ended
keeps = (keeps_laws limits 65536 ended legal).actions

-- ---- the law Actions refuses

-- a kind that is asked for a second time, where the first one hasn't been refused
asked_twice : AreActions (takes ∷ asks Event 1 ∷ asks Mutex 3 ∷ asks Event 1 ∷ []) → 2 ≤ 1
unfolding takes asks
asked_twice law = law.once [] (asks Event 1 ∷ asks Mutex 3 ∷ asks Event 1 ∷ []) [] takes Event refl refl refl

-- a return that leaves out an action that was asked for
left_out : AreActions (takes ∷ asks Event 1 ∷ returns Unasked Unasked Unasked ∷ []) → true ≡ false
unfolding takes asks returns
left_out law = law.told [] (asks Event 1 ∷ []) [] takes (returns Unasked Unasked Unasked) Event refl refl refl refl

-- one that makes up an action for which nobody asked
made_up : AreActions (takes ∷ asks Event 1 ∷ returns Performed Unasked Performed ∷ []) → false ≡ true
unfolding takes asks returns
made_up law = law.told [] (asks Event 1 ∷ []) [] takes (returns Performed Unasked Performed) Mutex refl refl refl refl

-- and one that tells of what was refused
refused_told : AreActions (takes ∷ asks_again ∷ returns Unasked Unasked Performed ∷ []) → false ≡ true
unfolding takes asks_again returns
refused_told law = law.told [] (asks_again ∷ []) [] takes (returns Unasked Unasked Performed) Event refl refl refl refl
