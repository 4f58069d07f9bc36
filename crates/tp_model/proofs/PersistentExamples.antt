-- A trace with persistent callbacks, by computation alone; and histories that the law Persistent refuses.
use Rattle.std.proofs.Common.{◌≡◌, ℕ, List, [], ◌∷◌, ◌++◌, refl, true, false}
use Rattle.tp_base.specs.declared.answers.Answer.TheVariants as answer
use Rattle.tp_base.specs.declared.answers.Entry.{Entry}
use Rattle.tp_base.specs.declared.answers.Look.TheVariants as look
use Rattle.tp_base.specs.declared.answers.Outcome.TheVariants as outcome
use Rattle.tp_base.specs.declared.answers.SlotWord.TheVariants.{Unasked}
use Rattle.tp_base.specs.declared.answers.TakeResult.TheVariants.{Plain}
use Rattle.tp_base.specs.declared.calls.Call.TheVariants as call
use Rattle.tp_base.specs.declared.calls.Environ.{Environ}
use Rattle.tp_base.specs.declared.calls.Kind.TheVariants.{Work}
use Rattle.tp_base.specs.declared.calls.Priority.TheVariants.{Normal}
use Rattle.tp_base.specs.declared.ids.Who.TheVariants.{Client, Worker}
use Rattle.tp_base.specs.declared.limits.Limits.{Limits}
use Rattle.tp_model.specs.Calls.Objects.{create_plan}
use Rattle.tp_model.specs.Calls.Pools.{close_pool_plan, create_pool_plan, set_minimum_plan}
use Rattle.tp_model.specs.Calls.Work.{submit_work_plan}
use Rattle.tp_model.specs.Calls.Workers.{attach_plan, detach_plan, return_plan, take_plan}
use Rattle.tp_model.specs.History.{play}
use Rattle.tp_model.specs.Laws.Persistent.{ArePersistent}

limits : Limits
limits = record { clients = 1; workers = 2; pools = 64; groups = 255; objects = 4095; kernels = 1024; slots = 8192 }

environ : Environ
environ = record { pool = record { 0 = 1 }; group = record { 0 = 0 }; cancel = record { 0 = 0 }; priority = Normal; long = false; persistent = true }

-- one of two workers takes both callbacks, and leaves the pool once it is closed
one_stays : play limits 65536
    (((Client 1), call.CreatePool)
    ∷ ((Client 1), (call.SetMinimum (record { 0 = 1 }) 2))
    ∷ ((Worker 1), call.Attach)
    ∷ ((Worker 2), call.Attach)
    ∷ ((Client 1), (call.Create Work (record { 0 = 1 }) 0 environ))
    ∷ ((Client 1), (call.SubmitWork (record { 0 = 1 })))
    ∷ ((Client 1), (call.SubmitWork (record { 0 = 1 })))
    ∷ ((Worker 1), call.Take)
    ∷ ((Worker 2), call.Take)
    ∷ ((Worker 1), call.Return)
    ∷ ((Worker 2), call.Take)
    ∷ ((Worker 1), call.Take)
    ∷ ((Worker 1), call.Return)
    ∷ ((Client 1), (call.SetMinimum (record { 0 = 1 }) 0))
    ∷ ((Worker 2), call.Detach)
    ∷ ((Worker 1), call.Detach)
    ∷ ((Client 1), (call.ClosePool (record { 0 = 1 })))
    ∷ ((Worker 1), call.Detach) ∷ [])
    ≡ outcome.Done (answer.Made 1)
    ∷ outcome.Done answer.Done
    ∷ outcome.Done (answer.Attached (record { 0 = 1 }))
    ∷ outcome.Done (answer.Attached (record { 0 = 1 }))
    ∷ outcome.Done (answer.Made 1)
    ∷ outcome.Done (answer.Queued 1 1)
    ∷ outcome.Done (answer.Queued 2 1)
    ∷ outcome.Done (answer.Taken 1 (record { 0 = 1 }) (record { 0 = 1 }) 0 Plain)
    ∷ outcome.Look look.Empty
    ∷ outcome.Done (answer.Returned Unasked Unasked Unasked Unasked 0 0)
    ∷ outcome.Look look.Empty
    ∷ outcome.Done (answer.Taken 2 (record { 0 = 1 }) (record { 0 = 1 }) 0 Plain)
    ∷ outcome.Done (answer.Returned Unasked Unasked Unasked Unasked 0 0)
    ∷ outcome.Done answer.Done
    ∷ outcome.Done answer.Done
    ∷ outcome.Look look.Stay
    ∷ outcome.Done (answer.Closed true)
    ∷ outcome.Done answer.Done ∷ []
unfolding limits environ create_pool_plan set_minimum_plan close_pool_plan create_plan submit_work_plan attach_plan take_plan return_plan detach_plan
one_stays = refl

-- ---- the law Persistent refuses

made : List Entry
made =
    (record { who = Client 1; call = call.CreatePool; answer = answer.Made 1 })
    ∷ (record { who = Client 1; call = call.Create Work (record { 0 = 1 }) 0 environ; answer = answer.Made 1 })
    ∷ (record { who = Client 1; call = call.SubmitWork (record { 0 = 1 }); answer = answer.Queued 1 1 })
    ∷ (record { who = Client 1; call = call.SubmitWork (record { 0 = 1 }); answer = answer.Queued 2 1 })
    ∷ []

takes : ℕ → ℕ → Entry
takes worker n = record { who = Worker worker; call = call.Take; answer = answer.Taken n (record { 0 = 1 }) (record { 0 = 1 }) 0 Plain }

leaves : ℕ → Entry
leaves worker = record { who = Worker worker; call = call.Detach; answer = answer.Done }

-- a second worker that takes a persistent callback
by_two : ArePersistent (made ++ takes 1 1 ∷ takes 2 2 ∷ []) → false ≡ true
unfolding environ made takes
by_two law = law.one made [] [] (takes 1 1) (takes 2 2) 1 2 1 refl (record { run = record { number = 1; object = record { 0 = 1 } }; by = refl; takes = refl; made = refl }) (record { run = record { number = 2; object = record { 0 = 1 } }; by = refl; takes = refl; made = refl }) apart
  where
    apart : ◌≡◌ {A = ℕ} 1 2 → ⊥
    apart e = cc

-- and a worker that leaves a pool that isn't closed
leaves_open : ArePersistent (made ++ takes 1 1 ∷ leaves 1 ∷ []) → false ≡ true
unfolding environ made takes leaves
leaves_open law = law.stays made [] [] (takes 1 1) (leaves 1) 1 1 refl (record { run = record { number = 1; object = record { 0 = 1 } }; by = refl; takes = refl; made = refl }) refl
