-- What a small history tells, by computation alone; and histories that the laws Once and Maximum refuse.
use Rattle.std.proofs.Common.{◌≡◌, ℕ, ◌<◌, ◌≤◌, List, [], ◌∷◌, ◌++◌, refl, true, false, Some, None}
use Rattle.tp_base.specs.declared.ids.Who.TheVariants.{Client, Worker}
use Rattle.tp_base.specs.declared.ids.PoolId.{PoolId}
use Rattle.tp_base.specs.declared.calls.Environ.{Environ}
use Rattle.tp_base.specs.declared.calls.Priority.TheVariants.{Normal}
use Rattle.tp_base.specs.declared.calls.Kind.TheVariants.{Work}
use Rattle.tp_base.specs.declared.calls.Call.TheVariants as call
use Rattle.tp_base.specs.declared.answers.Answer.TheVariants as answer
use Rattle.tp_base.specs.declared.answers.Entry.{Entry}
use Rattle.tp_base.specs.declared.answers.TakeResult.TheVariants.{Plain}
use Rattle.tp_base.specs.declared.answers.SlotWord.TheVariants.{Unasked}
use Rattle.tp_base.specs.declared.answers.Refusal.TheVariants.{DefaultPool}
use Rattle.tp_base.specs.declared.rows.Status.TheVariants.{Pending}
use Rattle.tp_base.specs.declared.limits.Limits.{Limits}
use Rattle.tp_model.specs.Calls.Pools.{create_pool_plan, set_maximum_plan, set_minimum_plan}
use Rattle.tp_model.specs.Calls.Objects.{create_plan}
use Rattle.tp_model.specs.Calls.Work.{submit_work_plan}
use Rattle.tp_model.specs.Calls.Workers.{attach_plan, take_plan, return_plan}
use Rattle.tp_model.specs.Calls.Waits.{begin_wait_plan}
use Rattle.tp_model.specs.History.{IsLegal, after}
use Rattle.tp_model.specs.Laws.Entries.{numbers_made, numbers_taken, numbers_cancelled, count_cancelled, born, ready, is_within_run, last_pool, told_maximum}
use Rattle.tp_model.specs.Laws.Once.{AreOnce, left}
use Rattle.tp_model.specs.Laws.Maximum.{IsWithinMaximum, count_running}

limits : Limits
limits = record { clients = 1; workers = 4; pools = 64; groups = 255; objects = 4095; kernels = 1024; slots = 8192 }

pool : ℕ → PoolId
pool number = record { 0 = number }

environ : Environ
environ = record { pool = record { 0 = 1 }; group = record { 0 = 0 }; cancel = record { 0 = 0 }; priority = Normal; long = false; persistent = false }

-- two callbacks of a pool that runs one at a time
begun : List Entry
begun =
    (record { who = Client 1; call = call.CreatePool; answer = answer.Made 1 })
    ∷ (record { who = Client 1; call = call.SetMaximum (record { 0 = 1 }) 0; answer = answer.Done })
    ∷ (record { who = Client 1; call = call.SetMaximum (record { 0 = 0 }) 2; answer = answer.Refused DefaultPool })
    ∷ (record { who = Client 1; call = call.Create Work (record { 0 = 1 }) 7 environ; answer = answer.Made 1 })
    ∷ (record { who = Client 1; call = call.SubmitWork (record { 0 = 1 }); answer = answer.Queued 1 1 })
    ∷ (record { who = Client 1; call = call.SubmitWork (record { 0 = 1 }); answer = answer.Queued 2 1 })
    ∷ (record { who = Worker 1; call = call.Attach; answer = answer.Attached (record { 0 = 1 }) })
    ∷ (record { who = Worker 1; call = call.Take; answer = answer.Taken 1 (record { 0 = 1 }) (record { 0 = 1 }) 7 Plain })
    ∷ []

ended : List Entry
ended =
    begun
    ++ (record { who = Worker 1; call = call.Return; answer = answer.Returned Unasked Unasked Unasked Unasked 0 0 })
    ∷ (record { who = Client 1; call = call.SetMinimum (record { 0 = 1 }) 3; answer = answer.Done })
    ∷ []

-- the machine's answers are these
legal : IsLegal limits 65536 ended
unfolding limits environ begun ended create_pool_plan set_maximum_plan set_minimum_plan create_plan submit_work_plan attach_plan take_plan return_plan
legal = (refl, (refl, (refl, (refl, (refl, (refl, (refl, (refl, (refl, (refl, tt))))))))))

callbacks : (numbers_made ended ≡ 1 ∷ 2 ∷ []) × (numbers_taken ended ≡ 1 ∷ []) × (numbers_cancelled ended ≡ []) × (count_cancelled ended ≡ 0)
unfolding begun ended environ
callbacks = (refl, refl, refl, refl)

places : (born begun 2 ≡ Some 5) × (ready begun 1 ≡ Some 4) × (ready begun 3 ≡ None)
unfolding begun environ
places = (refl, refl, refl)

waiting : left (after limits begun) ≡ (2, record { 0 = 1 }, Pending) ∷ []
unfolding limits environ begun create_pool_plan set_maximum_plan create_plan submit_work_plan attach_plan take_plan
waiting = refl

workers : (is_within_run begun 1 ≡ true) × (is_within_run ended 1 ≡ false) × (is_within_run begun 2 ≡ false) × (last_pool ended 1 ≡ Some 1)
unfolding begun ended environ
workers = (refl, refl, refl, refl)

pools : (told_maximum limits begun 1 ≡ 1) × (told_maximum limits begun 0 ≡ 4) × (told_maximum limits ended 1 ≡ 3) × (count_running limits begun 1 ≡ 1) × (count_running limits ended 1 ≡ 0)
unfolding limits begun ended environ
pools = (refl, refl, refl, refl, refl)

-- ---- the law Once refuses

attached : ℕ → Entry
attached worker = record { who = Worker worker; call = call.Attach; answer = answer.Attached (record { 0 = 1 }) }

takes : ℕ → ℕ → Entry
takes worker n = record { who = Worker worker; call = call.Take; answer = answer.Taken n (record { 0 = 1 }) (record { 0 = 1 }) 7 Plain }

-- a callback that is taken a second time
taken_twice : AreOnce limits (begun ++ attached 2 ∷ takes 2 1 ∷ []) → 2 ≤ 1
unfolding begun environ attached takes
taken_twice law = law.at_most_once 1

-- one that nobody made
unmade : AreOnce limits (begun ++ attached 2 ∷ takes 2 3 ∷ []) → false ≡ true
unfolding begun environ attached takes
unmade law = law.only_ready (begun ++ attached 2 ∷ []) [] (takes 2 3) refl 3 refl

-- and one that a wait cancels without telling of it
lost : AreOnce limits (begun ++ (record { who = Client 1; call = call.BeginWait Work (record { 0 = 1 }) true; answer = answer.Begun 1 0 }) ∷ []) → ◌≡◌ {A = ℕ} 2 1
unfolding limits environ begun create_pool_plan set_maximum_plan create_plan submit_work_plan attach_plan take_plan begin_wait_plan
lost law = law.none_lost

-- ---- the law Maximum refuses

-- a second callback of a pool that runs one at a time
above : IsWithinMaximum limits (begun ++ attached 2 ∷ takes 2 2 ∷ []) → 1 < 1
unfolding limits environ begun attached takes
above law = law.at_each (begun ++ attached 2 ∷ []) [] (takes 2 2) refl 2 1 refl refl refl
