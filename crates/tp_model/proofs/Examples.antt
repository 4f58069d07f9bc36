-- The definitions give the answers of small examples, by computation alone.
use Rattle.std.proofs.Common.{◌≡◌, [], ◌∷◌, refl, false}
use Rattle.tp_base.specs.declared.ids.Who.TheVariants.{Client, Worker}
use Rattle.tp_base.specs.declared.calls.Environ.{Environ}
use Rattle.tp_base.specs.declared.calls.Priority.{Priority}
use Rattle.tp_base.specs.declared.calls.Priority.TheVariants.{High, Normal, Low}
use Rattle.tp_base.specs.declared.calls.Kind.TheVariants.{Work}
use Rattle.tp_base.specs.declared.calls.Call.TheVariants.{Create, SubmitWork, Attach, Take, Return, Finish}
use Rattle.tp_base.specs.declared.answers.Outcome.TheVariants as outcome
use Rattle.tp_base.specs.declared.answers.Answer.TheVariants as answer
use Rattle.tp_base.specs.declared.answers.Look.TheVariants as look
use Rattle.tp_base.specs.declared.answers.TakeResult.TheVariants.{Plain}
use Rattle.tp_base.specs.declared.answers.SlotWord.TheVariants.{Unasked}
use Rattle.tp_base.specs.declared.answers.Refusal.TheVariants.{NotAttached, NoSuch, NotRunning, WrongKind, Released}
use Rattle.tp_base.specs.declared.limits.Limits.{Limits}
use Rattle.tp_model.specs.Calls.Objects.{create_plan}
use Rattle.tp_model.specs.Calls.Work.{submit_work_plan}
use Rattle.tp_model.specs.Calls.Workers.{attach_plan, take_plan, return_plan}
use Rattle.tp_model.specs.Calls.Clients.{finish_plan}
use Rattle.tp_model.specs.History.{play}

limits : Limits
limits = record { clients = 1; workers = 4; pools = 64; groups = 255; objects = 4095; kernels = 1024; slots = 8192 }

environ : Priority → Environ
environ priority = record { pool = record { 0 = 0 }; group = record { 0 = 0 }; cancel = record { 0 = 0 }; priority = priority; long = false; persistent = false }

plain_path : play limits 65536
    ((Client 1, Create Work (record { 0 = 1 }) 7 (environ Normal)) ∷ (Client 1, SubmitWork (record { 0 = 1 })) ∷ (Worker 1, Attach) ∷ (Worker 1, Take) ∷ (Worker 1, Return) ∷ [])
    ≡ outcome.Done (answer.Made 1) ∷ outcome.Done (answer.Queued 1 1) ∷ outcome.Done (answer.Attached (record { 0 = 0 }))
    ∷ outcome.Done (answer.Taken 1 (record { 0 = 1 }) (record { 0 = 1 }) 7 Plain) ∷ outcome.Done (answer.Returned Unasked Unasked Unasked Unasked 0 0) ∷ []
unfolding limits environ create_plan submit_work_plan attach_plan take_plan return_plan
plain_path = refl

-- callbacks of a higher priority are taken first
priorities : play limits 65536
    ((Client 1, Create Work (record { 0 = 1 }) 0 (environ Low)) ∷ (Client 1, Create Work (record { 0 = 2 }) 0 (environ Normal)) ∷ (Client 1, Create Work (record { 0 = 3 }) 0 (environ High))
    ∷ (Client 1, SubmitWork (record { 0 = 1 })) ∷ (Client 1, SubmitWork (record { 0 = 2 })) ∷ (Client 1, SubmitWork (record { 0 = 3 }))
    ∷ (Worker 1, Attach) ∷ (Worker 1, Take) ∷ (Worker 1, Return) ∷ (Worker 1, Take) ∷ [])
    ≡ outcome.Done (answer.Made 1) ∷ outcome.Done (answer.Made 2) ∷ outcome.Done (answer.Made 3)
    ∷ outcome.Done (answer.Queued 1 1) ∷ outcome.Done (answer.Queued 2 1) ∷ outcome.Done (answer.Queued 3 1)
    ∷ outcome.Done (answer.Attached (record { 0 = 0 }))
    ∷ outcome.Done (answer.Taken 3 (record { 0 = 3 }) (record { 0 = 3 }) 0 Plain) ∷ outcome.Done (answer.Returned Unasked Unasked Unasked Unasked 0 0)
    ∷ outcome.Done (answer.Taken 2 (record { 0 = 2 }) (record { 0 = 2 }) 0 Plain) ∷ []
unfolding limits environ create_plan submit_work_plan attach_plan take_plan return_plan
priorities = refl

-- what a call comes to where it can't be done
refusals : play limits 8
    ((Worker 1, Take) ∷ (Worker 1, Return) ∷ (Worker 5, Attach) ∷ (Worker 1, Attach) ∷ (Client 1, SubmitWork (record { 0 = 1 })) ∷ (Worker 1, Finish) ∷ (Client 1, Finish) ∷ (Client 1, Finish) ∷ (Worker 1, Take) ∷ (Worker 1, Take) ∷ [])
    ≡ outcome.Done (answer.Refused NotAttached) ∷ outcome.Done (answer.Refused NotRunning) ∷ outcome.Done (answer.Refused NoSuch) ∷ outcome.Look look.NoNeed
    ∷ outcome.Done (answer.Refused NoSuch) ∷ outcome.Done (answer.Refused WrongKind) ∷ outcome.Done answer.Done ∷ outcome.Done (answer.Refused Released)
    ∷ outcome.Done (answer.Refused NotAttached) ∷ outcome.Full 0 1 ∷ []
unfolding limits environ create_plan submit_work_plan attach_plan take_plan return_plan finish_plan
refusals = refl
