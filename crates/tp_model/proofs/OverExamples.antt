-- Small worlds in which all is over, or is not, and what is left in them, by computation alone.
use Rattle.std.proofs.Common.{◌≡◌, [], ◌∷◌, List, Some, None, refl, true, false}
use Rattle.tp_base.specs.declared.answers.Answer.{Answer}
use Rattle.tp_base.specs.declared.answers.Answer.TheVariants as answer
use Rattle.tp_base.specs.declared.answers.Entry.{Entry}
use Rattle.tp_base.specs.declared.answers.TakeResult.TheVariants.{Plain}
use Rattle.tp_base.specs.declared.calls.Call.{Call}
use Rattle.tp_base.specs.declared.calls.Call.TheVariants.{Create, SubmitWork, StartIo, Attach, Take, Finish}
use Rattle.tp_base.specs.declared.calls.Environ.{Environ}
use Rattle.tp_base.specs.declared.calls.Kind.TheVariants.{Work, Io}
use Rattle.tp_base.specs.declared.calls.Priority.TheVariants.{Normal}
use Rattle.tp_base.specs.declared.ids.Who.{Who}
use Rattle.tp_base.specs.declared.ids.Who.TheVariants.{Client, Worker}
use Rattle.tp_base.specs.declared.limits.Limits.{Limits}
use Rattle.tp_base.specs.declared.rows.Status.TheVariants as status
use Rattle.tp_model.specs.Calls.Clients.{finish_plan}
use Rattle.tp_model.specs.Calls.Io.{start_io_plan}
use Rattle.tp_model.specs.Calls.Objects.{create_plan}
use Rattle.tp_model.specs.Calls.Work.{submit_work_plan}
use Rattle.tp_model.specs.Calls.Workers.{attach_plan, take_plan}
use Rattle.tp_model.specs.History.{after}
use Rattle.tp_model.specs.Over.{is_over, left_after}

limits : Limits
limits = record { clients = 1; workers = 2; pools = 1; groups = 0; objects = 2; kernels = 0; slots = 8 }

environ : Environ
environ = record { pool = record { 0 = 0 }; group = record { 0 = 0 }; cancel = record { 0 = 0 }; priority = Normal; long = false; persistent = false }

entry : Who → Call → Answer → Entry
entry who call answer = record { who = who; call = call; answer = answer }

-- a client submits a work twice and announces an operation, a worker takes the first callback, and the client finishes
submitted : List Entry
submitted =
    entry (Client 1) (Create Work (record { 0 = 1 }) 0 environ) (answer.Made 1)
    ∷ entry (Client 1) (Create Io (record { 0 = 2 }) 0 environ) (answer.Made 2)
    ∷ entry (Client 1) (SubmitWork (record { 0 = 1 })) (answer.Queued 1 1)
    ∷ entry (Client 1) (SubmitWork (record { 0 = 1 })) (answer.Queued 2 1)
    ∷ entry (Client 1) (StartIo (record { 0 = 2 })) (answer.Started 3)
    ∷ entry (Client 1) Finish answer.Done
    ∷ []

taken : List Entry
taken =
    entry (Client 1) (Create Work (record { 0 = 1 }) 0 environ) (answer.Made 1)
    ∷ entry (Client 1) (SubmitWork (record { 0 = 1 })) (answer.Queued 1 1)
    ∷ entry (Client 1) Finish answer.Done
    ∷ entry (Worker 1) Attach (answer.Attached (record { 0 = 0 }))
    ∷ entry (Worker 1) Take (answer.Taken 1 (record { 0 = 1 }) (record { 0 = 1 }) 0 Plain)
    ∷ []

-- while a client hasn't finished, nothing is over
at_first : is_over (after limits []) 100 ≡ false
unfolding limits
at_first = refl

-- of what waits for a worker nothing is left out: no worker is idle, so it takes a room of 4
waits : is_over (after limits submitted) 4 ≡ false
unfolding limits environ entry submitted create_plan submit_work_plan start_io_plan finish_plan
waits = refl

-- and in a smaller one it never runs
too_small : is_over (after limits submitted) 3 ≡ true
unfolding limits environ entry submitted create_plan submit_work_plan start_io_plan finish_plan
too_small = refl

-- what runs has to return, in every room
runs : is_over (after limits taken) 0 ≡ false
unfolding limits environ entry taken create_plan submit_work_plan attach_plan take_plan finish_plan
runs = refl

first_left : left_after (after limits submitted) 0 ≡ Some (1, record { 0 = 1 }, status.Pending)
unfolding limits environ entry submitted create_plan submit_work_plan start_io_plan finish_plan
first_left = refl

third_left : left_after (after limits submitted) 2 ≡ Some (3, record { 0 = 2 }, status.Expected)
unfolding limits environ entry submitted create_plan submit_work_plan start_io_plan finish_plan
third_left = refl

-- what runs is not left
none_left : left_after (after limits taken) 0 ≡ None
unfolding limits environ entry taken create_plan submit_work_plan attach_plan take_plan finish_plan
none_left = refl
