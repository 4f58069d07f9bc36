-- Small orders and their faults, by computation alone.
use Rattle.std.proofs.Common.{◌≡◌, ℕ, ◌+◌, arith, true, false, ◌&&◌, ◌==◌, List, [], ◌∷◌, Option, None, Some, refl, if◌then◌else◌}
use Rattle.tp_base.specs.declared.answers.Answer.{Answer}
use Rattle.tp_base.specs.declared.answers.Answer.TheVariants as answer
use Rattle.tp_base.specs.declared.answers.Entry.{Entry}
use Rattle.tp_base.specs.declared.answers.Refusal.TheVariants.{NoSuch}
use Rattle.tp_base.specs.declared.answers.TakeResult.TheVariants.{Plain}
use Rattle.tp_base.specs.declared.calls.Call.{Call}
use Rattle.tp_base.specs.declared.calls.Call.TheVariants.{Attach, Create, Finish, StartIo, SubmitWork, Take}
use Rattle.tp_base.specs.declared.calls.Environ.{Environ}
use Rattle.tp_base.specs.declared.calls.Kind.TheVariants.{Io, Work}
use Rattle.tp_base.specs.declared.calls.Priority.TheVariants.{Normal}
use Rattle.tp_base.specs.declared.ids.Who.{Who}
use Rattle.tp_base.specs.declared.ids.Who.TheVariants.{Client, Worker}
use Rattle.tp_base.specs.declared.limits.Limits.{Limits}
use Rattle.tp_base.specs.declared.rows.WaitTarget.TheVariants.{Object}
use Rattle.tp_model.specs.Calls.Clients.{finish_plan}
use Rattle.tp_model.specs.Calls.Io.{start_io_plan}
use Rattle.tp_model.specs.Calls.Objects.{create_plan}
use Rattle.tp_model.specs.declared.Left.TheVariants as left
use Rattle.tp_model.specs.Calls.Work.{submit_work_plan}
use Rattle.tp_model.specs.Calls.Workers.{attach_plan, take_plan}
use Rattle.tp_script.specs.declared.routines.Part.{Part}
use Rattle.tp_script.specs.declared.routines.Part.TheVariants as part
use Rattle.tp_script.specs.declared.routines.Progress.{Progress}
use Rattle.tp_explore.specs.declared.fault.Fault.{Fault}
use Rattle.tp_explore.specs.declared.fault.FaultKind.{FaultKind}
use Rattle.tp_explore.specs.declared.fault.FaultKind.TheVariants.{FreedInUse, Left, NotQuiet, Refused, UseAfterFree}
use Rattle.tp_explore.specs.Faults.{faults_of}
use Rattle.tp_explore.specs.Scenes.{IsOrder}
use Rattle.tp_explore.specs.Watched.{Drop, Free, Marked, Quiet, Use, Watched}

limits : Limits
limits = record { clients = 3; workers = 1; pools = 1; groups = 0; objects = 1; kernels = 0; slots = 2 }

entry : Who → Call → Answer → Entry
entry who call answer = record { who = who; call = call; answer = answer }

fault : FaultKind → ℕ → Fault
fault kind line = record { kind = kind; line = line }

submit : Call
submit = SubmitWork (record { 0 = 1 })

-- a script of one operation: client 2 submits, in line 3
next : Part → Progress → Option Call
next (part.Client number) at = if (number == 2) && (at.op == 0) then Some submit else None
next (part.Routine routine) at = None

silent : Watched
silent = record {
  given = record { next = next; after = λ part at answer. record at { op = at.op + 1 } };
  may_refuse = λ part op. false;
  line = λ part op. 3;
  marks = λ part at. [];
  all_marks = λ routine. [];
  wants = λ fault. true;
}

-- the work object was never made, so its submission is refused
refused : List Entry
refused = entry (Client 1) Finish answer.Done ∷ entry (Client 2) submit (answer.Refused NoSuch) ∷ []

refusal_told : faults_of silent limits refused ≡ fault (Refused NoSuch) 3 ∷ []
unfolding limits entry fault submit next silent refused finish_plan
refusal_told = refl

refusal_is_order : IsOrder silent.given limits refused
unfolding limits entry submit next silent refused finish_plan submit_work_plan
refusal_is_order = (
  record { actor = (omega arith, omega arith); turn = refl; due = (0, omega arith, refl); answers = refl },
  (record { actor = (omega arith, omega arith); turn = refl; due = (0, omega arith, refl); answers = refl }, tt),
)

refusal_allowed : faults_of (record silent { may_refuse = λ part op. true }) limits refused ≡ []
unfolding limits entry submit next silent refused finish_plan
refusal_allowed = refl

-- what clients say before their first operations takes place as client 1 finishes
first_marks : ℕ → List Marked → ℕ → List Marked → Part → Progress → List Marked
first_marks a of_a b of_b (part.Client number) at = if number == a then of_a else (if number == b then of_b else [])
first_marks a of_a b of_b (part.Routine routine) at = []

uses : List Marked
uses = record { mark = Use 1; line = 10 } ∷ []

frees : List Marked
frees = record { mark = Free 1; line = 14 } ∷ []

drops : List Marked
drops = record { mark = Use 1; line = 10 } ∷ record { mark = Drop 1; line = 11 } ∷ []

set_up : List Entry
set_up = entry (Client 1) Finish answer.Done ∷ []

freed_in_use : faults_of (record silent { marks = first_marks 2 uses 3 frees }) limits set_up ≡ fault FreedInUse 14 ∷ []
unfolding limits entry fault silent first_marks uses frees set_up finish_plan
freed_in_use = refl

used_after_free : faults_of (record silent { marks = first_marks 2 frees 3 uses }) limits set_up ≡ fault UseAfterFree 10 ∷ []
unfolding limits entry fault silent first_marks uses frees set_up finish_plan
used_after_free = refl

-- a use lasts up to the next entry of its actor behind the `drop`
dropped_in_use : faults_of (record silent { marks = first_marks 2 drops 3 frees }) limits set_up ≡ fault FreedInUse 14 ∷ []
unfolding limits entry fault silent first_marks drops frees set_up finish_plan
dropped_in_use = refl

-- a routine says what stands before its first operation as its callback begins
environ : Environ
environ = record { pool = record { 0 = 0 }; group = record { 0 = 0 }; cancel = record { 0 = 0 }; priority = Normal; long = false; persistent = false }

saved : List Entry
saved =
    entry (Client 1) (Create Work (record { 0 = 1 }) 0 environ) (answer.Made 1)
    ∷ entry (Client 1) Finish answer.Done
    ∷ entry (Client 2) submit (answer.Queued 1 1)
    ∷ entry (Worker 1) Attach (answer.Attached (record { 0 = 0 }))
    ∷ entry (Worker 1) Take (answer.Taken 1 (record { 0 = 1 }) (record { 0 = 1 }) 0 Plain)
    ∷ []

routine_marks : List Marked → List Marked → Part → Progress → List Marked
routine_marks of_routine of_client (part.Client number) at = if (number == 2) && (at.op == 1) then of_client else []
routine_marks of_routine of_client (part.Routine routine) at = of_routine

saved_after_free : faults_of (record silent { marks = routine_marks uses frees }) limits saved ≡ fault UseAfterFree 10 ∷ []
unfolding limits entry fault submit silent routine_marks uses frees environ saved create_plan finish_plan submit_work_plan attach_plan take_plan
saved_after_free = refl

-- nothing of the object may run once the client has submitted, and then a callback begins
hush : List Marked
hush = record { mark = Quiet (Object (record { 0 = 1 })); line = 21 } ∷ []

not_quiet : faults_of (record silent { marks = routine_marks [] hush }) limits saved ≡ fault NotQuiet 21 ∷ []
unfolding limits entry fault submit silent routine_marks hush environ saved create_plan finish_plan submit_work_plan attach_plan take_plan
not_quiet = refl

-- an operation is announced and never issued, and all finish
announced : List Entry
announced =
    entry (Client 1) (Create Io (record { 0 = 1 }) 0 environ) (answer.Made 1)
    ∷ entry (Client 1) Finish answer.Done
    ∷ entry (Client 2) (StartIo (record { 0 = 1 })) (answer.Started 1)
    ∷ entry (Client 2) Finish answer.Done
    ∷ entry (Client 3) Finish answer.Done
    ∷ []

left_expected : faults_of silent limits announced ≡ fault (Left left.Expected) 3 ∷ []
unfolding limits entry fault silent environ announced create_plan finish_plan start_io_plan
left_expected = refl
