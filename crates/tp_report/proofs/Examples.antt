-- What is told of small histories, by computation alone.
use Rattle.std.proofs.Common.{◌≡◌, [], ◌∷◌, List, false, refl}
use Rattle.std.specs.Fmt.{digits}
use Rattle.std.specs.Prelude.{codes, Some}
use Rattle.serde_json.proofs.OnLiterals.{serde_json_on_literals}
use Rattle.tp_base.specs.declared.answers.Answer.{Answer}
use Rattle.tp_base.specs.declared.answers.Answer.TheVariants as answer
use Rattle.tp_base.specs.declared.answers.Entry.{Entry}
use Rattle.tp_base.specs.declared.answers.Refusal.TheVariants.{ClockEnd, WrongKind}
use Rattle.tp_base.specs.declared.answers.TakeResult.TheVariants.{Plain}
use Rattle.tp_base.specs.declared.calls.Call.{Call}
use Rattle.tp_base.specs.declared.calls.Call.TheVariants.{Advance, Create, Finish, SubmitWork, StartIo, IssueIo, CancelIo, Attach, Take}
use Rattle.tp_base.specs.declared.calls.Environ.{Environ}
use Rattle.tp_base.specs.declared.calls.Kind.TheVariants.{Work, Io}
use Rattle.tp_base.specs.declared.calls.Priority.TheVariants.{Normal}
use Rattle.tp_base.specs.declared.ids.Who.{Who}
use Rattle.tp_base.specs.declared.ids.Who.TheVariants.{Client, Worker}
use Rattle.tp_base.specs.declared.limits.Limits.{Limits}
use Rattle.tp_base.specs.declared.rows.Status.TheVariants.{Expected, Issued, Pending}
use Rattle.tp_model.specs.Calls.Io.{cancel_io_plan, issue_io_plan, start_io_plan}
use Rattle.tp_model.specs.Calls.Objects.{create_plan}
use Rattle.tp_model.specs.Calls.Work.{submit_work_plan}
use Rattle.tp_model.specs.Calls.Workers.{attach_plan, take_plan}
use Rattle.tp_report.specs.Histories.{header_line, history_text, line_of}
use Rattle.tp_report.specs.Json.{json_line}
use Rattle.tp_report.specs.Moments.{moments}
use Rattle.tp_report.specs.Summaries.{Totals, text_of_totals, totals_of}
use Rattle.tp_report.specs.declared.headers.Format.TheVariants.{Two}

limits : Limits
limits = record { clients = 1; workers = 2; pools = 1; groups = 0; objects = 2; kernels = 0; slots = 8 }

environ : Environ
environ = record { pool = record { 0 = 0 }; group = record { 0 = 0 }; cancel = record { 0 = 0 }; priority = Normal; long = false; persistent = false }

entry : Who → Call → Answer → Entry
entry who call answer = record { who = who; call = call; answer = answer }

-- two callbacks of a work object, of which one is taken; three of an I/O object, of which one is given up and one issued;
-- and a refusal
history : List Entry
history =
    entry (Client 1) (Create Work (record { 0 = 1 }) 0 environ) (answer.Made 1)
    ∷ entry (Client 1) (Create Io (record { 0 = 2 }) 0 environ) (answer.Made 2)
    ∷ entry (Client 1) (SubmitWork (record { 0 = 1 })) (answer.Queued 1 1)
    ∷ entry (Client 1) (SubmitWork (record { 0 = 1 })) (answer.Queued 2 1)
    ∷ entry (Client 1) (StartIo (record { 0 = 2 })) (answer.Started 3)
    ∷ entry (Client 1) (StartIo (record { 0 = 2 })) (answer.Started 4)
    ∷ entry (Client 1) (StartIo (record { 0 = 2 })) (answer.Started 5)
    ∷ entry (Client 1) (CancelIo (record { 0 = 2 })) (answer.Cancelled 3)
    ∷ entry (Client 1) (IssueIo (record { 0 = 2 })) (answer.Operation 4)
    ∷ entry (Client 1) (SubmitWork (record { 0 = 2 })) (answer.Refused WrongKind)
    ∷ entry (Worker 1) Attach (answer.Attached (record { 0 = 0 }))
    ∷ entry (Worker 1) Take (answer.Taken 1 (record { 0 = 1 }) (record { 0 = 1 }) 0 Plain)
    ∷ []

totals : Totals
totals = record {
  entries = 12;
  callbacks = 5;
  taken = 1;
  cancelled = 1;
  left = (2, record { 0 = 1 }, Pending) ∷ (4, record { 0 = 2 }, Issued) ∷ (5, record { 0 = 2 }, Expected) ∷ [];
  refused = 1;
}

counted : totals_of limits history ≡ totals
unfolding limits environ entry history totals create_plan submit_work_plan start_io_plan cancel_io_plan issue_io_plan attach_plan take_plan
counted = refl

summary : text_of_totals totals
    ≡ codes "entries 12\ncallbacks 5\ntaken 1\ncancelled 1\nleft 3\nleft-callback 2 o1 pending\nleft-callback 4 o2 issued\nleft-callback 5 o2 expected\nrefused 1\n"
unfolding totals digits
summary = refl

json : json_line totals ≡ codes "{\"callbacks\":5,\"cancelled\":1,\"entries\":12,\"left\":3,\"left_callbacks\":[2,4,5],\"refused\":1,\"taken\":1}\n"
unfolding totals digits serde_json_on_literals
json = refl

none : history_text limits 100 [] ≡ codes "history 2 clients 1 workers 2 events 100 objects 2\nend 0\n"
unfolding limits digits
none = refl

-- the first line of format 2, and an entry with its moment
second : header_line (record { format = Two; clients = 1; workers = 4; events = 16; objects = 5 }) ≡ codes "history 2 clients 1 workers 4 events 16 objects 5"
unfolding digits
second = refl

timed : line_of (record { moment = Some 5; entry = entry (Client 1) Finish answer.Done }) ≡ codes "5 c1 finish -> ok"
unfolding digits entry
timed = refl

-- an advance that is refused, two that are made, and what follows
told : moments (
    entry (Client 1) (Advance 9) (answer.Refused ClockEnd)
    ∷ entry (Client 1) (Advance 5) (answer.Advanced 5 0 0)
    ∷ entry (Client 1) (Advance 0) (answer.Advanced 5 0 0)
    ∷ entry (Client 1) Finish answer.Done
    ∷ []
    ) ≡ 0 ∷ 5 ∷ 5 ∷ 5 ∷ []
unfolding entry
told = refl
