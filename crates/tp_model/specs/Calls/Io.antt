-- Calls on I/O objects: StartThreadpoolIo and CancelThreadpoolIo; an operation is issued, and the system completes it, or
-- CancelIoEx does.
use Rattle.std.specs.Prelude.{ℕ, Bool, not, ◌&&◌, ◌||◌, ◌==◌, List, [], ◌∷◌, ◌++◌, is_none, if◌then◌else◌, Option, None, Some}
use Rattle.std.specs.List.{find}
use Rattle.tp_base.specs.declared.ids.Who.{Who}
use Rattle.tp_base.specs.declared.ids.ObjectId.{ObjectId}
use Rattle.tp_base.specs.declared.calls.Kind.TheVariants.{Io}
use Rattle.tp_base.specs.declared.answers.Refusal.{Refusal}
use Rattle.tp_base.specs.declared.answers.Refusal.TheVariants.{NoSuch, WrongKind, Released, NotRunning, InWait, NotStarted, NoOperation, CallbackLimit}
use Rattle.tp_base.specs.declared.answers.TakeResult.TheVariants.{Plain}
use Rattle.tp_base.specs.declared.answers.Answer.{Answer}
use Rattle.tp_base.specs.declared.answers.Answer.TheVariants as answer
use Rattle.tp_base.specs.declared.plans.IoStep.{IoStep}
use Rattle.tp_base.specs.declared.plans.IoStep.TheVariants.{Issue, GiveUp, Complete}
use Rattle.tp_base.specs.declared.plans.Plan.{Plan}
use Rattle.tp_base.specs.declared.plans.Plan.TheVariants.{Refused, Does}
use Rattle.tp_base.specs.declared.plans.Change.TheVariants as change
use Rattle.tp_base.specs.declared.rows.Status.TheVariants.{Expected}
use Rattle.tp_base.specs.declared.rows.ObjectRow.{ObjectRow}
use Rattle.tp_base.specs.declared.rows.CallbackRow.{CallbackRow}
use Rattle.tp_model.specs.World.{World}
use Rattle.tp_model.specs.Counts.{numbered, callback_of, is_expected, is_issued}
use Rattle.tp_model.specs.Conditions.{is_actor, is_finished, is_without_callback, is_in_wait, is_object, is_object_of, lacks_slots_for}
use Rattle.tp_model.specs.Sources.{new_callback}
use Rattle.tp_model.specs.Refusing.{first_refusal, unless_refused, actor_refusals, object_refusals}

-- ---- StartIo: StartThreadpoolIo

abbrev pub start_io_refusals : World → Who → ℕ → List (Bool × Refusal)
start_io_refusals w who object = object_refusals w who Io object ++ (lacks_slots_for w 1, CallbackLimit) ∷ []

-- its result is that of the operation, once that completes
abbrev pub expecting : ℕ → ObjectId → ObjectRow → CallbackRow
expecting next_number object row = record (new_callback next_number object row Plain) { status = Expected }

-- with the number that the callback gets
abbrev pub start_io : ℕ → ObjectId → Option ObjectRow → Plan
start_io next_number object None = Refused NoSuch
start_io next_number object (Some row) = Does (answer.Started next_number) (change.ExpectCallback (expecting next_number object row))

unfoldable pub start_io_plan : World → ℕ → Who → ObjectId → Plan
start_io_plan w next_number who object =
    unless_refused (first_refusal (start_io_refusals w who object.0)) (start_io next_number object (numbered w.objects object.0))

-- ---- IssueIo and CancelIo: the first callback of the object that expects an operation gets it, or is cancelled

abbrev pub is_expected_of : ℕ → CallbackRow → Bool
is_expected_of object c = is_expected c.status && (c.object.0 == object)

-- the one of least number
abbrev pub first_expected : World → ℕ → Option CallbackRow
first_expected w object = find (is_expected_of object) w.callbacks

abbrev pub expected_refusals : World → Who → ℕ → List (Bool × Refusal)
expected_refusals w who object = object_refusals w who Io object ++ (is_none (first_expected w object), NotStarted) ∷ []

abbrev pub operate : (ℕ → Answer) → IoStep → Option CallbackRow → Plan
operate told how None = Refused NotStarted
operate told how (Some c) = Does (told c.number) (change.Operate c how)

abbrev pub operate_first : World → Who → ObjectId → (ℕ → Answer) → IoStep → Plan
operate_first w who object told how = unless_refused (first_refusal (expected_refusals w who object.0)) (operate told how (first_expected w object.0))

unfoldable pub issue_io_plan : World → Who → ObjectId → Plan
issue_io_plan w who object = operate_first w who object answer.Operation Issue

unfoldable pub cancel_io_plan : World → Who → ObjectId → Plan
cancel_io_plan w who object = operate_first w who object answer.Cancelled GiveUp

-- ---- CompleteIo: an operation is over, and its callback is pending

abbrev pub issued_row : Option CallbackRow → Option CallbackRow
issued_row None = None
issued_row (Some c) = if is_issued c.status then Some c else None

-- the callback of a number, if its operation is under way
abbrev pub issued_of : World → ℕ → Option CallbackRow
issued_of w callback = issued_row (callback_of w callback)

abbrev pub complete_io_refusals : World → Who → ℕ → List (Bool × Refusal)
complete_io_refusals w who callback = actor_refusals w who ++ (is_none (issued_of w callback), NoOperation) ∷ []

abbrev pub complete_io : ℕ → ℕ → Option CallbackRow → Plan
complete_io error bytes None = Refused NoOperation
complete_io error bytes (Some c) = Does (answer.Queued c.number 1) (change.Operate c (Complete error bytes))

unfoldable pub complete_io_plan : World → Who → ℕ → ℕ → ℕ → Plan
complete_io_plan w who callback error bytes =
    unless_refused (first_refusal (complete_io_refusals w who callback)) (complete_io error bytes (issued_of w callback))

-- ---- CompleteNext: the same of the object's first operation that is under way, whether the object is released or not

abbrev pub is_issued_of : ℕ → CallbackRow → Bool
is_issued_of object c = is_issued c.status && (c.object.0 == object)

-- the one of least number
abbrev pub first_issued : World → ℕ → Option CallbackRow
first_issued w object = find (is_issued_of object) w.callbacks

abbrev pub complete_next_refusals : World → Who → ℕ → List (Bool × Refusal)
complete_next_refusals w who object =
    (not (is_actor w who) || not (is_object w object), NoSuch)
    ∷ (not (is_object_of w Io object), WrongKind)
    ∷ (is_finished w who, Released)
    ∷ (is_without_callback w who, NotRunning)
    ∷ (is_in_wait w who, InWait)
    ∷ (is_none (first_issued w object), NoOperation)
    ∷ []

unfoldable pub complete_next_plan : World → Who → ObjectId → ℕ → ℕ → Plan
complete_next_plan w who object error bytes =
    unless_refused (first_refusal (complete_next_refusals w who object.0)) (complete_io error bytes (first_issued w object.0))
