-- Calls that make callbacks at once: SubmitThreadpoolWork, TrySubmitThreadpoolCallback.
use Rattle.std.specs.Prelude.{ℕ, Bool, List, [], ◌∷◌, ◌++◌, Option, None, Some}
use Rattle.tp_base.specs.declared.ids.Who.{Who}
use Rattle.tp_base.specs.declared.ids.ObjectId.{ObjectId}
use Rattle.tp_base.specs.declared.ids.RoutineId.{RoutineId}
use Rattle.tp_base.specs.declared.calls.Kind.TheVariants.{Work}
use Rattle.tp_base.specs.declared.calls.Environ.{Environ}
use Rattle.tp_base.specs.declared.answers.Refusal.{Refusal}
use Rattle.tp_base.specs.declared.answers.Refusal.TheVariants.{NoSuch, CallbackLimit}
use Rattle.tp_base.specs.declared.answers.TakeResult.TheVariants.{Plain}
use Rattle.tp_base.specs.declared.answers.Answer.TheVariants as answer
use Rattle.tp_base.specs.declared.plans.Plan.{Plan}
use Rattle.tp_base.specs.declared.plans.Plan.TheVariants.{Refused, Does}
use Rattle.tp_base.specs.declared.plans.Change.TheVariants as change
use Rattle.tp_base.specs.declared.rows.ObjectRow.{ObjectRow}
use Rattle.tp_base.specs.declared.rows.CallbackRow.{CallbackRow}
use Rattle.tp_model.specs.World.{World}
use Rattle.tp_model.specs.Counts.{numbered}
use Rattle.tp_model.specs.Conditions.{lacks_slots_for}
use Rattle.tp_model.specs.Sources.{new_object, new_callback}
use Rattle.tp_model.specs.Refusing.{first_refusal, unless_refused, object_refusals, environ_refusals}

-- ---- SubmitWork: SubmitThreadpoolWork

abbrev pub submit_work_refusals : World → Who → ℕ → List (Bool × Refusal)
submit_work_refusals w who object = object_refusals w who Work object ++ (lacks_slots_for w 1, CallbackLimit) ∷ []

-- with the number that the callback gets
abbrev pub submit : ℕ → ObjectId → Option ObjectRow → Plan
submit next_number object None = Refused NoSuch
submit next_number object (Some row) = Does (answer.Queued next_number 1) (change.QueueCallback (new_callback next_number object row Plain))

unfoldable pub submit_work_plan : World → ℕ → Who → ObjectId → Plan
submit_work_plan w next_number who object =
    unless_refused (first_refusal (submit_work_refusals w who object.0)) (submit next_number object (numbered w.objects object.0))

-- ---- SubmitSimple: TrySubmitThreadpoolCallback

abbrev pub submit_simple_refusals : World → Who → Environ → List (Bool × Refusal)
submit_simple_refusals w who env = environ_refusals w who env ++ (lacks_slots_for w 1, CallbackLimit) ∷ []

-- a callback without an object
abbrev pub simple_callback : ℕ → RoutineId → ℕ → Environ → CallbackRow
simple_callback next_number routine context env = new_callback next_number (record { 0 = 0 }) (new_object Work routine context env) Plain

unfoldable pub submit_simple_plan : World → ℕ → Who → RoutineId → ℕ → Environ → Plan
submit_simple_plan w next_number who routine context env =
    unless_refused (first_refusal (submit_simple_refusals w who env)) (Does (answer.Queued next_number 1) (change.QueueCallback (simple_callback next_number routine context env)))
