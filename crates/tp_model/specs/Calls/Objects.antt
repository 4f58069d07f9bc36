-- Calls on objects of all kinds: CreateThreadpoolWork and CloseThreadpoolWork, and their like for the other kinds.
use Rattle.std.specs.Prelude.{ℕ, ◌+◌, Bool, nat_le, nat_lt, List, [], ◌∷◌, ◌++◌, length}
use Rattle.tp_base.specs.declared.ids.Who.{Who}
use Rattle.tp_base.specs.declared.ids.ObjectId.{ObjectId}
use Rattle.tp_base.specs.declared.ids.RoutineId.{RoutineId}
use Rattle.tp_base.specs.declared.calls.Kind.{Kind}
use Rattle.tp_base.specs.declared.calls.Environ.{Environ}
use Rattle.tp_base.specs.declared.answers.Refusal.{Refusal}
use Rattle.tp_base.specs.declared.answers.Refusal.TheVariants.{OperationsOutstanding, ObjectLimit}
use Rattle.tp_base.specs.declared.answers.Answer.TheVariants as answer
use Rattle.tp_base.specs.declared.plans.Plan.{Plan}
use Rattle.tp_base.specs.declared.plans.Plan.TheVariants.{Does}
use Rattle.tp_base.specs.declared.plans.Change.TheVariants as change
use Rattle.tp_base.specs.declared.rows.WaitTarget.TheVariants.{Object}
use Rattle.tp_model.specs.World.{World}
use Rattle.tp_model.specs.Conditions.{has_operations}
use Rattle.tp_model.specs.Waits.{count_outstanding}
use Rattle.tp_model.specs.Sources.{new_object}
use Rattle.tp_model.specs.Refusing.{first_refusal, unless_refused, object_refusals, environ_refusals}

-- ---- Create: CreateThreadpoolWork and its like

abbrev pub create_refusals : World → Who → Environ → List (Bool × Refusal)
create_refusals w who env = environ_refusals w who env ++ (nat_le w.limits.objects (length w.objects), ObjectLimit) ∷ []

unfoldable pub create_plan : World → Who → Kind → RoutineId → ℕ → Environ → Plan
create_plan w who kind routine context env =
    unless_refused (first_refusal (create_refusals w who env))
    (Does (answer.Made (length w.objects + 1)) (change.CreateObject (new_object kind routine context env)))

-- ---- CloseObject: CloseThreadpoolWork and its like

abbrev pub close_object_refusals : World → Who → Kind → ObjectId → List (Bool × Refusal)
close_object_refusals w who kind object = object_refusals w who kind object.0 ++ (has_operations w object.0, OperationsOutstanding object) ∷ []

-- the object is freed once none of its callbacks is outstanding; those that are pending still run
unfoldable pub close_object_plan : World → Who → Kind → ObjectId → Plan
close_object_plan w who kind object =
    unless_refused (first_refusal (close_object_refusals w who kind object))
    (Does (answer.Closed (nat_lt 0 (count_outstanding (Object object) w))) (change.ReleaseObject object))
