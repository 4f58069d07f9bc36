-- Calls on objects in a renamed world.
use Rattle.std.proofs.Common.{◌≡◌, ℕ, nat_le, nat_lt, [], ◌∷◌, ◌++◌, length, refl, ap, ap₂}
use Rattle.tp_base.specs.declared.answers.Answer.TheVariants as answer
use Rattle.tp_base.specs.declared.answers.Refusal.TheVariants.{ObjectLimit, OperationsOutstanding}
use Rattle.tp_base.specs.declared.calls.Environ.{Environ}
use Rattle.tp_base.specs.declared.calls.Kind.{Kind}
use Rattle.tp_base.specs.declared.ids.ObjectId.{ObjectId}
use Rattle.tp_base.specs.declared.ids.RoutineId.{RoutineId}
use Rattle.tp_base.specs.declared.ids.Who.{Who}
use Rattle.tp_base.specs.declared.plans.Change.TheVariants as change
use Rattle.tp_base.specs.declared.plans.Plan.TheVariants.{Does}
use Rattle.tp_base.specs.declared.rows.WaitTarget.TheVariants.{Object}
use Rattle.tp_model.specs.World.{World}
use Rattle.tp_model.specs.Calls.Objects.{close_object_plan, close_object_refusals, create_plan, create_refusals}
use Rattle.renamed_worlds.specs.Renamed.{renamed, renamed_plan, IsNaming}
use Rattle.renamed_worlds.proofs.Queries.{operations_renamed}
use Rattle.renamed_worlds.proofs.Refusing.{environ_refusals_renamed, object_refusals_renamed, unless_renamed}
use Rattle.renamed_worlds.proofs.Waiting.{outstanding_renamed}

module _ (name : ℕ → ℕ) (naming : IsNaming name) (w : World) (who : Who) where
  abbrev u : World
  u = renamed name w

  pub create_renamed : (kind : Kind) (routine : RoutineId) (context : ℕ) (env : Environ) → create_plan u who kind routine context env ≡ renamed_plan name (create_plan w who kind routine context env)
  unfolding create_plan
  create_renamed kind routine context env =
      unless_renamed name (create_refusals u who env) (create_refusals w who env) _ _ (ap (λ rs. rs ++ (nat_le w.limits.objects (length w.objects), ObjectLimit) ∷ []) (environ_refusals_renamed name naming w who env)) refl

  pub close_object_renamed : (kind : Kind) (object : ObjectId) → close_object_plan u who kind object ≡ renamed_plan name (close_object_plan w who kind object)
  unfolding close_object_plan
  close_object_renamed kind object =
      unless_renamed name (close_object_refusals u who kind object) (close_object_refusals w who kind object) _ _
      (ap₂ (λ rs b. rs ++ (b, OperationsOutstanding object) ∷ []) (object_refusals_renamed name naming w who kind object.0) (operations_renamed name naming w object.0))
      (ap (λ n. Does (answer.Closed (nat_lt 0 n)) (change.ReleaseObject object)) (outstanding_renamed name naming w (Object object)))
