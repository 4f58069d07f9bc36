-- Calls on objects in a world where two workers change places.
use Rattle.std.proofs.Common.{◌≡◌, ℕ, ◌+◌, ◌<◌, nat_le, nat_lt, [], ◌∷◌, ◌++◌, length, refl, ap, ap₂}
use Rattle.tp_base.specs.declared.answers.Answer.TheVariants as answer
use Rattle.tp_base.specs.declared.answers.Refusal.TheVariants.{ObjectLimit, OperationsOutstanding}
use Rattle.tp_base.specs.declared.calls.Environ.{Environ}
use Rattle.tp_base.specs.declared.calls.Kind.{Kind}
use Rattle.tp_base.specs.declared.ids.ObjectId.{ObjectId}
use Rattle.tp_base.specs.declared.ids.RoutineId.{RoutineId}
use Rattle.tp_base.specs.declared.ids.Who.{Who}
use Rattle.tp_base.specs.declared.plans.Change.TheVariants as change
use Rattle.tp_base.specs.declared.plans.Plan.TheVariants.{Does}
use Rattle.tp_base.specs.declared.rows.WaitTarget.TheVariants.{Object}
use Rattle.tp_model.specs.World.{World}
use Rattle.tp_model.specs.Calls.Objects.{close_object_plan, close_object_refusals, create_plan, create_refusals}
use Rattle.renamed_worlds.specs.Exchanged.{exchanged, exchanged_plan, exchanged_who}
use Rattle.renamed_worlds.proofs.Exchange.Queries.{operations_exchanged}
use Rattle.renamed_worlds.proofs.Exchange.Refusing.{environ_refusals_exchanged, object_refusals_exchanged, unless_exchanged}
use Rattle.renamed_worlds.proofs.Exchange.Waiting.{outstanding_exchanged}

module _ (at : ℕ) (w : World) (fits : at + 1 < length w.workers) (who : Who) where
  abbrev u : World
  u = exchanged at w

  abbrev v : Who
  v = exchanged_who at who

  pub create_exchanged : (kind : Kind) (routine : RoutineId) (context : ℕ) (env : Environ) → create_plan u v kind routine context env ≡ exchanged_plan at (create_plan w who kind routine context env)
  unfolding create_plan
  create_exchanged kind routine context env =
      unless_exchanged at (create_refusals u v env) (create_refusals w who env) _ _ (ap (λ rs. rs ++ (nat_le w.limits.objects (length w.objects), ObjectLimit) ∷ []) (environ_refusals_exchanged at w fits who env)) refl

  pub close_object_exchanged : (kind : Kind) (object : ObjectId) → close_object_plan u v kind object ≡ exchanged_plan at (close_object_plan w who kind object)
  unfolding close_object_plan
  close_object_exchanged kind object =
      unless_exchanged at (close_object_refusals u v kind object) (close_object_refusals w who kind object) _ _
      (ap₂ (λ rs b. rs ++ (b, OperationsOutstanding object) ∷ []) (object_refusals_exchanged at w fits who kind object.0) (operations_exchanged at w fits object.0))
      (ap (λ n. Does (answer.Closed (nat_lt 0 n)) (change.ReleaseObject object)) (outstanding_exchanged at w fits (Object object)))
