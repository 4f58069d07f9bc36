-- The refusals that calls share are the same in a renamed world.
use Rattle.std.proofs.Common.{◌≡◌, ℕ, Bool, List, Option, Some, None, refl, ap₂, ◌∙◌}
use Rattle.tp_base.specs.declared.answers.Refusal.{Refusal}
use Rattle.tp_base.specs.declared.calls.Environ.{Environ}
use Rattle.tp_base.specs.declared.calls.Kind.{Kind}
use Rattle.tp_base.specs.declared.ids.Who.{Who}
use Rattle.tp_base.specs.declared.plans.Plan.{Plan}
use Rattle.tp_model.specs.World.{World}
use Rattle.tp_model.specs.Refusing.{actor_refusals, environ_refusals, first_refusal, object_refusals, unless_refused}
use Rattle.renamed_worlds.specs.Renamed.{renamed, renamed_plan, IsNaming}
use Rattle.renamed_worlds.proofs.Queries.{actor_renamed, in_wait_renamed, without_renamed}

module _ (name : ℕ → ℕ) where
  -- a plan that is refused or not, as the same plan of a renamed world is
  pub unless_renamed : (after before : List (Bool × Refusal)) (p q : Plan) → after ≡ before → p ≡ renamed_plan name q → unless_refused (first_refusal after) p ≡ renamed_plan name (unless_refused (first_refusal before) q)
  unless_renamed after before p q same is = ap₂ (λ rs x. unless_refused (first_refusal rs) x) same is ∙ refuses (first_refusal before)
    where
      refuses : (o : Option Refusal) → unless_refused o (renamed_plan name q) ≡ renamed_plan name (unless_refused o q)
      refuses None = refl
      refuses (Some refusal) = refl

  module _ (naming : IsNaming name) (w : World) (who : Who) where
    abbrev u : World
    u = renamed name w

    pub actor_refusals_renamed : actor_refusals u who ≡ actor_refusals w who
    actor_refusals_renamed = rw (actor_renamed name naming w who, without_renamed name naming w who, in_wait_renamed name naming w who)

    pub object_refusals_renamed : (kind : Kind) (object : ℕ) → object_refusals u who kind object ≡ object_refusals w who kind object
    object_refusals_renamed kind object = rw (actor_renamed name naming w who, without_renamed name naming w who, in_wait_renamed name naming w who)

    pub environ_refusals_renamed : (env : Environ) → environ_refusals u who env ≡ environ_refusals w who env
    environ_refusals_renamed env = rw (actor_renamed name naming w who, without_renamed name naming w who, in_wait_renamed name naming w who)
