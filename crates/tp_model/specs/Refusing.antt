-- Which refusal is answered.
use Rattle.std.specs.Prelude.{ℕ, Bool, not, ◌||◌, nat_le, List, [], ◌∷◌, ◌++◌, if◌then◌else◌, None, Some, Option}
use Rattle.tp_base.specs.declared.ids.Who.{Who}
use Rattle.tp_base.specs.declared.calls.Kind.{Kind}
use Rattle.tp_base.specs.declared.calls.Environ.{Environ}
use Rattle.tp_base.specs.declared.answers.Refusal.{Refusal}
use Rattle.tp_base.specs.declared.answers.Refusal.TheVariants.{NoSuch, WrongKind, Released, PoolClosed, GroupClosed, NotRunning, InWait, ObjectLimit}
use Rattle.tp_base.specs.declared.answers.Answer.TheVariants as answer
use Rattle.tp_base.specs.declared.plans.Plan.{Plan}
use Rattle.tp_base.specs.declared.plans.Plan.TheVariants.{Refused, Does}
use Rattle.tp_base.specs.declared.plans.Change.{Change}
use Rattle.tp_model.specs.World.{World}
use Rattle.tp_model.specs.Conditions.{is_actor, is_finished, is_without_callback, is_in_wait, is_pool, is_closed_pool, is_no_group_or_group, is_closed_group, is_object, is_object_of, is_released}

-- the first refusal whose condition holds
abbrev pub first_refusal : List (Bool × Refusal) → Option Refusal
first_refusal [] = None
first_refusal (r ∷ rs) = if r.0 then Some r.1 else first_refusal rs

abbrev pub unless_refused : Option Refusal → Plan → Plan
unless_refused (Some refusal) plan = Refused refusal
unless_refused None plan = plan

-- of each call that is on nothing that was made before, in front of those of its own
abbrev pub actor_refusals : World → Who → List (Bool × Refusal)
actor_refusals w who =
    (not (is_actor w who), NoSuch)
    ∷ (is_finished w who, Released)
    ∷ (is_without_callback w who, NotRunning)
    ∷ (is_in_wait w who, InWait)
    ∷ []

-- of a call that makes one more of what there may be so many of; behind those of its own
abbrev pub make_refusals : World → Who → List (Bool × Refusal) → ℕ → ℕ → List (Bool × Refusal)
make_refusals w who own limit count = actor_refusals w who ++ (own ++ (nat_le limit count, ObjectLimit) ∷ [])

-- such a call, by the number of what it makes
abbrev pub make : World → Who → List (Bool × Refusal) → ℕ → ℕ → ℕ → Change → Plan
make w who own limit count number change = unless_refused (first_refusal (make_refusals w who own limit count)) (Does (answer.Made number) change)

-- of each call on an object of a kind, before those of its own
abbrev pub object_refusals : World → Who → Kind → ℕ → List (Bool × Refusal)
object_refusals w who kind object =
    (not (is_actor w who) || not (is_object w object), NoSuch)
    ∷ (not (is_object_of w kind object), WrongKind)
    ∷ (is_finished w who || is_released w object, Released)
    ∷ (is_without_callback w who, NotRunning)
    ∷ (is_in_wait w who, InWait)
    ∷ []

-- of each call with an environment, before those of its own
abbrev pub environ_refusals : World → Who → Environ → List (Bool × Refusal)
environ_refusals w who env =
    (not (is_actor w who) || not (is_pool w env.pool.0) || not (is_no_group_or_group w env.group.0), NoSuch)
    ∷ (is_finished w who, Released)
    ∷ (is_closed_pool w env.pool.0, PoolClosed)
    ∷ (is_closed_group w env.group.0, GroupClosed)
    ∷ (is_without_callback w who, NotRunning)
    ∷ (is_in_wait w who, InWait)
    ∷ []
