-- Calls of clients: a client makes no further call.
use Rattle.std.specs.Prelude.{Bool, not, List, [], ◌∷◌}
use Rattle.tp_base.specs.declared.ids.Who.{Who}
use Rattle.tp_base.specs.declared.ids.Who.TheVariants.{Client, Worker}
use Rattle.tp_base.specs.declared.answers.Refusal.{Refusal}
use Rattle.tp_base.specs.declared.answers.Refusal.TheVariants.{NoSuch, WrongKind, Released, InWait}
use Rattle.tp_base.specs.declared.answers.Answer.TheVariants as answer
use Rattle.tp_base.specs.declared.plans.Plan.{Plan}
use Rattle.tp_base.specs.declared.plans.Plan.TheVariants.{Refused, Does}
use Rattle.tp_base.specs.declared.plans.Change.TheVariants as change
use Rattle.tp_model.specs.World.{World}
use Rattle.tp_model.specs.Conditions.{is_worker, is_actor, is_finished, is_in_wait}
use Rattle.tp_model.specs.Refusing.{first_refusal, unless_refused}

abbrev pub finish_refusals : World → Who → List (Bool × Refusal)
finish_refusals w who =
    (not (is_actor w who), NoSuch)
    ∷ (is_worker who, WrongKind)
    ∷ (is_finished w who, Released)
    ∷ (is_in_wait w who, InWait)
    ∷ []

abbrev pub finish : Who → Plan
finish (Client number) = Does answer.Done (change.Finish number)
finish (Worker number) = Refused WrongKind

unfoldable pub finish_plan : World → Who → Plan
finish_plan w who = unless_refused (first_refusal (finish_refusals w who)) (finish who)
