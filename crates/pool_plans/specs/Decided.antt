-- The plan that a decision is, with the outcome and the change that are written down where the call is accepted; or none,
-- where no answer was written.
use Rattle.std.specs.Prelude.{Option, None, Some}
use Rattle.tp_base.specs.declared.answers.Outcome.{Outcome}
use Rattle.tp_base.specs.declared.answers.Outcome.TheVariants.{Done}
use Rattle.tp_base.specs.declared.plans.Change.{Change}
use Rattle.tp_base.specs.declared.plans.Plan.{Plan}
use Rattle.tp_base.specs.declared.plans.Plan.TheVariants.{Refused, Looked, Does}
use Rattle.pool_plans.specs.declared.decisions.Decision.{Decision}
use Rattle.pool_plans.specs.declared.decisions.Decision.TheVariants as decision

abbrev pub decided : Decision → Outcome → Change → Option Plan
decided (decision.Refused refusal) _ _ = Some (Refused refusal)
decided (decision.Looked look) _ _ = Some (Looked look)
decided decision.Accepted (Done answer) change = Some (Does answer change)
decided decision.Accepted _ _ = None
