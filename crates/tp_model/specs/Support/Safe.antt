-- What is known of the plan of a call: its change is allowed, and made by the actor, and its entry is none of a refusal
-- and tells what the change has to tell.
use Rattle.std.specs.Prelude.{◌≡◌, ℕ, false}
use Rattle.tp_base.specs.declared.ids.Who.{Who}
use Rattle.tp_base.specs.declared.calls.Call.{Call}
use Rattle.tp_base.specs.declared.answers.Answer.{Answer}
use Rattle.tp_base.specs.declared.plans.Change.{Change}
use Rattle.tp_base.specs.declared.plans.Plan.{Plan}
use Rattle.tp_base.specs.declared.plans.Plan.TheVariants.{Refused, Looked, Does}
use Rattle.tp_model.specs.World.{World}
use Rattle.tp_model.specs.History.{is_refusal}
use Rattle.tp_model.specs.Support.Allowed.{IsAllowed, IsMadeBy}
use Rattle.tp_model.specs.Support.Told.{told_by_change, told_by}

pub record IsSafeChange (next_number : ℕ) (w : World) (who : Who) (call : Call) (answer : Answer) (ch : Change) : Type 0 where
  pub allowed : IsAllowed next_number w ch
  pub made_by : IsMadeBy w who ch
  pub accepted : is_refusal answer ≡ false
  pub tells : told_by (record { who = who; call = call; answer = answer }) ≡ told_by_change next_number w ch

abbrev pub IsSafe : ℕ → World → Who → Call → Plan → Type 0
IsSafe next_number w who call (Refused refusal) = Unit {0}
IsSafe next_number w who call (Looked look) = Unit {0}
IsSafe next_number w who call (Does answer ch) = IsSafeChange next_number w who call answer ch
