-- What the call that writes an entry down comes to, and what is remembered then.
use Rattle.std.specs.Prelude.{ℕ, nat_lt, if◌then◌else◌}
use Rattle.tp_base.specs.declared.answers.Answer.{Answer}
use Rattle.tp_base.specs.declared.answers.Outcome.{Outcome}
use Rattle.tp_base.specs.declared.answers.Outcome.TheVariants.{Done, Full}
use Rattle.tp_base.specs.declared.plans.Change.{Change}
use Rattle.tp_model.specs.Changes.{changed}
use Rattle.tp_model.specs.Support.Allowed.{price}
use Rattle.tp_model.specs.Support.Remembered.{Remembered, remembered_in}

-- full, where there is no room for what it costs
abbrev pub unless_dear : ℕ → ℕ → Outcome → Outcome
unless_dear room cost outcome = if nat_lt room cost then Full room cost else outcome

abbrev pub outcome_of_entry : ℕ → Answer → ℕ → Outcome
outcome_of_entry room answer cost = unless_dear room cost (Done answer)

abbrev pub after_entry : Remembered → ℕ → Change → Remembered
after_entry e room change = if nat_lt room (price change) then e else remembered_in e (changed e.world change)
